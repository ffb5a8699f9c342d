-- The demands that are theorems over the definitions of a job, of a job on a file, of a list of jobs and of a question:
-- every statement of this crate, in one record.
-- proofs/Demands.antt has its proof.
-- Assumes nothing.
use Rattle.demands.specs.Same.{SameAnswer, SameNumber, SamePlace, SameWork}
use Rattle.demands.specs.Untouched.{OutputKept, OutputLength, ScratchKept, ScratchLength, ScratchZero}
use Rattle.demands.specs.Untouched.{RefusedOutput, RefusedScratch, RefusedWork}
use Rattle.demands.specs.Work.{PassWork, OnePassWork, TwoPassWork, FinishedWork, FinishedOnePass}
use Rattle.demands.specs.Work.{FinishedTwoPasses}
use Rattle.demands.specs.Near.{NearIn, NearSelf, NearStep, NearBack}
use Rattle.demands.specs.Reach.{Reach, PageAlone, HiddenWhite}
use Rattle.demands.specs.Exact.{ClearSteps, ExactReach, ExactJobReach}
use Rattle.demands.specs.Flip.{FlippedPage, FlippedWork, FlippedAnswer, FlippedJob, FlippedJobWork, FlippedFile}
use Rattle.demands.specs.Flip.{FlippedFileWork, FlippedVector, FlippedBoxes, FlippedBack, LevelLine}
use Rattle.demands.specs.Files.{FileOutputKept, FileOutputLength, FileScratchKept, FileScratchLength}
use Rattle.demands.specs.Files.{FileScratchZero, FileRefusedOutput, FileRefusedScratch, FileRefusedWork}
use Rattle.demands.specs.Files.{FileReadsBack, FilePageBack, FileHidden, FileWork, FileOnePass}
use Rattle.demands.specs.Files.{FileSame, FileReach, FilePageAlone, FileExact}
use Rattle.demands.specs.Lists.{ListSingle, ListSame, ListTold, ListZeroPast, ListZeroAt18, ListUntoldAt100}
use Rattle.demands.specs.Lists.{ListAnswersKept, ListAnswersLength, ListRefusedTrays, ListRefusedJob}
use Rattle.demands.specs.Lists.{ListOutputKept, ListOutputLength, ListScratchKept, ListScratchLength}
use Rattle.demands.specs.Lists.{ListScratchZero, ListLaterWins, ListPage, ListHidden, ListReach, ListPageAlone}
use Rattle.demands.specs.Lists.{ListExact}
use Rattle.demands.specs.Why.{WhyRefused, WhyOffPage, WhyNineteen, WhyDone, WhyBox, NamesOne, WhyErosion}
use Rattle.demands.specs.Why.{WhyDilation, WhyOpening, WhyClosing, WhySame, WhySameRefused, WhyReach}

pub record Demands : Type 0 where
  -- 1. a refused job writes nothing; a finished one writes only its page and leaves the scratch it used at zero
  pub output_kept : OutputKept
  pub output_length : OutputLength
  pub scratch_kept : ScratchKept
  pub scratch_length : ScratchLength
  pub scratch_zero : ScratchZero
  pub refused_output : RefusedOutput
  pub refused_scratch : RefusedScratch
  pub refused_work : RefusedWork
  -- 2. the work is at most three comparisons a pixel and pass
  pub pass_work_lem : PassWork
  pub one_pass_work : OnePassWork
  pub two_pass_work : TwoPassWork
  pub finished_work : FinishedWork
  pub finished_one_pass : FinishedOnePass
  pub finished_two_passes : FinishedTwoPasses
  -- 3. two jobs with the same ticket, placements and lengths have the same answer
  pub same_answer : SameAnswer
  pub same_number : SameNumber
  pub same_place : SamePlace
  pub same_work : SameWork
  -- 3. a pixel depends only on unhidden pixels of its own line fewer than L steps away
  pub near_in : NearIn
  pub near_self : NearSelf
  pub near_step : NearStep
  pub near_back : NearBack
  pub reach : Reach
  pub page_alone : PageAlone
  pub hidden_white : HiddenWhite
  -- 3. for operations 3 and 4 that reach is exact
  pub clear_steps : ClearSteps
  pub exact_reach : ExactReach
  pub exact_job_reach : ExactJobReach
  -- document 02, wish 2: a flipped page, filtered with the flipped ticket, is the flipped result, for the same work
  pub flipped_page : FlippedPage
  pub flipped_work : FlippedWork
  pub flipped_answer : FlippedAnswer
  pub flipped_job : FlippedJob
  pub flipped_job_work : FlippedJobWork
  pub flipped_file : FlippedFile
  pub flipped_file_work : FlippedFileWork
  pub flipped_vector : FlippedVector
  pub flipped_boxes : FlippedBoxes
  pub flipped_back : FlippedBack
  pub level_line : LevelLine
  -- the same demands on a job on a file. 1. it writes the file and nothing else, and what it wrote reads back
  pub file_output_kept : FileOutputKept
  pub file_output_length : FileOutputLength
  pub file_scratch_kept : FileScratchKept
  pub file_scratch_length : FileScratchLength
  pub file_scratch_zero : FileScratchZero
  pub file_refused_output : FileRefusedOutput
  pub file_refused_scratch : FileRefusedScratch
  pub file_refused_work : FileRefusedWork
  pub file_reads_back : FileReadsBack
  pub file_page_back : FilePageBack
  -- 2. hidden pixels come out as the maximum, and the work is bounded
  pub file_hidden : FileHidden
  pub file_work : FileWork
  pub file_one_pass : FileOnePass
  -- 3. for files that are read with the same sides, start and maximum: same answer, reach, exact reach
  pub file_same : FileSame
  pub file_reach : FileReach
  pub file_page_alone : FilePageAlone
  pub file_exact : FileExact
  -- document 02, wish 3: a list of jobs. Its answers are those of single calls, and depend on no byte of the trays
  pub list_single : ListSingle
  pub list_same : ListSame
  pub list_told : ListTold
  pub list_zero_past : ListZeroPast
  pub list_zero_at_18 : ListZeroAt18
  pub list_untold_at_100 : ListUntoldAt100
  pub list_answers_kept : ListAnswersKept
  pub list_answers_length : ListAnswersLength
  -- 1. it writes the finished pages and nothing else, the later job's bytes where pages overlap
  pub list_refused_trays : ListRefusedTrays
  pub list_refused_job : ListRefusedJob
  pub list_output_kept : ListOutputKept
  pub list_output_length : ListOutputLength
  pub list_scratch_kept : ListScratchKept
  pub list_scratch_length : ListScratchLength
  pub list_scratch_zero : ListScratchZero
  pub list_later_wins : ListLaterWins
  -- 2. and 3., of each job's page as that job leaves it
  pub list_page : ListPage
  pub list_hidden : ListHidden
  pub list_reach : ListReach
  pub list_page_alone : ListPageAlone
  pub list_exact : ListExact
  -- document 02, wish 4: a question. It is refused as its job is, and with 19 exactly off the page
  pub why_refused : WhyRefused
  pub why_off_page : WhyOffPage
  pub why_nineteen : WhyNineteen
  pub why_done : WhyDone
  -- it names the true reason and the first one
  pub why_box : WhyBox
  pub names_one : NamesOne
  pub why_erosion : WhyErosion
  pub why_dilation : WhyDilation
  pub why_opening : WhyOpening
  pub why_closing : WhyClosing
  -- 3. the answer depends on no byte of the source, the reason on the unhidden pixels near the pixel
  pub why_same : WhySame
  pub why_same_refused : WhySameRefused
  pub why_reach : WhyReach
