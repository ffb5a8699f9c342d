-- The demands on jobs that take a P5 file. Document 02, wish 1: "Demands 2 and 3 speak of pages once read, as 17 looks
-- at hidden pixels too."
-- Assumes nothing.
use Rattle.std.specs.Prelude.{◌≡◌, true, ◌≢◌, List, ℕ, ◌*◌, ◌≤◌, ◌<◌, length, get_or, Ok}
use Rattle.refusal.specs.Answer.{number_of, work_in, is_done, done_with}
use Rattle.ticket.specs.Laws.{Allowed, Bytes}
use Rattle.ticket.specs.Reading.{shown}
use Rattle.ticket.specs.declared.Ticket.{Ticket}
use Rattle.boxes.specs.Boxes.{hidden, boxes_of}
use Rattle.placement.specs.Placement.{byte_of, pixel_in, longest_side, source_page, output_page}
use Rattle.placement.specs.declared.Placement.{Placement}
use Rattle.heading.specs.Writing.{header_of}
use Rattle.pgm.specs.Reading.{judged, reading}
use Rattle.pgm.specs.declared.Header.{Header}
use Rattle.judging.specs.Pages.{job_scratch}
use Rattle.job.specs.Job.{lengths}
use Rattle.judging.specs.declared.Lengths.{Lengths}
use Rattle.file.specs.FileJob.{header, file_page, file_answer, delivery, length_in, file_output_after, file_scratch_after}
use Rattle.file.specs.Places.{header_for, places_of}
use Rattle.demands.specs.Same.{SameLengths}
use Rattle.demands.specs.Near.{Near}
use Rattle.demands.specs.Reach.{AgreeNear, AgreeOnPage}
use Rattle.demands.specs.Exact.{OpensOrCloses, Clear}
use Rattle.demands.specs.Work.{OnePass}

-- where the page of a file stands in the file, and in the file that is written
abbrev pub source_of : List ℕ → Placement
source_of file = source_page (places_of (header file))

abbrev pub output_of : List ℕ → Placement
output_of file = output_page (places_of (header file))

-- two files are read with the same sides, start and maximum
pub record SameRead (file file' : List ℕ) : Type 0 where
  pub one : is_done (judged file) ≡ true
  pub two : is_done (judged file') ≡ true
  pub headers : header file ≡ header file'

-- ---- 1. what a job on a file writes

-- the job is refused: its answer has a refusal's number
abbrev pub FileRefused : List ℕ → List ℕ → List ℕ → List ℕ → Type 0
FileRefused ticket file out scratch = number_of (file_answer ticket file (lengths file out scratch)) ≡ 0 → ⊥

-- "nothing is written at a refusal", neither in the output
abbrev pub FileRefusedOutput : Type 0
FileRefusedOutput =
    (ticket file out scratch : List ℕ) → FileRefused ticket file out scratch
    → file_output_after ticket file out scratch ≡ out

-- nor in the scratch, and no work is told
abbrev pub FileRefusedScratch : Type 0
FileRefusedScratch =
    (ticket file out scratch : List ℕ) → FileRefused ticket file out scratch
    → file_scratch_after ticket file out scratch ≡ scratch

abbrev pub FileRefusedWork : Type 0
FileRefusedWork =
    (ticket file out scratch : List ℕ) → FileRefused ticket file out scratch
    → work_in (file_answer ticket file (lengths file out scratch)) ≡ 0

-- "later output bytes keep their values": every job, behind the length that it tells
abbrev pub FileOutputKept : Type 0
FileOutputKept =
    (ticket file out scratch : List ℕ) (i : ℕ) → length_in (delivery ticket file (lengths file out scratch)) ≤ i
    → get_or (file_output_after ticket file out scratch) i 0 ≡ get_or out i 0

abbrev pub FileOutputLength : Type 0
FileOutputLength =
    (ticket file out scratch : List ℕ) → length (file_output_after ticket file out scratch) ≡ length out

-- "they hold zero at the end of a finished job. Later scratch bytes keep their values."
abbrev pub FileScratchZero : Type 0
FileScratchZero =
    (ticket file out scratch : List ℕ) (work : ℕ) → file_answer ticket file (lengths file out scratch) ≡ done_with work
    → (i : ℕ) → i < job_scratch (shown ticket) (places_of (header file))
    → get_or (file_scratch_after ticket file out scratch) i 0 ≡ 0

abbrev pub FileScratchKept : Type 0
FileScratchKept =
    (ticket file out scratch : List ℕ) (i : ℕ) → job_scratch (shown ticket) (places_of (header file)) ≤ i
    → get_or (file_scratch_after ticket file out scratch) i 0 ≡ get_or scratch i 0

abbrev pub FileScratchLength : Type 0
FileScratchLength =
    (ticket file out scratch : List ℕ) → length (file_scratch_after ticket file out scratch) ≡ length scratch

-- "Each header field we write ends in one newline; read back, a page is the same.": a finished job's output, with
-- whatever stands behind the file, is read as the sides and the maximum that the job's own file had,
abbrev pub FileReadsBack : Type 0
FileReadsBack =
    (ticket file out scratch : List ℕ) (work : ℕ) → file_answer ticket file (lengths file out scratch) ≡ done_with work
    → reading (file_output_after ticket file out scratch)
    ≡ Ok
    (record {
      width = (header file).width;
      height = (header file).height;
      maximum = (header file).maximum;
      start = length (header_for (header file));
    })

-- and as the page that was made
abbrev pub FilePageBack : Type 0
FilePageBack =
    (ticket file out scratch : List ℕ) (work : ℕ) → file_answer ticket file (lengths file out scratch) ≡ done_with work
    → (c r : ℕ) → c < (header file).width → r < (header file).height
    → pixel_in (file_output_after ticket file out scratch) (source_of (file_output_after ticket file out scratch)) c r
    ≡ file_page (shown ticket) file c r

-- ---- 2. hidden pixels and work

-- "a hidden pixel coming out as that maximum"
abbrev pub FileHidden : Type 0
FileHidden =
    (ticket file out scratch : List ℕ) (work : ℕ) → file_answer ticket file (lengths file out scratch) ≡ done_with work
    → (c r : ℕ) → c < (header file).width → r < (header file).height → hidden (boxes_of (shown ticket)) c r ≡ true
    → pixel_in (file_output_after ticket file out scratch) (output_of file) c r ≡ (header file).maximum

-- the work is that of the ticket and the sides: at most three comparisons a pixel and pass
abbrev pub FileWork : Type 0
FileWork =
    (ticket file : List ℕ) (n : Lengths) (work : ℕ) → file_answer ticket file n ≡ done_with work
    → work ≤ 6 * ((header file).width * (header file).height)

abbrev pub FileOnePass : Type 0
FileOnePass =
    (ticket file : List ℕ) (n : Lengths) (work : ℕ) → file_answer ticket file n ≡ done_with work → OnePass (shown ticket)
    → work ≤ 3 * ((header file).width * (header file).height)

-- ---- 3. what answers and pixels depend on

-- two files that are read with the same sides, start and maximum, in buffers of the same lengths, have the same answer
-- and the same length written
abbrev pub FileSame : Type 0
FileSame =
    (ticket file file' out out' scratch scratch' : List ℕ) → SameRead file file'
    → SameLengths file file' out out' scratch scratch'
    → delivery ticket file (lengths file out scratch) ≡ delivery ticket file' (lengths file' out' scratch')

-- THE REACH, for two such files: where they agree on the unhidden pixels near column c, row r, the files that are
-- written have the same pixel there, whatever stood in the outputs and the scratches
abbrev pub FileReach : Type 0
FileReach =
    (ticket file file' out out' scratch scratch' : List ℕ) (work : ℕ) → Bytes ticket → SameRead file file'
    → SameLengths file file' out out' scratch scratch' → file_answer ticket file (lengths file out scratch) ≡ done_with work
    → (c r : ℕ) → c < (header file).width → r < (header file).height
    → AgreeNear (shown ticket) (source_of file) file file' c r
    → pixel_in (file_output_after ticket file out scratch) (output_of file) c r
    ≡ pixel_in (file_output_after ticket file' out' scratch') (output_of file') c r

-- so comments, images behind the first and the bytes under the boxes count nowhere
abbrev pub FilePageAlone : Type 0
FilePageAlone =
    (ticket file file' out out' scratch scratch' : List ℕ) (work : ℕ) → Bytes ticket → SameRead file file'
    → SameLengths file file' out out' scratch scratch' → file_answer ticket file (lengths file out scratch) ≡ done_with work
    → AgreeOnPage (shown ticket) (source_of file) file file'
    → (c r : ℕ) → c < (header file).width → r < (header file).height
    → pixel_in (file_output_after ticket file out scratch) (output_of file) c r
    ≡ pixel_in (file_output_after ticket file' out' scratch') (output_of file') c r

-- the header of a file as it is written
abbrev pub as_written : ℕ → ℕ → ℕ → Header
as_written width height maximum =
    record {
      width = width;
      height = height;
      maximum = maximum;
      start = length (header_of width height maximum);
    }

-- two files that are read with one header differ at one byte at most, that of column c', row r', and their finished
-- pages differ at column c, row r
pub record FileMatters (t : Ticket) (h : Header) (c r c' r' : ℕ) : Type 0 where
  pub one : List ℕ
  pub two : List ℕ
  pub read : SameRead one two
  pub header_is : header one ≡ h
  pub same_length : length one ≡ length two
  pub same_elsewhere : (i : ℕ) → i ≢ byte_of (source_page (places_of h)) c' r' → get_or one i 0 ≡ get_or two i 0
  pub results_differ : file_page t one c r ≢ file_page t two c r

-- THE REACH IS EXACT, for files of all sides and maxima: each near pixel matters to a clear one
abbrev pub FileExact : Type 0
FileExact =
    (t : Ticket) (width height maximum c r : ℕ) → Allowed t → OpensOrCloses t → 1 ≤ width → width ≤ longest_side
    → 1 ≤ height → height ≤ longest_side → 1 ≤ maximum → maximum ≤ 255
    → Clear t (source_page (places_of (as_written width height maximum))) c r
    → (c' r' : ℕ) → Near t (source_page (places_of (as_written width height maximum))) c r c' r'
    → FileMatters t (as_written width height maximum) c r c' r'
