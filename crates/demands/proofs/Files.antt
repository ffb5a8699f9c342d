-- The demands on jobs that take a P5 file, lifted from the job's: its page is the finished page of a tray.
-- Assumes nothing.
use mathlib.Core.Path.{◌≡◌, refl, sym, ap, ap₂, ◌∙◌, subst}
use mathlib.Core.List.{List}
use Prim.Native.Nat.{ℕ, ◌*◌, ◌≤◌, ◌<◌}
use native.Mathlib.Omega.{arith}
use lib.ListN.{length, get_or}
use Rattle.std.specs.Prelude.{Result}
use Rattle.refusal.specs.Answer.{is_done, work_in, Answer, done_with}
use Rattle.refusal.specs.Chain.{◌then◌, then_on, when_refused, giving_on}
use Rattle.refusal.specs.declared.Refused.{Refused}
use Rattle.ticket.specs.Judging as tickets
use Rattle.ticket.specs.Reading.{shown}
use Rattle.placement.specs.Placement.{pixel_in, source_page}
use Rattle.placement.specs.declared.Placement.{Placement}
use Rattle.tray.specs.Laws.{cleared_above, cleared_below, length_cleared}
use Rattle.pgm.specs.Reading.{judged}
use Rattle.pgm.specs.declared.Header.{Header}
use Rattle.job.specs.Job.{finished_with, job_work, lengths}
use Rattle.judging.specs.Pages.{job_scratch}
use Rattle.judging.specs.Judging.{judge_places}
use Rattle.judging.specs.declared.Lengths.{Lengths}
use Rattle.file.specs.FileJob.{header, file_page, file_answer, with_length, length_in, delivery, file_output_after}
use Rattle.file.specs.FileJob.{file_scratch_after}
use Rattle.file.proofs.Laws as files
use Rattle.file.specs.Places.{places_of, file_length}
use Rattle.file.specs.declared.Finished.{Finished}
use Rattle.demands.specs.Files.{source_of, SameRead, FileRefusedOutput, FileRefusedScratch}
use Rattle.demands.specs.Files.{FileRefusedWork, FileOutputKept, FileOutputLength, FileScratchZero}
use Rattle.demands.specs.Files.{FileScratchKept, FileScratchLength}
use Rattle.demands.specs.Files.{FileReadsBack, FilePageBack, FileHidden, FileWork, FileOnePass, FileSame}
use Rattle.demands.specs.Files.{FileReach, FilePageAlone}
use Rattle.demands.specs.Reach.{AgreeNear, AgreeOnPage}
use Rattle.demands.specs.Same.{SameLengths}
use Rattle.demands.proofs.Near.{near_in}
use Rattle.demands.proofs.Reach.{finished_same, finished_hidden}
use Rattle.demands.proofs.Same.{same_lengths}
use Rattle.demands.proofs.Untouched.{when_either, not_done, no_work}
use Rattle.demands.proofs.Work.{one_pass_work, two_pass_work}

-- ---- what is written

pub file_refused_output : FileRefusedOutput
unfolding file_output_after
file_refused_output ticket file out scratch refused =
    when_refused (file_answer ticket file (lengths file out scratch)) _ out (not_done _ refused)

pub file_refused_scratch : FileRefusedScratch
unfolding file_scratch_after
file_refused_scratch ticket file out scratch refused =
    when_refused (file_answer ticket file (lengths file out scratch)) _ scratch (not_done _ refused)

pub file_refused_work : FileRefusedWork
file_refused_work ticket file out scratch refused = no_work (file_answer ticket file (lengths file out scratch)) refused

pub file_output_length : FileOutputLength
unfolding file_output_after
file_output_length ticket file out scratch =
    when_either (λ (tray : List ℕ). length tray ≡ length out) (file_answer ticket file (lengths file out scratch)) _ out
    refl
    (λ work e.
    ap length (sym (files.output_is ticket file out scratch work e))
    ∙ files.output_length ticket file out scratch work e)

pub file_output_kept : FileOutputKept
unfolding file_output_after delivery with_length length_in is_done
file_output_kept ticket file out scratch i past =
    let given : Answer = file_answer ticket file (lengths file out scratch) in
    when_either (λ (tray : List ℕ). get_or tray i 0 ≡ get_or out i 0) given _ out refl
    (λ work e.
    let told = ap length_in (giving_on given (record { work = work_in given; length = file_length (header file) }) (ap is_done e)) in
    ap (λ (tray : List ℕ). get_or tray i 0) (sym (files.output_is ticket file out scratch work e))
    ∙ files.file_rest ticket file out scratch work e i (omega (arith, past, told)))

pub file_scratch_zero : FileScratchZero
file_scratch_zero ticket file out scratch work e i below =
    ap (λ (tray : List ℕ). get_or tray i 0) (files.scratch_is ticket file out scratch work e)
    ∙ cleared_below (job_scratch (shown ticket) (places_of (header file))) scratch i below

pub file_scratch_kept : FileScratchKept
unfolding file_scratch_after
file_scratch_kept ticket file out scratch i past =
    when_either (λ (tray : List ℕ). get_or tray i 0 ≡ get_or scratch i 0)
    (file_answer ticket file (lengths file out scratch)) _ scratch refl
    (λ work e. cleared_above (job_scratch (shown ticket) (places_of (header file))) scratch i past)

pub file_scratch_length : FileScratchLength
unfolding file_scratch_after
file_scratch_length ticket file out scratch =
    when_either (λ (tray : List ℕ). length tray ≡ length scratch) (file_answer ticket file (lengths file out scratch)) _
    scratch
    refl
    (λ work e.
    length_cleared (job_scratch (shown ticket) (places_of (header file))) scratch
    (files.file_stands ticket file out scratch work e).room)

-- ---- what was written, read back

pub file_reads_back : FileReadsBack
file_reads_back ticket file out scratch work done = files.told_back ticket file out scratch work done

pub file_page_back : FilePageBack
file_page_back ticket file out scratch work done c r c_in r_in =
    ap (λ (p : Placement). pixel_in (file_output_after ticket file out scratch) p c r)
    (files.place_back ticket file out scratch work done)
    ∙ files.file_pixel ticket file out scratch work done c r c_in r_in

-- ---- hidden pixels and work

pub file_hidden : FileHidden
unfolding file_page
file_hidden ticket file out scratch work done c r c_in r_in hid =
    files.file_pixel ticket file out scratch work done c r c_in r_in
    ∙ finished_hidden (header file).maximum (shown ticket) (source_of file) file c r hid

pub file_work : FileWork
file_work ticket file n work done =
    let worked = (files.finished_file ticket file n work done).worked in
    subst (λ (k : ℕ). k ≤ 6 * ((header file).width * (header file).height)) worked
    (two_pass_work (shown ticket) (header file).width (header file).height)

pub file_one_pass : FileOnePass
file_one_pass ticket file n work done one =
    let worked = (files.finished_file ticket file n work done).worked in
    subst (λ (k : ℕ). k ≤ 3 * ((header file).width * (header file).height)) worked
    (one_pass_work (shown ticket) (header file).width (header file).height one)

-- ---- what answers and pixels depend on

same_answer :
    (ticket file file' : List ℕ) (n n' : Lengths) → SameRead file file' → n ≡ n'
    → file_answer ticket file n ≡ file_answer ticket file' n'
unfolding file_answer
same_answer ticket file file' n n' read same =
    ap (λ (a : Answer). tickets.judged ticket then a)
    (then_on (judged file) _ read.one
    ∙ ap₂
    (λ (h : Header) (m : Lengths).
    judge_places (shown ticket) (places_of h) m then done_with (job_work (shown ticket) h.width h.height))
    read.headers
    same
    ∙ sym (then_on (judged file') _ read.two))

module _ (ticket file file' out out' scratch scratch' : List ℕ) (read : SameRead file file')
    (same : SameLengths file file' out out' scratch scratch') where
  answers :
      file_answer ticket file (lengths file out scratch) ≡ file_answer ticket file' (lengths file' out' scratch')
  answers =
      same_answer ticket file file' (lengths file out scratch) (lengths file' out' scratch') read
      (same_lengths (lengths file out scratch) (lengths file' out' scratch') same.sources same.outputs
      same.scratches)

pub file_same : FileSame
unfolding delivery
file_same ticket file file' out out' scratch scratch' read same =
    ap₂ {C = Result Finished Refused} (λ (a : Answer) (h : Header). with_length a (file_length h))
    (answers ticket file file' out out' scratch scratch' read same)
    read.headers

pub file_reach : FileReach
unfolding file_page
file_reach ticket file file' out out' scratch scratch' work bytes read same done c r c_in r_in agree =
    let second = sym (answers ticket file file' out out' scratch scratch' read same) ∙ done in
    let ok = files.file_allowed ticket file (lengths file out scratch) work bytes done in
    files.file_pixel ticket file out scratch work done c r c_in r_in
    ∙ finished_same (shown ticket) (source_of file) file file' c r agree (header file).maximum ok
    ∙ ap (λ (h : Header). finished_with h.maximum (shown ticket) (source_page (places_of h)) file' c r) read.headers
    ∙ sym
    (files.file_pixel ticket file' out' scratch' work second c r
    (subst (λ (h : Header). c < h.width) read.headers c_in)
    (subst (λ (h : Header). r < h.height) read.headers r_in))

pub file_page_alone : FilePageAlone
unfolding source_page places_of AgreeNear AgreeOnPage
file_page_alone ticket file file' out out' scratch scratch' work bytes read same done agree c r c_in r_in =
    file_reach ticket file file' out out' scratch scratch' work bytes read same done c r c_in r_in
    (λ c' r' near shows.
    let there = near_in (shown ticket) (source_of file) c r c' r' near in
    agree c' r' there.0 there.1 shows)
