-- What a job leaves alone: read off what its trays hold afterwards.
-- Assumes nothing.
use mathlib.Core.Path.{◌≡◌, refl, sym, ap, ◌∙◌}
use Rattle.std.specs.Prelude.{Err, Ok}
use mathlib.Core.Bool.{Bool, true, false}
use mathlib.Core.Logic.{by_cases}
use mathlib.Core.List.{List}
use Prim.Native.Nat.{ℕ, ◌≤◌}
use native.Mathlib.Decide.{dec_lt}
use native.Mathlib.Omega.{arith}
use lib.ListN.{length, get_or}
use Rattle.refusal.specs.Answer.{number_of, work_in, is_done, when_done, Answer, done_with}
use Rattle.refusal.specs.Chain.{when_done_lem, when_refused}
use Rattle.ticket.specs.Reading.{shown}
use Rattle.placement.specs.Placement.{inside, source_page, output_page}
use Rattle.placement.proofs.Laws.{inside_pixel}
use Rattle.placement.specs.declared.Placement.{Placement}
use Rattle.placement.specs.declared.Placements.{Placements}
use Rattle.tray.specs.Written.{cleared}
use Rattle.tray.specs.Laws.{written_outside, length_written, cleared_above, cleared_below, length_cleared}
use Rattle.job.specs.Job.{finished, answer, lengths, output_after, scratch_after}
use Rattle.judging.specs.Pages.{job_scratch}
use Rattle.job.specs.Laws.{finished_stands}
use Rattle.demands.specs.Untouched.{OffPage, OutputKept, OutputLength, ScratchKept, ScratchLength, ScratchZero}
use Rattle.demands.specs.Untouched.{RefusedOutput, RefusedScratch, RefusedWork}

-- ---- what each answer makes of a tray

-- what holds of a finished tray and of a kept one holds whatever the answer is
pub when_either {ℓ} :
    {X : Type ℓ} (P : X → Type 0) (a : Answer) (done kept : X) → P kept → ((work : ℕ) → a ≡ done_with work → P done)
    → P (when_done a done kept)
unfolding when_done
when_either P (Ok work) done kept k d = d work refl
when_either P (Err refused) done kept k d = k

-- an answer with a refusal's number is not done, and has no work
pub not_done : (a : Answer) → (number_of a ≡ 0 → ⊥) → is_done a ≡ false
unfolding number_of is_done
not_done (Ok work) refused = absurd (refused refl)
not_done (Err other) refused = refl

pub no_work : (a : Answer) → (number_of a ≡ 0 → ⊥) → work_in a ≡ 0
unfolding number_of work_in
no_work (Ok work) refused = absurd (refused refl)
no_work (Err other) refused = refl

-- ---- the trays

off_page : (p : Placement) (i : ℕ) → OffPage p i → inside p i ≡ false
unfolding OffPage
off_page p i off = by_place (inside p i) refl
  where
    by_place : (b : Bool) → inside p i ≡ b → inside p i ≡ false
    by_place true e = let x = inside_pixel p i e in absurd (off _ _ x.column x.row (sym x.byte))
    by_place false e = e

-- a byte that is off the page if there is a finished one
pub output_kept_if :
    (ticket : List ℕ) (p : Placements) (source out scratch : List ℕ) (i : ℕ)
    → ((work : ℕ) → answer ticket p (lengths source out scratch) ≡ done_with work → OffPage (output_page p) i)
    → get_or (output_after ticket p source out scratch) i 0 ≡ get_or out i 0
unfolding output_after
output_kept_if ticket p source out scratch i off =
    when_either (λ (tray : List ℕ). get_or tray i 0 ≡ get_or out i 0)
    (answer ticket p (lengths source out scratch)) _ out refl
    (λ work e.
    written_outside (output_page p) (finished (shown ticket) (source_page p) source) out i
    (off_page (output_page p) i (off work e)))

pub output_kept : OutputKept
output_kept ticket p source out scratch i off = output_kept_if ticket p source out scratch i (λ work e. off)

pub output_length : OutputLength
unfolding output_after
output_length ticket p source out scratch =
    when_either (λ (tray : List ℕ). length tray ≡ length out) (answer ticket p (lengths source out scratch)) _ out refl
    (λ work e. length_written (output_page p) (finished (shown ticket) (source_page p) source) out)

-- a byte that is past what is used if there is a finished page
pub scratch_kept_if :
    (ticket : List ℕ) (p : Placements) (source out scratch : List ℕ) (i : ℕ)
    → ((work : ℕ) → answer ticket p (lengths source out scratch) ≡ done_with work → job_scratch (shown ticket) p ≤ i)
    → get_or (scratch_after ticket p source out scratch) i 0 ≡ get_or scratch i 0
unfolding scratch_after
scratch_kept_if ticket p source out scratch i past =
    when_either (λ (tray : List ℕ). get_or tray i 0 ≡ get_or scratch i 0)
    (answer ticket p (lengths source out scratch)) _ scratch refl
    (λ work e. cleared_above (job_scratch (shown ticket) p) scratch i (past work e))

pub scratch_kept : ScratchKept
scratch_kept ticket p source out scratch i past = scratch_kept_if ticket p source out scratch i (λ work e. past)

-- a byte that is zero stays so
pub scratch_stays_zero :
    (ticket : List ℕ) (p : Placements) (source out scratch : List ℕ) (i : ℕ) → get_or scratch i 0 ≡ 0
    → get_or (scratch_after ticket p source out scratch) i 0 ≡ 0
unfolding scratch_after
scratch_stays_zero ticket p source out scratch i none =
    let used : ℕ = job_scratch (shown ticket) p in
    when_either (λ (tray : List ℕ). get_or tray i 0 ≡ 0) (answer ticket p (lengths source out scratch)) _ scratch none
    (λ work e.
    by_cases (dec_lt i used) (λ below. cleared_below used scratch i below)
    (λ past. cleared_above used scratch i (omega arith) ∙ none))

pub scratch_length : ScratchLength
unfolding scratch_after
scratch_length ticket p source out scratch =
    when_either (λ (tray : List ℕ). length tray ≡ length scratch)
    (answer ticket p (lengths source out scratch)) _ scratch refl
    (λ work e.
    length_cleared (job_scratch (shown ticket) p) scratch
    (finished_stands ticket p (lengths source out scratch) work e).room)

pub scratch_zero : ScratchZero
unfolding scratch_after is_done
scratch_zero ticket p source out scratch work e i below =
    let used : ℕ = job_scratch (shown ticket) p in
    rw (when_done_lem (answer ticket p (lengths source out scratch)) (cleared used scratch) scratch (ap is_done e))
    (cleared_below used scratch i (omega arith))

pub refused_output : RefusedOutput
unfolding output_after
refused_output ticket p source out scratch refused =
    when_refused (answer ticket p (lengths source out scratch)) _ out (not_done _ refused)

pub refused_scratch : RefusedScratch
unfolding scratch_after
refused_scratch ticket p source out scratch refused =
    when_refused (answer ticket p (lengths source out scratch)) _ scratch (not_done _ refused)

pub refused_work : RefusedWork
refused_work ticket p source out scratch refused = no_work (answer ticket p (lengths source out scratch)) refused
