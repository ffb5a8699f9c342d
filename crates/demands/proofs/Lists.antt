-- The demands on a whole tray in one call, lifted from the job's: each job of a list is a single call.
-- Assumes nothing.
use mathlib.Core.Path.{◌≡◌, refl, sym, ap, ap₂, ◌∙◌, subst}
use Rattle.std.specs.Prelude.{Err, Ok}
use mathlib.Core.Bool.{true, false≢true}
use mathlib.Core.List.{List}
use Prim.Native.Nat.{ℕ, zero, suc, ◌+◌, ◌-◌, ◌≤◌, ◌<◌}
use native.Mathlib.Nat.{add-zero, add-suc}
use native.Mathlib.Omega.{arith}
use lib.ListN.{length, get_or}
use Rattle.refusal.specs.Answer.{work_in, is_done, when_done, Answer, done_with}
use Rattle.refusal.specs.Chain.{when_done_lem, when_refused}
use Rattle.ticket.specs.Reading.{shown}
use Rattle.placement.specs.Placement.{pixel_in, byte_of, source_page, output_page}
use Rattle.placement.specs.declared.Placements.{Placements}
use Rattle.job.specs.Job.{finished, answer, lengths}
use Rattle.judging.specs.Pages.{job_scratch}
use Rattle.job.specs.Laws.{output_pixel}
use Rattle.listing.specs.Listed.{places_in, ticket_in, listed_at}
use Rattle.batch.specs.Batch.{Lent, lent, Trays, trays, single_answer, after_job, trays_after, answer_at}
use Rattle.batch.specs.Call.{answer_of, list_output_after, list_scratch_after}
use Rattle.batch.proofs.Laws.{ticket_bytes}
use Rattle.demands.specs.Same.{SameLengths}
use Rattle.demands.specs.Untouched.{OffPage}
use Rattle.demands.specs.Lists.{JobDone, ListSingle, ListRefusedTrays, ListRefusedJob, ListOutputKept}
use Rattle.demands.specs.Lists.{ListOutputLength, ListScratchKept, ListScratchZero, ListScratchLength}
use Rattle.demands.specs.Lists.{ListLaterWins, ListPage, ListHidden, ListReach, ListPageAlone, ListExact}
use Rattle.demands.proofs.Same.{same_answer}
use Rattle.demands.proofs.Untouched.{when_either, not_done, output_kept_if, output_length, scratch_kept_if}
use Rattle.demands.proofs.Untouched.{scratch_length, scratch_zero, scratch_stays_zero, refused_output}
use Rattle.demands.proofs.Untouched.{refused_scratch}
use Rattle.demands.proofs.Reach.{reach, page_alone, hidden_white}
use Rattle.demands.proofs.ExactJob.{exact_job_reach}

-- ---- single calls

of_done : (a : Answer) → is_done a ≡ true → a ≡ done_with (work_in a)
unfolding is_done work_in
of_done (Ok work) done = refl
of_done (Err refused) done = absurd (false≢true done)

-- the trays keep their lengths
module _ (l : Lent) where
  output_long : (k : ℕ) → length (trays_after l k).output ≡ length l.output
  unfolding trays_after after_job
  output_long zero = refl
  output_long (suc k) =
      output_length (ticket_in l.jobs l.tickets k) (places_in l.jobs k) l.source (trays_after l k).output
      (trays_after l k).scratch
      ∙ output_long k

  scratch_long : (k : ℕ) → length (trays_after l k).scratch ≡ length l.scratch
  unfolding trays_after after_job
  scratch_long zero = refl
  scratch_long (suc k) =
      scratch_length (ticket_in l.jobs l.tickets k) (places_in l.jobs k) l.source (trays_after l k).output
      (trays_after l k).scratch
      ∙ scratch_long k

pub list_single : ListSingle
unfolding answer_at single_answer
list_single l k =
    same_answer (ticket_in l.jobs l.tickets k) (places_in l.jobs k) l.source l.source
    (trays_after l k).output l.output (trays_after l k).scratch l.scratch
    (record { sources = refl; outputs = output_long l k; scratches = scratch_long l k })

-- ---- job k of a list: a single call on the trays that it finds

module _ (l : Lent) (k : ℕ) where
  abbrev ticket : List ℕ
  ticket = ticket_in l.jobs l.tickets k

  abbrev places : Placements
  places = places_in l.jobs k

  abbrev found : Trays
  found = trays_after l k

  abbrev work : ℕ
  work = work_in (answer_at l k)

  done_single : JobDone l k → answer ticket places (lengths l.source found.output found.scratch) ≡ done_with work
  unfolding answer_at single_answer
  done_single done = of_done (answer_at l k) done

  single_done : (w : ℕ) → answer ticket places (lengths l.source found.output found.scratch) ≡ done_with w
      → JobDone l k
  unfolding answer_at single_answer is_done
  single_done w e = ap is_done e

pub list_page : ListPage
unfolding trays_after after_job
list_page l k c r done c_in r_in =
    output_pixel (ticket l k) (places l k) l.source (found l k).output (found l k).scratch (work l k)
    (done_single l k done) c r c_in r_in

pub list_hidden : ListHidden
unfolding trays_after after_job
list_hidden l k c r done c_in r_in hid =
    hidden_white (ticket l k) (places l k) l.source (found l k).output (found l k).scratch (work l k)
    (done_single l k done) c r c_in r_in hid

pub list_refused_job : ListRefusedJob
unfolding trays_after after_job answer_at single_answer
list_refused_job l k refused =
    ap₂ trays
    (refused_output (ticket l k) (places l k) l.source (found l k).output (found l k).scratch refused)
    (refused_scratch (ticket l k) (places l k) l.source (found l k).output (found l k).scratch refused)

-- ---- two lists with the same jobs and tickets

module _ (jobs tickets source source' out out' scratch scratch' : List ℕ) (k : ℕ)
    (same : SameLengths source source' out out' scratch scratch') where
  abbrev one : Lent
  one = lent jobs tickets source out scratch

  abbrev two : Lent
  two = lent jobs tickets source' out' scratch'

  -- job k finds trays of the same lengths
  found_lengths :
      SameLengths source source' (found one k).output (found two k).output (found one k).scratch
      (found two k).scratch
  found_lengths =
      record {
        sources = same.sources;
        outputs = output_long one k ∙ same.outputs ∙ sym (output_long two k);
        scratches = scratch_long one k ∙ same.scratches ∙ sym (scratch_long two k);
      }

  pub answer_same : answer_at one k ≡ answer_at two k
  unfolding answer_at single_answer
  answer_same =
      same_answer (ticket_in jobs tickets k) (places_in jobs k) source source' (found one k).output (found two k).output
      (found one k).scratch (found two k).scratch found_lengths

pub list_reach : ListReach
unfolding trays_after after_job
list_reach jobs tickets source source' out out' scratch scratch' k c r bytes same done c_in r_in agree =
    let l : Lent = lent jobs tickets source out scratch in
    let l' : Lent = lent jobs tickets source' out' scratch' in
    reach (ticket l k) (places l k) source source' (found l k).output (found l' k).output (found l k).scratch
    (found l' k).scratch (work l k) (ticket_bytes tickets (listed_at jobs k) bytes)
    (found_lengths jobs tickets source source' out out' scratch scratch' k same) (done_single l k done) c r c_in r_in
    agree

pub list_page_alone : ListPageAlone
unfolding trays_after after_job
list_page_alone jobs tickets source source' out out' scratch scratch' k c r bytes same done c_in r_in agree =
    let l : Lent = lent jobs tickets source out scratch in
    let l' : Lent = lent jobs tickets source' out' scratch' in
    page_alone (ticket l k) (places l k) source source' (found l k).output (found l' k).output (found l k).scratch
    (found l' k).scratch (work l k) (ticket_bytes tickets (listed_at jobs k) bytes)
    (found_lengths jobs tickets source source' out out' scratch scratch' k same) (done_single l k done) agree c r c_in
    r_in

pub list_exact : ListExact
unfolding trays_after after_job
list_exact jobs tickets source out scratch k c r bytes done operation clear c' r' near =
    let l : Lent = lent jobs tickets source out scratch in
    let x =
    exact_job_reach (ticket l k) (places l k) (lengths source out scratch) (work l k) c r
    (ticket_bytes tickets (listed_at jobs k) bytes) (sym (list_single l k) ∙ of_done (answer_at l k) done) operation
    clear
    c' r' near in
    let first : List ℕ → List ℕ → Lent = lent jobs tickets x.pages.one in
    let second : List ℕ → List ℕ → Lent = lent jobs tickets x.pages.two in
    record {
      pages = x.pages;
      left_differs =
          λ other other' used used' o o' u u'.
          x.outputs_differ
          (found (first other used) k).output
          (found (second other' used') k).output
          (found (first other used) k).scratch
          (found (second other' used') k).scratch
          (output_long (first other used) k ∙ o)
          (output_long (second other' used') k ∙ o')
          (scratch_long (first other used) k ∙ u)
          (scratch_long (second other' used') k ∙ u');
    }

-- ---- the trays after so many jobs

module _ (l : Lent) where
  trays_output_kept :
      (n i : ℕ) → ((k : ℕ) → k < n → JobDone l k → OffPage (output_page (places_in l.jobs k)) i)
      → get_or (trays_after l n).output i 0 ≡ get_or l.output i 0
  unfolding trays_after after_job
  trays_output_kept zero i off = refl
  trays_output_kept (suc n) i off =
      output_kept_if (ticket l n) (places l n) l.source (found l n).output (found l n).scratch i
      (λ w e. off n (omega arith) (single_done l n w e))
      ∙ trays_output_kept n i (λ k below done. off k (omega arith) done)

  trays_scratch_kept :
      (n i : ℕ)
      → ((k : ℕ) → k < n → JobDone l k
      → job_scratch (shown (ticket_in l.jobs l.tickets k)) (places_in l.jobs k) ≤ i)
      → get_or (trays_after l n).scratch i 0 ≡ get_or l.scratch i 0
  unfolding trays_after after_job
  trays_scratch_kept zero i past = refl
  trays_scratch_kept (suc n) i past =
      scratch_kept_if (ticket l n) (places l n) l.source (found l n).output (found l n).scratch i
      (λ w e. past n (omega arith) (single_done l n w e))
      ∙ trays_scratch_kept n i (λ k below done. past k (omega arith) done)

  -- what job k used is zero after it, and stays so
  module _ (k i : ℕ) (done : JobDone l k)
      (below : i < job_scratch (shown (ticket_in l.jobs l.tickets k)) (places_in l.jobs k)) where
    trays_scratch_zero : (more : ℕ) → get_or (trays_after l (suc k + more)).scratch i 0 ≡ 0
    unfolding trays_after after_job
    trays_scratch_zero zero =
        subst (λ (n : ℕ). get_or (trays_after l n).scratch i 0 ≡ 0) (sym (add-zero (suc k)))
        (scratch_zero (ticket l k) (places l k) l.source (found l k).output (found l k).scratch (work l k)
        (done_single l k done) i below)
    trays_scratch_zero (suc more) =
        let n : ℕ = suc k + more in
        subst (λ (m : ℕ). get_or (trays_after l m).scratch i 0 ≡ 0) (sym (add-suc (suc k) more))
        (scratch_stays_zero (ticket l n) (places l n) l.source (found l n).output (found l n).scratch i
        (trays_scratch_zero more))

  -- a byte of job k's page stands after it as long as no later finished job's page has it
  module _ (k c r : ℕ) (done : JobDone l k) (c_in : c < (places_in l.jobs k).width)
      (r_in : r < (places_in l.jobs k).height) where
    abbrev byte : ℕ
    byte = byte_of (output_page (places_in l.jobs k)) c r

    trays_later :
        (more : ℕ)
        → ((j : ℕ) → k < j → j < suc k + more → JobDone l j → OffPage (output_page (places_in l.jobs j)) byte)
        → get_or (trays_after l (suc k + more)).output byte 0
        ≡ finished (shown (ticket_in l.jobs l.tickets k)) (source_page (places_in l.jobs k)) l.source c r
    unfolding trays_after after_job pixel_in
    trays_later zero off =
        ap (λ (n : ℕ). get_or (trays_after l n).output byte 0) (add-zero (suc k)) ∙ list_page l k c r done c_in r_in
    trays_later (suc more) off =
        let n : ℕ = suc k + more in
        ap (λ (m : ℕ). get_or (trays_after l m).output byte 0) (add-suc (suc k) more)
        ∙ output_kept_if (ticket l n) (places l n) l.source (found l n).output (found l n).scratch byte
        (λ w e. off n (omega arith) (omega arith) (single_done l n w e))
        ∙ trays_later more (λ j after below done'. off j after (omega arith) done')

-- ---- the whole call

-- what holds of the trays that are left, and of the trays as they were, holds after every call
after_call {ℓ} :
    {X : Type ℓ} (P : X → Type 0) (count : ℕ) (l : Lent) (answers : List ℕ) (left kept : X) → P kept → P left
    → P (when_done (answer_of count l answers) left kept)
after_call P count l answers left kept k d = when_either P (answer_of count l answers) left kept k (λ w e. d)

pub list_output_kept : ListOutputKept
unfolding list_output_after
list_output_kept count l answers i off =
    after_call (λ (tray : List ℕ). get_or tray i 0 ≡ get_or l.output i 0) count l answers (trays_after l count).output
    l.output refl (trays_output_kept l count i off)

pub list_output_length : ListOutputLength
unfolding list_output_after
list_output_length count l answers =
    after_call (λ (tray : List ℕ). length tray ≡ length l.output) count l answers (trays_after l count).output
    l.output refl (output_long l count)

pub list_scratch_kept : ListScratchKept
unfolding list_scratch_after
list_scratch_kept count l answers i past =
    after_call (λ (tray : List ℕ). get_or tray i 0 ≡ get_or l.scratch i 0) count l answers (trays_after l count).scratch
    l.scratch refl (trays_scratch_kept l count i past)

pub list_scratch_length : ListScratchLength
unfolding list_scratch_after
list_scratch_length count l answers =
    after_call (λ (tray : List ℕ). length tray ≡ length l.scratch) count l answers (trays_after l count).scratch
    l.scratch refl (scratch_long l count)

pub list_refused_trays : ListRefusedTrays
unfolding list_output_after list_scratch_after
list_refused_trays count l answers refused =
    let not = not_done (answer_of count l answers) refused in (
      when_refused (answer_of count l answers) (trays_after l count).output l.output not,
      when_refused (answer_of count l answers) (trays_after l count).scratch l.scratch not,
    )

pub list_scratch_zero : ListScratchZero
unfolding list_scratch_after
list_scratch_zero count l answers k i run below done in_use =
    let more : suc k + (count - suc k) ≡ count = omega arith in
    ap (λ (tray : List ℕ). get_or tray i 0)
    (when_done_lem (answer_of count l answers) (trays_after l count).scratch l.scratch run)
    ∙ ap (λ (n : ℕ). get_or (trays_after l n).scratch i 0) (sym more)
    ∙ trays_scratch_zero l k i done in_use (count - suc k)

pub list_later_wins : ListLaterWins
unfolding list_output_after pixel_in
list_later_wins count l answers k c r run below done c_in r_in off =
    let byte : ℕ = byte_of (output_page (places_in l.jobs k)) c r in
    let more : suc k + (count - suc k) ≡ count = omega arith in
    ap (λ (tray : List ℕ). get_or tray byte 0)
    (when_done_lem (answer_of count l answers) (trays_after l count).output l.output run)
    ∙ ap (λ (n : ℕ). get_or (trays_after l n).output byte 0) (sym more)
    ∙ trays_later l k c r done c_in r_in (count - suc k) (λ j after before. off j after (omega arith))
