-- From what single jobs leave to what the whole call promises. Assumes nothing.
use mathlib.Core.Path.{◌≡◌, refl, sym, ap, ap₂, ◌∙◌}
use mathlib.Core.Bool.{true}
use mathlib.Core.List.{List, [], ◌++◌}
use Prim.Native.Nat.{ℕ, suc, ◌+◌, ◌-◌, ◌*◌, ◌≤◌, ◌<◌}
use native.Mathlib.Numerals.{add-one}
use native.Mathlib.Omega.{arith}
use borrow.Author.Tests.{le-leb, lt-leb}
use lib.Dec.{leb}
use lib.ListN.{length, drop}
use lib.Seq.{sets}
use Rattle.refusal.specs.Answer.{when_done, Answer, done_with, refused_at}
use Rattle.refusal.specs.Chain.{unless, ◌then◌}
use Rattle.refusal.specs.declared.Later.TheVariants.{TooManyJobs, NumbersTooFew}
use Rattle.refusal.specs.declared.Refusal.TheVariants.{Later}
use Rattle.tray.specs.Written.{cleared}
use Rattle.job.specs.Job.{lengths, answer, output_after, scratch_after}
use Rattle.listing.specs.Listed.{listed_at, ticket_of}
use Rattle.listing.specs.Numbers.{job_numbers, answers_needed, told}
use Rattle.listing.specs.declared.Listed.{Listed}
use Rattle.batch.specs.Batch.{Lent, Trays, trays, single_answer, after_job, trays_after, answer_at}
use Rattle.batch.specs.Call.{most_jobs, told_from, answers_of, list_answer}
use Rattle.batch.specs.Call.{list_output_after, list_scratch_after, list_answers_after}
use Rattle.batch.specs.Promises.{RanOne, RanJobs}
use Rattle.batch.proofs.Stores.{told_more, all_told}

-- ---- one job

-- the job's promise on the ticket and the placements that the list names
pub ran_one :
    (tickets source output scratch after used ticket : List ℕ) (job named : Listed) (given : Answer) → job ≡ named
    → ticket ≡ ticket_of tickets job
    → (given ≡ answer ticket job.places (lengths source output scratch))
    × ((after ≡ output_after ticket job.places source output scratch)
    × (used ≡ scratch_after ticket job.places source output scratch))
    → RanOne tickets source named (trays output scratch) (trays after used) given
unfolding single_answer after_job
ran_one tickets source output scratch after used ticket job named given is part ran =
    record {
      answered_is =
          ran.0
          ∙ ap (λ (t : List ℕ). answer t job.places (lengths source output scratch)) part
          ∙ ap (λ (j : Listed). single_answer tickets source j (trays output scratch)) is;
      left_is =
          ap₂ trays
          (ran.1.0 ∙ ap (λ (t : List ℕ). output_after t job.places source output scratch) part)
          (ran.1.1 ∙ ap (λ (t : List ℕ). scratch_after t job.places source output scratch) part)
          ∙ ap (λ (j : Listed). after_job tickets source j (trays output scratch)) is;
    }

-- ---- all jobs, one after the other

-- k jobs of a list have run: the trays, the numbers stored, and the numbers still to be stored
pub record Underway (count : ℕ) (l : Lent) (answers : List ℕ) (k : ℕ) (now : Trays) (stored : List ℕ) : Type 0 where
  pub left_is : now ≡ trays_after l k
  pub output_long : length now.output ≡ length l.output
  pub scratch_long : length now.scratch ≡ length l.scratch
  pub stored_long : length stored ≡ length answers
  pub stored_is : sets stored (3 * k) (told_from l k (count - k)) ≡ sets answers 0 (told_from l 0 count)

pub none_run :
    (count : ℕ) (l : Lent) (answers : List ℕ)
    → Underway count l answers 0 (trays l.output l.scratch) answers
unfolding trays_after
none_run count l answers =
    record {
      left_is = refl;
      output_long = refl;
      scratch_long = refl;
      stored_long = refl;
      stored_is = ap (λ (n : ℕ). sets answers 0 (told_from l 0 n)) (omega arith);
    }

pub one_more :
    (count : ℕ) (l : Lent) (answers : List ℕ) (k : ℕ) (before after : Trays) (stored next : List ℕ) (given : Answer)
    → k < count → Underway count l answers k before stored
    → length after.output ≡ length before.output
    → length after.scratch ≡ length before.scratch
    → RanOne l.tickets l.source (listed_at l.jobs k) before after given
    → next ≡ sets stored (3 * k) (told given [])
    → Underway count l answers (k + 1) after next
unfolding trays_after answer_at
one_more count l answers k before after stored next given below u output_kept scratch_kept ran put =
    let left : count - k ≡ suc (count - (k + 1)) = omega arith in
    let is : given ≡ answer_at l k =
    ran.answered_is ∙ ap (single_answer l.tickets l.source (listed_at l.jobs k)) u.left_is in
    let more =
    told_more l k (count - (k + 1)) given stored next _ is put
    (ap (λ (n : ℕ). sets stored (3 * k) (told_from l k n)) (sym left) ∙ u.stored_is) in
    record {
      left_is =
          ran.left_is
          ∙ ap (after_job l.tickets l.source (listed_at l.jobs k)) u.left_is
          ∙ ap (trays_after l) (sym (add-one k));
      output_long = output_kept ∙ u.output_long;
      scratch_long = scratch_kept ∙ u.scratch_long;
      stored_long = more.0 ∙ u.stored_long;
      stored_is = more.1;
    }

pub all_run :
    (count : ℕ) (l : Lent) (answers : List ℕ) (k : ℕ) (now : Trays) (stored : List ℕ) → k ≡ count
    → Underway count l answers k now stored
    → RanJobs count l answers now stored
unfolding told_from
all_run count l answers k now stored done u =
    let none : count - k ≡ 0 = omega arith in
    record {
      left_is = u.left_is ∙ ap (trays_after l) done;
      stored_is = ap (λ (n : ℕ). sets stored (3 * k) (told_from l k n)) (sym none) ∙ u.stored_is;
    }

-- ---- the whole call

-- what a call answers and leaves, as its four promises have it
pub record Called (count : ℕ) (l : Lent) (answers : List ℕ) (given : Answer)
    (output scratch stored : List ℕ) : Type 0 where
  pub answered : given ≡ list_answer count (length l.jobs) (length answers)
  pub written : output ≡ list_output_after count l answers
  pub cleared : scratch ≡ list_scratch_after count l answers
  pub told : stored ≡ list_answers_after count l answers

module _ (count : ℕ) (l : Lent) (answers : List ℕ) where
  -- what the trays hold follows from the answer
  called :
      (given : Answer) (stored : List ℕ) → given ≡ list_answer count (length l.jobs) (length answers)
      → stored ≡ list_answers_after count l answers
      → Called count l answers given
      (when_done given (trays_after l count).output l.output)
      (when_done given (trays_after l count).scratch l.scratch)
      stored
  unfolding list_output_after list_scratch_after
  called given stored answer-is stored_is =
      record {
        answered = answer-is;
        written = ap (λ (a : Answer). when_done a (trays_after l count).output l.output) answer-is;
        cleared = ap (λ (a : Answer). when_done a (trays_after l count).scratch l.scratch) answer-is;
        told = stored_is;
      }

  pub answers_short : length answers < answers_needed
      → Called count l answers (refused_at (Later NumbersTooFew) answers_needed) l.output l.scratch answers
  unfolding list_answer list_answers_after unless ◌then◌ when_done
  answers_short short =
      called (refused_at (Later NumbersTooFew) answers_needed) answers
      (rw (lt-leb answers_needed (length answers) short))
      (rw (lt-leb answers_needed (length answers) short))

  module _ (room : answers_needed ≤ length answers) where
    fits : leb answers_needed (length answers) ≡ true
    fits = le-leb answers_needed (length answers) room

    pub too_many : (stored : List ℕ) → most_jobs < count → stored ≡ cleared answers_needed answers
        → Called count l answers (refused_at (Later TooManyJobs) 0) l.output l.scratch stored
    unfolding list_answer list_answers_after unless ◌then◌ when_done
    too_many stored many is =
        called (refused_at (Later TooManyJobs) 0) stored
        (rw (fits, lt-leb count most_jobs many))
        (rw (fits, lt-leb count most_jobs many) is)

    pub numbers_short : count ≤ most_jobs → length l.jobs < job_numbers count
        → Called count l answers (refused_at (Later NumbersTooFew) (job_numbers count)) l.output l.scratch answers
    unfolding list_answer list_answers_after unless ◌then◌ when_done
    numbers_short few short =
        called (refused_at (Later NumbersTooFew) (job_numbers count)) answers
        (rw (fits, le-leb count most_jobs few, lt-leb (job_numbers count) (length l.jobs) short))
        (rw (fits, le-leb count most_jobs few, lt-leb (job_numbers count) (length l.jobs) short))

    pub all_called : (zeros stored : List ℕ) (after : Trays) → count ≤ most_jobs → job_numbers count ≤ length l.jobs
        → zeros ≡ cleared answers_needed answers → RanJobs count l zeros after stored
        → Called count l answers (done_with 0) after.output after.scratch stored
    unfolding list_answer list_answers_after unless ◌then◌ when_done
    all_called zeros stored after few numbers clear ran =
        let put : stored ≡ answers_of l count ++ drop answers_needed answers =
        ran.stored_is ∙ ap (λ (d : List ℕ). sets d 0 (told_from l 0 count)) clear ∙ all_told l count answers few room in
        let done =
        called (done_with 0) stored
        (rw (fits, le-leb count most_jobs few, le-leb (job_numbers count) (length l.jobs) numbers))
        (rw (fits, le-leb count most_jobs few, le-leb (job_numbers count) (length l.jobs) numbers) put) in
        record {
          answered = done.answered;
          written = ap (λ (t : Trays). t.output) ran.left_is ∙ done.written;
          cleared = ap (λ (t : Trays). t.scratch) ran.left_is ∙ done.cleared;
          told = done.told;
        }
