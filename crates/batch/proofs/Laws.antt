-- What those above may rely on, in plain facts: nobody above unfolds why a list is refused, or how a ticket is cut out
-- of its buffer.
-- Assumes nothing.
use Rattle.std.specs.Prelude.{◌≡◌, Bool, true, false, cond, List, [], ◌∷◌, ◌++◌, ℕ, zero, suc, ◌+◌, ◌*◌, ◌≤◌, leb, length, take, drop}
use Rattle.std.proofs.Math.Path.{refl}
use Rattle.std.proofs.Common.{arith, get_or-drop}
use borrow.Author.Tests.{leb-true, le-leb}
use Rattle.refusal.specs.Answer.{number_of, is_done, Answer}
use Rattle.refusal.specs.Chain.{unless, ◌then◌, then_done, unless_done}
use Rattle.refusal.specs.declared.Later.TheVariants.{TooManyJobs, NumbersTooFew}
use Rattle.refusal.specs.declared.Refusal.TheVariants.{Later}
use Rattle.ticket.specs.Laws.{Bytes}
use Rattle.tray.specs.Written.{cleared}
use Rattle.listing.specs.Listed.{ticket_of}
use Rattle.listing.specs.Numbers.{job_numbers, answers_needed}
use Rattle.listing.specs.declared.Listed.{Listed}
use Rattle.batch.specs.Batch.{Lent}
use Rattle.batch.specs.Call.{most_jobs, list_answer, told_from, answers_of}
use Rattle.batch.specs.Call.{list_answers_after}

-- ---- a list that is run

pub record Runs (count numbers answers : ℕ) : Type 0 where
  pub few : count ≤ most_jobs
  pub there : job_numbers count ≤ numbers
  pub room : answers_needed ≤ answers

pub list_runs :
    (count numbers answers : ℕ) → is_done (list_answer count numbers answers) ≡ true → Runs count numbers answers
unfolding list_answer
list_runs count numbers answers done =
    let first = unless (leb answers_needed answers) (Later NumbersTooFew) answers_needed in
    let second = unless (leb count most_jobs) (Later TooManyJobs) 0 in
    let third = unless (leb (job_numbers count) numbers) (Later NumbersTooFew) (job_numbers count) in
    let from_First = then_done first (second then third) done in
    let from_Second = then_done second third from_First.1 in
    record {
      few = leb-true _ _ (unless_done (leb count most_jobs) (Later TooManyJobs) 0 from_Second.0);
      there =
          leb-true _ _
          (unless_done (leb (job_numbers count) numbers) (Later NumbersTooFew) (job_numbers count) from_Second.1);
      room = leb-true _ _ (unless_done (leb answers_needed answers) (Later NumbersTooFew) answers_needed from_First.0);
    }

-- ---- a ticket of the list

take_bytes : (size : ℕ) (s : List ℕ) → Bytes s → Bytes (take size s)
take_bytes zero s bytes k = omega arith
take_bytes (suc n) [] bytes k = omega arith
take_bytes (suc n) (x ∷ s) bytes zero = bytes zero
take_bytes (suc n) (x ∷ s) bytes (suc k) = take_bytes n s (λ j. bytes (suc j)) k

drop_bytes : (start : ℕ) (s : List ℕ) → Bytes s → Bytes (drop start s)
drop_bytes start s bytes k = rw (get_or-drop start s k 0) (bytes (start + k))

-- is bytes, where its buffer is
pub ticket_bytes : (tickets : List ℕ) (job : Listed) → Bytes tickets → Bytes (ticket_of tickets job)
unfolding ticket_of
ticket_bytes tickets job bytes = under (leb (job.start + job.length) (length tickets))
  where
    under : (b : Bool) → Bytes (cond b (take job.length (drop job.start tickets)) [])
    under true = take_bytes job.length (drop job.start tickets) (drop_bytes job.start tickets bytes)
    under false = λ k. omega arith

-- ---- the answers that come back

-- three numbers for each job
pub told_count : (l : Lent) (k n : ℕ) → length (told_from l k n) ≡ 3 * n
unfolding told_from
told_count l k zero = refl
told_count l k (suc n) = let more = told_count l (suc k) n in omega arith

-- the answer to the whole list, by its three tests
abbrev chain : Bool → Bool → Bool → ℕ → Answer
chain a b c needed =
    unless a (Later NumbersTooFew) answers_needed
    then unless b (Later TooManyJobs) 0
    then unless c (Later NumbersTooFew) needed

-- and what is left of the answers
at_18 :
    (a b c : Bool) (needed : ℕ) (all zeros kept : List ℕ)
    → number_of (chain a b c needed) ≡ 18
    → cond a (cond b (cond c all kept) zeros) kept ≡ zeros
unfolding unless ◌then◌ number_of
at_18 false b c needed all zeros kept e = absurd (omega arith)
at_18 true false c needed all zeros kept e = refl
at_18 true true false needed all zeros kept e = absurd (omega arith)
at_18 true true true needed all zeros kept e = absurd (omega arith)

at_100 :
    (a b c : Bool) (needed : ℕ) (all zeros kept : List ℕ)
    → number_of (chain a b c needed) ≡ 100
    → cond a (cond b (cond c all kept) zeros) kept ≡ kept
unfolding unless ◌then◌ number_of
at_100 false b c needed all zeros kept e = refl
at_100 true false c needed all zeros kept e = absurd (omega arith)
at_100 true true false needed all zeros kept e = refl
at_100 true true true needed all zeros kept e = absurd (omega arith)

module _ (count : ℕ) (l : Lent) (answers : List ℕ) where
  pub answers_at_18 : number_of (list_answer count (length l.jobs) (length answers)) ≡ 18
      → list_answers_after count l answers ≡ cleared answers_needed answers
  unfolding list_answer list_answers_after
  answers_at_18 e = at_18 _ _ _ (job_numbers count) _ _ _ e

  pub answers_at_100 : number_of (list_answer count (length l.jobs) (length answers)) ≡ 100
      → list_answers_after count l answers ≡ answers
  unfolding list_answer list_answers_after
  answers_at_100 e = at_100 _ _ _ (job_numbers count) _ _ _ e

  pub answers_run : is_done (list_answer count (length l.jobs) (length answers)) ≡ true
      → list_answers_after count l answers ≡ answers_of l count ++ drop answers_needed answers
  unfolding list_answers_after
  answers_run done =
      let runs = list_runs count (length l.jobs) (length answers) done in
      rw (
        le-leb answers_needed (length answers) runs.room,
        le-leb count most_jobs runs.few,
        le-leb (job_numbers count) (length l.jobs) runs.there,
      )
      refl

-- what holds of the answers as they were, cleared, and told holds after every call
either :
    (P : List ℕ → Type 0) (a b c : Bool) (all zeros kept : List ℕ) → P kept → (a ≡ true → P zeros)
    → (a ≡ true → b ≡ true → c ≡ true → P all)
    → P (cond a (cond b (cond c all kept) zeros) kept)
either P false b c all zeros kept k z t = k
either P true false c all zeros kept k z t = z refl
either P true true false all zeros kept k z t = k
either P true true true all zeros kept k z t = t refl refl refl

pub answers_either :
    (P : List ℕ → Type 0) (count : ℕ) (l : Lent) (answers : List ℕ) → P answers
    → (answers_needed ≤ length answers → P (cleared answers_needed answers))
    → (Runs count (length l.jobs) (length answers) → P (answers_of l count ++ drop answers_needed answers))
    → P (list_answers_after count l answers)
unfolding list_answers_after
answers_either P count l answers kept zeros told =
    either P (leb answers_needed (length answers)) (leb count most_jobs) (leb (job_numbers count) (length l.jobs))
    (answers_of l count ++ drop answers_needed answers) (cleared answers_needed answers) answers kept
    (λ room. zeros (leb-true _ _ room))
    (λ room few there. told (record { few = leb-true _ _ few; there = leb-true _ _ there; room = leb-true _ _ room }))
