-- Document 01, 'Refusals and what they return': the number, the place and the work of each answer. Assumes nothing.
use Rattle.std.specs.Prelude.{ℕ, Bool, true, false, Result, Ok, Err}
use Rattle.refusal.specs.Refusal.{refusal_number}
use Rattle.refusal.specs.declared.Refusal.{Refusal}
use Rattle.refusal.specs.declared.Refused.{Refused}

-- done, with the work; or refused, with the place
abbrev pub Answer : Type 0
Answer = Result ℕ Refused

abbrev pub done_with : ℕ → Answer
done_with work = Ok work

abbrev pub refused_at : Refusal → ℕ → Answer
refused_at refusal at = Err (record { refusal = refusal; at = at })

-- 0 for what is done, else the refusal's number
unfoldable pub number_of : Answer → ℕ
number_of (Ok work) = 0
number_of (Err refused) = refusal_number refused.refusal

-- the column 'Place': a head's byte index, a box's number, or 0
unfoldable pub place_of : Answer → ℕ
place_of (Ok work) = 0
place_of (Err refused) = refused.at

-- "A refusal also returns work 0"
unfoldable pub work_in : Answer → ℕ
work_in (Ok work) = work
work_in (Err refused) = 0

-- whether nothing is refused
unfoldable pub is_done : Answer → Bool
is_done (Ok work) = true
is_done (Err refused) = false

-- one thing for what is done and another for a refusal
unfoldable pub when_done {ℓ} : {X : Type ℓ} → Answer → X → X → X
when_done (Ok work) done kept = done
when_done (Err refused) done kept = kept

-- what is read where nothing is refused, else the refusal
unfoldable pub giving : {X : Type 0} → Answer → X → Result X Refused
giving (Ok work) x = Ok x
giving (Err refused) x = Err refused

-- and the answer of what is read: it is done without work
unfoldable pub answer_in : {X : Type 0} → Result X Refused → Answer
answer_in (Ok x) = done_with 0
answer_in (Err refused) = Err refused
