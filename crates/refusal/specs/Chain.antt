-- Judgements one after the other, each an answer. Document 01, 'Refusals and what they return': "Fields are judged
-- one by one": so the first refusal is the answer. Behind the two definitions stand the laws that others cite.
-- Assumes nothing.
use Rattle.std.specs.Prelude.{◌≡◌, refl, ℕ, Bool, true, false, Result, Ok, Err, IsErrAnd}
use Rattle.std.proofs.Common.{sym, ap, ◌∙◌, true≢false}
use Rattle.std.proofs.lemmas.Bool.{false≢true}
use Rattle.std.proofs.lemmas.Result.{err_from_is_err_and}
use Rattle.std.specs.Result.{is_ok, result_and, result_unwrap_or}
use Rattle.refusal.specs.Answer.{Answer, done_with, refused_at, is_done, work_in, when_done, giving, answer_in}
use Rattle.refusal.specs.declared.Refusal.{Refusal}
use Rattle.refusal.specs.declared.Refused.{Refused}

-- a refusal unless a test holds
unfoldable pub unless : Bool → Refusal → ℕ → Answer
unless true refusal at = done_with 0
unless false refusal at = refused_at refusal at

-- the first refusal of two judgements
infixr 20 ◌then◌
unfoldable pub ◌then◌ : Answer → Answer → Answer
Ok work then b = b
Err refused then b = Err refused

-- behind what is done the next judgement counts, behind a refusal nothing
pub then_on : (a b : Answer) → is_done a ≡ true → (a then b) ≡ b
unfolding ◌then◌ is_done
then_on (Ok work) b h = refl
then_on (Err refused) b h = absurd (false≢true h)

pub then_stop : (a b : Answer) → is_done a ≡ false → (a then b) ≡ a
unfolding ◌then◌ is_done
then_stop (Ok work) b h = absurd (true≢false h)
then_stop (Err refused) b h = refl

-- what is done as a whole is done in each part
pub then_done : (a b : Answer) → is_done (a then b) ≡ true → (is_done a ≡ true) × (is_done b ≡ true)
unfolding ◌then◌ is_done
then_done (Ok work) b h = (refl, h)
then_done (Err refused) b h = absurd (false≢true h)

-- and its work is the last part's
pub then_work : (a b : Answer) (work : ℕ) → (a then b) ≡ done_with work → (is_done a ≡ true) × (b ≡ done_with work)
unfolding ◌then◌ is_done
then_work (Ok w) b work h = (refl, h)
then_work (Err refused) b work h = (cc, cc)

-- what is done is done with one work
pub done_work : {a b : ℕ} → done_with a ≡ done_with b → a ≡ b
done_work e = cc

pub unless_done : (test : Bool) (refusal : Refusal) (at : ℕ) → is_done (unless test refusal at) ≡ true → test ≡ true
unfolding unless is_done
unless_done true refusal at h = refl
unless_done false refusal at h = absurd (false≢true h)

-- a test that holds is done without work
pub unless_ok : (test : Bool) (refusal : Refusal) (at : ℕ) {work : ℕ}
    → unless test refusal at ≡ done_with work
    → unless test refusal at ≡ done_with 0
unfolding unless
unless_ok true refusal at h = refl
unless_ok false refusal at h = cc

-- no refusal is done
pub refused_not_done : {refusal : Refusal} {at work : ℕ} → refused_at refusal at ≡ done_with work → ⊥
unfolding is_done
refused_not_done h = false≢true (ap is_done h)

-- what is chosen by an answer, once it is known whether it is done
pub when_done_lem {ℓ} : {X : Type ℓ} (a : Answer) (done kept : X) → is_done a ≡ true → when_done a done kept ≡ done
unfolding is_done when_done
when_done_lem (Ok work) done kept h = refl
when_done_lem (Err refused) done kept h = absurd (false≢true h)

pub when_refused {ℓ} : {X : Type ℓ} (a : Answer) (done kept : X) → is_done a ≡ false → when_done a done kept ≡ kept
unfolding is_done when_done
when_refused (Ok work) done kept h = absurd (true≢false h)
when_refused (Err refused) done kept h = refl

-- the library's words for the three
pub ok_is_done : (a : Answer) → is_ok a ≡ is_done a
unfolding is_done
ok_is_done (Ok work) = refl
ok_is_done (Err refused) = refl

pub and_is_then : (a b : Answer) → result_and a b ≡ (a then b)
unfolding ◌then◌
and_is_then (Ok work) b = refl
and_is_then (Err refused) b = refl

pub unwrapped_work : (a : Answer) → result_unwrap_or a 0 ≡ work_in a
unfolding work_in
unwrapped_work (Ok work) = refl
unwrapped_work (Err refused) = refl

-- what is read behind an answer: by whether it is done, and back from what was read
pub giving_on : {X : Type 0} (a : Answer) (x : X) → is_done a ≡ true → giving a x ≡ Ok x
unfolding giving is_done
giving_on (Ok work) x h = refl
giving_on (Err refused) x h = absurd (false≢true h)

pub giving_err : {X : Type 0} (refused : Refused) (x : X) → giving (Err refused) x ≡ Err refused
unfolding giving
giving_err refused x = refl

-- behind a refusal it does not count what would have been read
pub giving_stop : {X : Type 0} (a : Answer) (x y : X) → is_done a ≡ false → giving a x ≡ giving a y
unfolding giving is_done
giving_stop (Ok work) x y h = absurd (true≢false h)
giving_stop (Err refused) x y h = refl

pub given : {X : Type 0} (a : Answer) (x y : X) → giving a x ≡ Ok y → (is_done a ≡ true) × (x ≡ y)
unfolding giving is_done
given (Ok work) x y h = (refl, cc)
given (Err refused) x y h = (cc, cc)

pub not_given : {X : Type 0} (a : Answer) (x : X) (refused : Refused) → giving a x ≡ Err refused → a ≡ Err refused
unfolding giving
not_given (Ok work) x refused h = cc
not_given (Err other) x refused h = cc

-- a judgement behind what was read, and behind a refusal
pub then_given : {X : Type 0} (a b : Answer) (x y : X) {r : Result X Refused}
    → giving a x ≡ Ok y
    → r ≡ giving b y
    → r ≡ giving (a then b) x
unfolding giving ◌then◌
then_given (Ok work) b x y h e = let same : x ≡ y = cc in e ∙ ap (giving b) (sym same)
then_given (Err refused) b x y h e = cc

pub then_not_given : {X : Type 0} (a b : Answer) (x : X) {refused : Refused}
    → giving a x ≡ Err refused
    → giving (a then b) x ≡ Err refused
unfolding giving ◌then◌
then_not_given (Ok work) b x h = cc
then_not_given (Err refused) b x h = h

-- of two judgements one after the other: the first one's refusal, or the second
pub then_err : (refused : Refused) (b : Answer) → (Err refused then b) ≡ Err refused
unfolding ◌then◌
then_err refused b = refl

pub then_ok : (work : ℕ) (b : Answer) → (Ok work then b) ≡ b
unfolding ◌then◌
then_ok work b = refl

-- no judgement costs work, and the answer of what is read behind it is the judgement itself
pub unless_no_work : (test : Bool) (refusal : Refusal) (at : ℕ) → work_in (unless test refusal at) ≡ 0
unfolding unless work_in
unless_no_work true refusal at = refl
unless_no_work false refusal at = refl

pub then_no_work : (a b : Answer) → work_in b ≡ 0 → work_in (a then b) ≡ 0
unfolding ◌then◌ work_in
then_no_work (Ok work) b h = h
then_no_work (Err refused) b h = refl

pub given_answer : {X : Type 0} (a : Answer) (x : X) → work_in a ≡ 0 → answer_in (giving a x) ≡ a
unfolding answer_in giving work_in
given_answer (Ok work) x h = ap done_with (sym h)
given_answer (Err refused) x h = refl

-- a `?` in code: what it hands on where it ends the function, and of judgements in a row that pass or end
pub handed_on : {X : Type 0} {r : Result X Refused} {refused : Refused} → IsErrAnd r (λ (e : Refused). e ≡ refused)
    → r ≡ Err refused
handed_on {X} {r} {refused} h =
    let found = err_from_is_err_and r h in
    found.1 ∙ ap Err found.2

pub then_passed : {a judged b behind : Answer} {work : ℕ} → a ≡ Ok work → a ≡ judged → b ≡ behind
    → b ≡ (judged then behind)
then_passed was is next = rw (next, ← is, was, then_ok) refl

pub then_ended : {a judged r : Answer} {refused : Refused} (behind : Answer) → a ≡ Err refused → a ≡ judged
    → IsErrAnd r (λ (e : Refused). e ≡ refused)
    → r ≡ (judged then behind)
then_ended {a} {judged} {r} {refused} behind was is h =
    handed_on h ∙ sym (then_err refused behind) ∙ ap (λ (x : Answer). x then behind) (sym was ∙ is)

pub giving_passed : {X : Type 0} {a judged : Answer} {x y : X} {work : ℕ} → a ≡ Ok work → a ≡ judged → y ≡ x
    → Ok y ≡ giving judged x
unfolding giving
giving_passed {X} {a} {judged} {x} {y} was is same = ap Ok same ∙ ap (λ (b : Answer). giving b x) (sym was ∙ is)

pub giving_ended : {X : Type 0} {a judged : Answer} {r : Result X Refused} {refused : Refused} (x : X)
    → a ≡ Err refused
    → a ≡ judged
    → IsErrAnd r (λ (e : Refused). e ≡ refused)
    → r ≡ giving judged x
giving_ended {X} {a} {judged} {r} {refused} x was is h =
    handed_on h ∙ sym (giving_err refused x) ∙ ap (λ (b : Answer). giving b x) (sym was ∙ is)

pub ok_done : (work : ℕ) → is_done (Ok work) ≡ true
unfolding is_done
ok_done work = refl
