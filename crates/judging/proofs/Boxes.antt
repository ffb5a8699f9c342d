-- The first box that is not allowed is where refusal 14 is given. Assumes nothing.
use mathlib.Core.Path.{◌≡◌, refl, sym, ap, ◌∙◌}
use Rattle.refusal.specs.Answer.{Answer, done_with, refused_at}
use mathlib.Core.Bool.{Bool, true, false, not, cond}
use mathlib.Core.List.{List, [], ◌∷◌}
use Prim.Native.Nat.{ℕ, suc, ◌+◌, ◌≤◌, ◌<◌}
use native.Mathlib.Nat.{add-zero, add-suc, suc-add}
use native.Mathlib.Omega.{arith}
use lib.ListN.{length}
use Rattle.refusal.specs.Chain.{unless, ◌then◌}
use Rattle.refusal.specs.declared.Refusal.TheVariants.{BadBox}
use Rattle.ticket.specs.declared.HiddenBox.{HiddenBox}
use Rattle.boxes.specs.Boxes.{box_allowed, answers}
use Rattle.boxes.specs.First.{first_of}
use Rattle.boxes.specs.declared.Question.TheVariants.{NotAllowed}
use Rattle.judging.specs.Judging.{judge_page_boxes_from}

module _ (w h : ℕ) where
  abbrev pub refused : HiddenBox → Bool
  refused = answers (NotAllowed w h)

  first_case :
      (ok : Bool) (k m n : ℕ) (rest : Answer) → (m < n → rest ≡ refused_at BadBox (suc k + m))
      → cond (not ok) 0 (suc m) < suc n
      → (unless ok BadBox k then rest) ≡ refused_at BadBox (k + cond (not ok) 0 (suc m))
  unfolding unless ◌then◌
  first_case true k m n rest later below =
      later (omega arith) ∙ ap (refused_at BadBox) (suc-add k m ∙ sym (add-suc k m))
  first_case false k m n rest later below = ap (refused_at BadBox) (sym (add-zero k))

  pub first_refused :
      (k : ℕ) (boxes : List HiddenBox) → first_of refused boxes < length boxes
      → judge_page_boxes_from w h k boxes ≡ refused_at BadBox (k + first_of refused boxes)
  unfolding first_of judge_page_boxes_from answers
  first_refused k [] below = absurd (omega arith)
  first_refused k (b ∷ boxes) below =
      first_case (box_allowed w h b) k (first_of refused boxes) (length boxes) (judge_page_boxes_from w h (suc k) boxes)
      (first_refused (suc k) boxes)
      below

  none_case :
      (ok : Bool) (k m n : ℕ) (rest : Answer) → (n ≤ m → rest ≡ done_with 0) → suc n ≤ cond (not ok) 0 (suc m)
      → (unless ok BadBox k then rest) ≡ done_with 0
  unfolding unless ◌then◌
  none_case true k m n rest later above = later (omega arith)
  none_case false k m n rest later above = absurd (omega arith)

  pub none_refused :
      (k : ℕ) (boxes : List HiddenBox) → length boxes ≤ first_of refused boxes
      → judge_page_boxes_from w h k boxes ≡ done_with 0
  unfolding first_of judge_page_boxes_from answers
  none_refused k [] above = refl
  none_refused k (b ∷ boxes) above =
      none_case (box_allowed w h b) k (first_of refused boxes) (length boxes) (judge_page_boxes_from w h (suc k) boxes)
      (none_refused (suc k) boxes)
      above
