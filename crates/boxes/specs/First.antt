-- The first of some boxes that answers a question: "14 over the boxes in order".
-- The laws are what a caller may rely on.
-- Assumes nothing.
use Rattle.std.specs.Prelude.{◌≡◌, Bool, true, false, ◌||◌, cond, ℕ, zero, suc, ◌+◌, ◌≤◌, ◌<◌, length, get_or}
use Rattle.std.specs.Prelude.{ltb, Some, None, is_some, position}
use Rattle.std.proofs.Math.Path.{refl}
use Rattle.std.proofs.Common.{sym, ap, ◌∙◌, true≢false, lt-ltb, le-ltb, ltb-true}
use mathlib.Core.List.{List, [], ◌∷◌}
use Rattle.std.proofs.Math.Logic.{by_cases}
use Rattle.std.proofs.Math.Decide.{dec_lt}
use Rattle.std.specs.List.{position_or_len}
use Rattle.std.proofs.lemmas.Bool.{ltb-false}
use Rattle.std.proofs.lemmas.List.Recursion.{is_position_or_len}
use native.Mathlib.Omega.{arith}
use Rattle.ticket.specs.declared.HiddenBox.{HiddenBox}
use Rattle.boxes.specs.Boxes.{covers, hidden}

-- the number of the first box that answers, or how many boxes there are where none does
unfoldable pub first_of : (HiddenBox → Bool) → List HiddenBox → ℕ
first_of asked [] = 0
first_of asked (b ∷ boxes) = cond (asked b) 0 (suc (first_of asked boxes))

some_case : (below : Bool) (k i : ℕ) → cond below (Some k) None ≡ Some i → (below ≡ true) × (k ≡ i)
some_case true k i e = (refl, cc)
some_case false k i e = (cc, cc)

none_case : (below : Bool) (k : ℕ) → cond below (Some k) None ≡ None → below ≡ false
none_case true k e = cc
none_case false k e = refl

module _ (asked : HiddenBox → Bool) where
  at_most_case : (n m : ℕ) (here : Bool) → n ≤ m → cond here 0 (suc n) ≤ suc m
  at_most_case n m true h = omega arith
  at_most_case n m false h = omega arith

  pub first_at_most : (boxes : List HiddenBox) → first_of asked boxes ≤ length boxes
  unfolding first_of
  first_at_most [] = omega arith
  first_at_most (b ∷ boxes) = at_most_case (first_of asked boxes) (length boxes) (asked b) (first_at_most boxes)

  -- none before the first answers
  before_case :
      (b d : HiddenBox) (boxes : List HiddenBox) (here : Bool) (k : ℕ) → asked b ≡ here
      → ((j : ℕ) → j < first_of asked boxes → asked (get_or boxes j d) ≡ false)
      → k < cond here 0 (suc (first_of asked boxes)) → asked (get_or (b ∷ boxes) k d) ≡ false
  before_case b d boxes true k e more h = let z : ⊥ = omega arith in absurd z
  before_case b d boxes false zero e more h = e
  before_case b d boxes false (suc k) e more h = more k (omega arith)

  pub none_before :
      (boxes : List HiddenBox) (d : HiddenBox) (k : ℕ) → k < first_of asked boxes → asked (get_or boxes k d) ≡ false
  unfolding first_of
  none_before [] d k h = let z : ⊥ = omega arith in absurd z
  none_before (b ∷ boxes) d k h = before_case b d boxes (asked b) k refl (none_before boxes d) h

  -- a box that answers is the first one, or stands after it
  pub first_not_after :
      (boxes : List HiddenBox) (d : HiddenBox) (k : ℕ) → asked (get_or boxes k d) ≡ true → first_of asked boxes ≤ k
  first_not_after boxes d k e =
      let apart : k < first_of asked boxes → ⊥ = λ h. true≢false (sym e ∙ none_before boxes d k h) in
      omega (arith, apart)

  -- the first one answers
  found_case :
      (b d : HiddenBox) (boxes : List HiddenBox) (here : Bool) → asked b ≡ here
      → (first_of asked boxes < length boxes → asked (get_or boxes (first_of asked boxes) d) ≡ true)
      → cond here 0 (suc (first_of asked boxes)) < suc (length boxes)
      → asked (get_or (b ∷ boxes) (cond here 0 (suc (first_of asked boxes))) d) ≡ true
  found_case b d boxes true e more h = e
  found_case b d boxes false e more h = more (omega arith)

  pub first_answers :
      (boxes : List HiddenBox) (d : HiddenBox) → first_of asked boxes < length boxes
      → asked (get_or boxes (first_of asked boxes) d) ≡ true
  unfolding first_of
  first_answers [] d h = let z : ⊥ = omega arith in absurd z
  first_answers (b ∷ boxes) d h = found_case b d boxes (asked b) refl (first_answers boxes d) h

  -- the boxes before k do not answer, and box k does or does not
  pub first_here :
      (boxes : List HiddenBox) (d : HiddenBox) (k : ℕ) → k ≤ first_of asked boxes → asked (get_or boxes k d) ≡ true
      → first_of asked boxes ≡ k
  first_here boxes d k h e = omega (arith, first_not_after boxes d k e)

  pub first_later :
      (boxes : List HiddenBox) (d : HiddenBox) (k : ℕ) → k ≤ first_of asked boxes → k < length boxes
      → asked (get_or boxes k d) ≡ false → k < first_of asked boxes
  first_later boxes d k h l e =
      let apart : first_of asked boxes ≡ k → ⊥ =
      λ s. true≢false (sym (first_answers boxes d (omega arith)) ∙ ap (λ (i : ℕ). asked (get_or boxes i d)) s ∙ e)
      in
      omega (arith, apart)

  -- the number that a search gives is the first one's, and where it gives none no box answers
  pub first_position : (boxes : List HiddenBox) → first_of asked boxes ≡ position_or_len asked boxes
  unfolding first_of
  first_position =
      is_position_or_len (first_of asked) asked refl
      (λ b boxes.
      let one : suc (first_of asked boxes) ≡ 1 + first_of asked boxes = omega arith in
      ap (cond (asked b) 0) one)

  pub found_some : (boxes : List HiddenBox) (i : ℕ) → position asked boxes ≡ Some i
      → (first_of asked boxes ≡ i) × (i < length boxes)
  found_some boxes i e =
      let at = position_or_len asked boxes in
      let found = some_case (ltb at (length boxes)) at i e in
      (first_position boxes ∙ found.1, omega (arith, found.1, ltb-true at (length boxes) found.0))

  pub found_none : (boxes : List HiddenBox) → position asked boxes ≡ None → first_of asked boxes ≡ length boxes
  found_none boxes e =
      let at = position_or_len asked boxes in
      let over = none_case (ltb at (length boxes)) at e in
      omega (arith, first_position boxes, first_at_most boxes, ltb-false at (length boxes) over)

next_below : (m n : ℕ) → ltb m n ≡ ltb (suc m) (suc n)
next_below m n =
    by_cases (dec_lt m n)
    (λ k. lt-ltb m n k ∙ sym (lt-ltb (suc m) (suc n) (omega arith)))
    (λ k. le-ltb m n (omega arith) ∙ sym (le-ltb (suc m) (suc n) (omega arith)))

hidden_case :
    (n m : ℕ) (here there : Bool) → there ≡ ltb n m → here || there ≡ ltb (cond here 0 (suc n)) (suc m)
hidden_case n m true there e = sym (lt-ltb 0 (suc m) (omega arith))
hidden_case n m false there e = e ∙ next_below n m

-- a pixel is hidden exactly if some box is the first that covers it
pub hidden_first :
    (boxes : List HiddenBox) (c r : ℕ)
    → hidden boxes c r ≡ ltb (first_of (λ (b : HiddenBox). covers b c r) boxes) (length boxes)
unfolding first_of hidden
hidden_first [] c r = sym (le-ltb 0 0 (omega arith))
hidden_first (b ∷ boxes) c r =
    hidden_case (first_of (λ (x : HiddenBox). covers x c r) boxes) (length boxes) (covers b c r) (hidden boxes c r)
    (hidden_first boxes c r)

is_some_case : (below : Bool) (k : ℕ) → is_some (cond below (Some k) None) ≡ below
is_some_case true k = refl
is_some_case false k = refl

pub hidden_found : (boxes : List HiddenBox) (c r : ℕ)
    → is_some (position (λ (b : HiddenBox). covers b c r) boxes) ≡ hidden boxes c r
hidden_found boxes c r =
    is_some_case _ _
    ∙ ap (λ (k : ℕ). ltb k (length boxes)) (sym (first_position (λ (b : HiddenBox). covers b c r) boxes))
    ∙ sym (hidden_first boxes c r)
