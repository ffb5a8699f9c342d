-- A ticket put into a buffer of numbers, store by store. Assumes nothing.
use mathlib.Core.Path.{◌≡◌, refl, sym, ap, ◌∙◌}
use mathlib.Core.List.{List, [], ◌∷◌, ◌++◌, append_assoc}
use Prim.Native.Nat.{ℕ, suc, ◌+◌, ◌-◌, ◌*◌, ◌<◌, ◌≤◌}
use native.Mathlib.Nat.{zero-add}
use native.Mathlib.Numerals.{add-one}
use native.Mathlib.Omega.{arith}
use lib.ListN.{length, get_or, take, drop}
use lib.Seq.{sets, sets-eq, drop-cons, drop-drop, drop-length}
use Rattle.ticket.specs.declared.HiddenBox.{HiddenBox}
use Rattle.showing.specs.Shown.{fields_before, box_numbers, numbers_in}
use Rattle.showing.specs.declared.shown.Fields.{Fields}

pub box_put : (b : HiddenBox) (at : ℕ) (l front : List ℕ) → at + 4 ≤ length l → front ≡ box_numbers (b ∷ [])
    → take at l ++ (front ++ drop (at + 4 - at) (drop at l)) ≡ sets l at (box_numbers (b ∷ []))
unfolding box_numbers
box_put b at l front room e =
    let four : at + 4 - at ≡ 4 = omega arith in
    let four_numbers = box_numbers (b ∷ []) in
    rw (e, four, drop-drop 4 at l)
    (sym (sets-eq four_numbers l at room ∙ append_assoc (take at l) four_numbers (drop (at + 4) l)))

module _ (boxes : List HiddenBox) (k : ℕ) (l : List ℕ) where
  pub box_more : (d : HiddenBox) (m : List ℕ) → k < length boxes
      → m ≡ sets l (8 + 4 * k) (box_numbers (get_or boxes k d ∷ []))
      → sets m (8 + 4 * (k + 1)) (box_numbers (drop (k + 1) boxes)) ≡ sets l (8 + 4 * k) (box_numbers (drop k boxes))
  unfolding box_numbers
  box_more d m h put =
      let next : 8 + 4 * (k + 1) ≡ suc (suc (suc (suc (8 + 4 * k)))) = omega arith in
      rw (put, next, add-one k, drop-cons boxes k d h) refl

  pub boxes_put : (m : List ℕ) → k ≡ 64 → length boxes ≡ 64
      → sets l (8 + 4 * k) (box_numbers (drop k boxes)) ≡ m → l ≡ m
  unfolding box_numbers
  boxes_put m e h put =
      let none : drop k boxes ≡ [] = ap (λ (j : ℕ). drop j boxes) (e ∙ sym h) ∙ drop-length boxes in
      sym (ap (λ (x : List HiddenBox). sets l (8 + 4 * k) (box_numbers x)) none) ∙ put

box_count : (boxes : List HiddenBox) → length (box_numbers boxes) ≡ 4 * length boxes
unfolding box_numbers
box_count [] = refl
box_count (b ∷ boxes) = let more = box_count boxes in omega arith

module _ (f : Fields) (places : List HiddenBox) (l m n : List ℕ) where
  pub ticket_put : length places ≡ 64 → 264 ≤ length l
      → m ≡ sets l 0 (fields_before f [])
      → n ≡ sets m 8 (box_numbers places)
      → n ≡ numbers_in f places ++ drop 264 l
  ticket_put all_places room fields boxes =
      let count = box_count places in
      let all : length (numbers_in f places) ≡ 264 = omega arith in
      boxes
      ∙ ap (λ (x : List ℕ). sets x 8 (box_numbers places)) fields
      ∙ sets-eq (numbers_in f places) l 0 (omega arith)
      ∙ ap (λ (j : ℕ). numbers_in f places ++ drop j l) (zero-add (length (numbers_in f places)) ∙ all)
