-- A part of a list that was lent and has come back: n elements from a on are another list's, and the rest is as it was.
-- Assumes nothing.
use mathlib.Core.Path.{◌≡◌, sym, ◌∙◌, ap}
use mathlib.Core.List.{List, ◌++◌}
use Prim.Native.Nat.{ℕ, ◌+◌, ◌-◌, ◌≤◌, ◌<◌}
use native.Mathlib.Omega.{arith}
use lib.ListN.{length, get_or, take, drop, length-append, length-drop, get_or-append}
use lib.Seq.{length-take-le, get_or-append-add, get_or-take, get_or-drop}
use borrow.Rule.Slice.PartMut.{put_mid}

pub part_length : (a n : ℕ) (xs : List ℕ) → a + n ≤ length xs → length (take n (drop a xs)) ≡ n
part_length a n xs fits = length-take-le n (drop a xs) (rw length-drop (omega arith))

module _ (a n : ℕ) (xs ys : List ℕ) (fits : a + n ≤ length xs) (long : length ys ≡ n) where
  front : length (take a xs) ≡ a
  front = length-take-le a xs (omega arith)

  pub lent_length : length (put_mid a n xs ys) ≡ length xs
  lent_length = simp (length-append, length-drop) (omega (arith, front))

  pub lent_below : (i : ℕ) → i < a → get_or (put_mid a n xs ys) i 0 ≡ get_or xs i 0
  lent_below i l =
      let here : i < length (take a xs) = rw front l in
      get_or-append (take a xs) (ys ++ drop n (drop a xs)) 0 i here ∙ get_or-take a xs i 0 l

  pub lent_within : (k : ℕ) → k < n → get_or (put_mid a n xs ys) (a + k) 0 ≡ get_or ys k 0
  lent_within k l =
      let here : k < length ys = omega arith in
      ap (λ (m : ℕ). get_or (put_mid a n xs ys) (m + k) 0) (sym front)
      ∙ get_or-append-add (take a xs) (ys ++ drop n (drop a xs)) k 0
      ∙ get_or-append ys (drop n (drop a xs)) 0 k here

  pub lent_above : (i : ℕ) → a + n ≤ i → get_or (put_mid a n xs ys) i 0 ≡ get_or xs i 0
  lent_above i l =
      let far : i ≡ length (take a xs) + (length ys + (i - (a + n))) = omega (arith, front) in
      let back : a + (n + (i - (a + n))) ≡ i = omega arith in
      ap (λ (m : ℕ). get_or (put_mid a n xs ys) m 0) far
      ∙ get_or-append-add (take a xs) (ys ++ drop n (drop a xs)) (length ys + (i - (a + n))) 0
      ∙ get_or-append-add ys (drop n (drop a xs)) (i - (a + n)) 0
      ∙ get_or-drop n (drop a xs) (i - (a + n)) 0
      ∙ get_or-drop a xs (n + (i - (a + n))) 0
      ∙ ap (λ (m : ℕ). get_or xs m 0) back
