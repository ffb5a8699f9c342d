-- What the promises leave open: nothing. Two results that one promise allows are the same bytes.
-- Assumes nothing.
use mathlib.Core.Path.{◌≡◌, sym, ◌∙◌, subst}
use mathlib.Core.Bool.{Bool}
use mathlib.Core.List.{List}
use mathlib.Core.Logic.{by_cases}
use Prim.Native.Nat.{ℕ, ◌/◌, ◌%◌, ◌≤◌, ◌<◌}
use native.Mathlib.Nat.{mod-lt, div-add-mod'}
use native.Mathlib.Decide.{dec_lt}
use native.Mathlib.Omega.{arith}
use lib.ListN.{length, get_or}
use lib.Seq.{ext_get_or}
use Rattle.tray.specs.declared.Layout.{Layout}
use Rattle.tray.specs.declared.Rectangle.{Rectangle}
use Rattle.tray.specs.Turned.{InRectangle}
use Rattle.tray.specs.Promises.{RowFilled, RectanglePainted, BoxPainted}
use Rattle.tray.specs.Laws.{compact_one}

pub row_filled_one :
    (from : List ℕ) (falls : Bool) (one two : List ℕ) → RowFilled from falls one → RowFilled from falls two → one ≡ two
row_filled_one from falls one two f g =
    ext_get_or 0 one two (f.size ∙ sym g.size)
    (λ k k-in.
    let here : k < length from = omega (arith, f.size) in
    f.each k here ∙ sym (g.each k here))

-- a pixel lies in a rectangle or it does not
in_or_out :
    {X : Type 0} (x : Rectangle) (a b : ℕ) → (InRectangle x a b → X) → ((InRectangle x a b → ⊥) → X) → X
in_or_out x a b held not =
    by_cases (dec_lt a x.top) (λ l. not (λ i. omega (arith, i.below_top)))
    (λ top. by_cases (dec_lt a x.bottom)
    (λ bottom. by_cases (dec_lt b x.left) (λ l. not (λ i. omega (arith, i.from_left)))
    (λ left. by_cases (dec_lt b x.right)
    (λ right.
    held (record { below_top = omega arith; above_bottom = bottom; from_left = omega arith; before_right = right }))
    (λ l. not (λ i. omega (arith, i.before_right)))))
    (λ l. not (λ i. omega (arith, i.above_bottom))))

module _ (w : ℕ) (x : Rectangle) (value : ℕ) (before one two : List ℕ) where
  pub painted_one :
      1 ≤ w → RectanglePainted w x value before one → RectanglePainted w x value before two → one ≡ two
  painted_one some f g =
      ext_get_or 0 one two (f.size ∙ sym g.size)
      (λ i i-in.
      let a = i / w in
      let b = i % w in
      subst (λ (k : ℕ). get_or one k 0 ≡ get_or two k 0) (div-add-mod' i w)
      (in_or_out x a b
      (λ here. f.painted a b here ∙ sym (g.painted a b here))
      (λ out. f.kept a b (mod-lt i some) out ∙ sym (g.kept a b (mod-lt i some) out))))

pub box_painted_one :
    (lay : Layout) (x : Rectangle) (value : ℕ) (before one two : List ℕ) → BoxPainted lay x value before one
    → BoxPainted lay x value before two → one ≡ two
box_painted_one lay x value before one two f g =
    compact_one lay one two (f.size ∙ sym g.size)
    (λ r r_in c c_in.
    in_or_out x r c
    (λ here. f.hidden r r_in c c_in here ∙ sym (g.hidden r r_in c c_in here))
    (λ out. f.shown r r_in c c_in out ∙ sym (g.shown r r_in c c_in out)))
    (λ i l. f.rest i l ∙ sym (g.rest i l))
