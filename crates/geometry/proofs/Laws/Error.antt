-- The running error term: what it is at each column, and that nothing else is so.
-- Assumes nothing.
use Rattle.std.specs.Prelude.{◌≡◌}
use Rattle.std.proofs.Common.{sym, ◌∙◌, div-add-mod', mod-lt}
use Rattle.std.proofs.Math.Path.{ap, ap₂}
use Prim.Native.Nat.{ℕ, ◌+◌, ◌*◌, ◌/◌, ◌%◌, ◌≤◌, ◌<◌}
use Rattle.std.proofs.Math.Nat.{mod-eq_of_lt, div-eq_of_lt, mul-add-div_right, mul-add-mod_self_right}
use native.Mathlib.Omega.{arith}
use Rattle.geometry.specs.Line.{nearest}
use Rattle.geometry.specs.Bresenham.{error, pen_at}
use Rattle.geometry.specs.declared.bresenham.Pen.{Pen}

pub error_is : (a b c : ℕ) → nearest a b c * (2 * a) + error a b c ≡ 2 * c * b + a
unfolding nearest error
error_is a b c = div-add-mod' (2 * c * b + a) (2 * a)

pub error_below : (a b c : ℕ) → 1 ≤ a → error a b c < 2 * a
unfolding error
error_below a b c h = mod-lt (2 * c * b + a) (omega arith)

-- a whole part and what is left over, below the divisor, are the quotient and the remainder
module _ (a b c q e : ℕ) (h : 1 ≤ a) (small : e < 2 * a) (whole : q * (2 * a) + e ≡ 2 * c * b + a) where
  row_is : nearest a b c ≡ q
  unfolding nearest
  row_is =
      let divisor : 0 < 2 * a = omega arith in
      let over : e / (2 * a) ≡ 0 = div-eq_of_lt small in
      ap (λ (n : ℕ). n / (2 * a)) (sym whole) ∙ mul-add-div_right divisor q e ∙ omega arith

  left_is : error a b c ≡ e
  unfolding error
  left_is =
      ap (λ (n : ℕ). n % (2 * a)) (sym whole) ∙ mul-add-mod_self_right q (2 * a) e ∙ mod-eq_of_lt small

  pub pen_is : pen_at a b c ≡ record { column = c; row = q; error = e }
  unfolding pen_at
  pen_is =
      let at : ℕ → ℕ → Pen = λ (r l : ℕ). record { column = c; row = r; error = l } in
      ap₂ at row_is left_is
