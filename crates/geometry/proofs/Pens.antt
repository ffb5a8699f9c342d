-- What is known of a pen at a column of the line that it draws.
-- Assumes nothing.
use mathlib.Core.Path.{◌≡◌, sym, ap, subst}
use Prim.Native.Nat.{ℕ, zero, suc, ◌+◌, ◌*◌, ◌≤◌, ◌<◌}
use native.Mathlib.Nat.{le_of_eq}
use native.Mathlib.Omega.{arith}
use Rattle.geometry.specs.Line.{nearest}
use Rattle.geometry.specs.Bresenham.{Drawable, error, pen_at}
use Rattle.geometry.proofs.Laws.{error_is, error_below, pen_is}
use Rattle.geometry.proofs.Laws.Nearest.{nearest_step}
use Rattle.geometry.specs.declared.bresenham.Pen.{Pen}

module _ (a b : ℕ) (can : Drawable a b) where
  pub pen_start : pen_at a b 0 ≡ record { column = 0; row = 0; error = a }
  pen_start = pen_is a b 0 0 a can.forward (omega (arith, can.forward)) (omega arith)

  start_row_lem : nearest a b 0 ≡ 0
  unfolding pen_at
  start_row_lem = ap (λ (p : Pen). p.row) pen_start

  row_low : (c : ℕ) → nearest a b c ≤ c
  row_low zero = le_of_eq start_row_lem
  row_low (suc c) = omega (arith, nearest_step a b c can.forward can.slope, row_low c)

  -- a pen at column c
  module _ (p : Pen) (c : ℕ) (at : p ≡ pen_at a b c) where
    pen_row : p.row ≡ nearest a b c
    unfolding pen_at
    pen_row = ap (λ (q : Pen). q.row) at

    pen_error : p.error ≡ error a b c
    unfolding pen_at
    pen_error = ap (λ (q : Pen). q.error) at

    pub pen_row_low : p.row ≤ c
    pen_row_low = subst (λ (r : ℕ). r ≤ c) (sym pen_row) (row_low c)

    pub pen_error_low : p.error < 2 * a
    pen_error_low = subst (λ (e : ℕ). e < 2 * a) (sym pen_error) (error_below a b c can.forward)

    pen_whole : p.row * (2 * a) + p.error ≡ 2 * c * b + a
    pen_whole = rw (pen_row, pen_error) (error_is a b c)

    -- a step adds 2b to what row and error make together
    pub pen_steps : (q e : ℕ) → e < 2 * a → q * (2 * a) + e ≡ p.row * (2 * a) + p.error + 2 * b
        → record { column = c + 1; row = q; error = e } ≡ pen_at a b (c + 1)
    pen_steps q e small more = sym (pen_is a b (c + 1) q e can.forward small (omega (arith, more, pen_whole)))
