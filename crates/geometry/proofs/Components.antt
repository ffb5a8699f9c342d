-- A line's components, as the code passes them on.
-- Assumes nothing.
use Rattle.std.proofs.Common.{◌≡◌, ◌∙◌, ap, ap₂, ℕ, ◌≤◌, arith, to_z, of_z}
use Rattle.std.specs.Prelude.{ℤ, nat_abs}
use Rattle.std.specs.Int.{w32, w64}
use Rattle.std.proofs.Math.Nat.{le_trans}
use Rattle.std.proofs.lemmas.Int.{to_z-of_z, fits_signed_from_abs}
use Rattle.vectors.specs.Vector.{major_of, minor_of}
use Rattle.geometry.specs.Drift.{Allowed}
use Rattle.geometry.specs.Bresenham.{Drawable}
use Rattle.geometry.proofs.Laws.{component_back, major_near}
use Rattle.geometry.specs.declared.Line.{Line}

module _ (l : Line) (h : Allowed l) where
  -- what a call says of the components that it was passed, said of the line's
  pub along : {X : Type 0} (f : ℤ → ℤ → X) → f (to_z w32 (of_z w32 l.dx)) (to_z w32 (of_z w32 l.dy)) ≡ f l.dx l.dy
  along f = ap₂ f (component_back l.dx h.dx_near) (component_back l.dy h.dy_near)

  minor_low : nat_abs (minor_of l.dx l.dy) ≤ 255
  minor_low = le_trans h.sound.slope (major_near l h)

  -- the size of the minor component that a call returned
  pub minor_size : (z : ℤ) (b : ℕ) → z ≡ minor_of (to_z w32 (of_z w32 l.dx)) (to_z w32 (of_z w32 l.dy))
      → b ≡ nat_abs (to_z w64 (of_z w64 z)) → (b ≡ nat_abs (minor_of l.dx l.dy)) × (b ≤ 255)
  minor_size z b e f =
      let whole : z ≡ minor_of l.dx l.dy = e ∙ along minor_of in
      let low : nat_abs z ≤ 255 = rw whole minor_low in
      let same : b ≡ nat_abs z = f ∙ ap nat_abs (to_z-of_z w64 z (fits_signed_from_abs w64 z (omega arith))) in
      (same ∙ ap nat_abs whole, omega arith)

  -- the sizes of the two components are such that the plotter draws them
  pub drawable : Drawable (major_of l.dx l.dy) (nat_abs (minor_of l.dx l.dy))
  drawable = record { forward = h.sound.forward; near = major_near l h; slope = h.sound.slope }
