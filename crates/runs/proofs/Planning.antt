-- What the rows b steps on from a row are, and which of its pixels are still on the page there. Assumes nothing.
use mathlib.Core.Path.{◌≡◌, ap, ap₂, ◌∙◌}
use mathlib.Core.List.{List}
use Prim.Native.Nat.{ℕ, ◌+◌, ◌-◌, ◌*◌, ◌≤◌, ◌<◌}
use native.Mathlib.Nat.{mul-le-mul_left, mul-le-mul_right, mul-one}
use native.Mathlib.Omega.{arith}
use lib.ListN.{get_or}
use Rattle.geometry.specs.Line.{period}
use Rattle.geometry.specs.Drift.{drift}
use Rattle.geometry.proofs.Laws.{period_forward, drift_rises, drift_bound}
use Rattle.runs.specs.Grid.{Pixel, start_row, line_name}
use Rattle.runs.specs.Runs.{Row, FarEdge, place_on}
use Rattle.runs.specs.declared.Grid.{Grid}
use Rattle.runs.proofs.Bounds as bounds

module _ (g : Grid) (profile reaches : List ℕ) (R t : ℕ) (at : Row g profile reaches R t) where
  -- each of its columns is a pixel
  pub pixel : (x : ℕ) → x < g.width → Pixel g profile reaches R t x
  pixel x h = record { sized = at.sized; tabled = at.tabled; row = at.row; column = h; step = at.step }

  pub here : bounds.RowPlace g profile reaches R t 0 (pixel 0 at.sized.wide)
  here = bounds.row g profile reaches R t 0 (pixel 0 at.sized.wide)

  pub name : (x : ℕ) → x < g.width → line_name g R x ≡ g.width + drift g.line t - x
  name x h = bounds.name_at g profile reaches R t x (pixel x h)

  -- the rows before it
  pub rows_back : (k : ℕ) → k ≤ t → k * g.period ≤ R
  rows_back k h =
      let less : k * g.period ≤ t * g.period = mul-le-mul_right g.period h in
      omega (arith, here.rows)

  module _ (b : ℕ) where
    pub row_on : start_row g R + (t + b) * period g.line ≡ R + b * g.period
    row_on =
        let own : t * g.period ≡ t * period g.line = ap (λ (q : ℕ). t * q) at.sized.period_is in
        let more : b * g.period ≡ b * period g.line = ap (λ (q : ℕ). b * q) at.sized.period_is in
        omega (arith, here.start)

    -- b steps on, where that row is on the page
    pub record On : Type 0 where
      pub below : t + b < g.height
      pub rises : drift g.line t ≤ drift g.line (t + b)
      pub drift_below : drift g.line (t + b) < g.height
      pub drift_read : get_or profile (t + b) 0 ≡ drift g.line (t + b)

    module _ (rows : R + b * g.period < g.height) where
      pub on : On
      on =
          let one : (t + b) * 1 ≤ (t + b) * period g.line = mul-le-mul_left (t + b) (period_forward g.line at.sized.sound) in
          let far : drift g.line (t + b) ≤ (t + b) * period g.line = drift_bound g.line at.sized.sound (t + b) in
          let low : t + b < g.height = omega (arith, row_on, mul-one (t + b)) in
          record {
            below = low;
            rises = drift_rises g.line at.sized.sound (omega arith);
            drift_below = omega (arith, row_on);
            drift_read = at.tabled.profile_is (t + b) low;
          }

      pub place_on_near : place_on g R t b ≤ 8192 * 8192 + 8192
      unfolding place_on
      place_on_near =
          let low : R + b * g.period ≤ 8192 = omega (arith, at.sized.height_most) in
          let far : (R + b * g.period) * g.width ≤ 8192 * 8192 = bounds.product low at.sized.width_most in
          let shift : drift g.line (t + b) - drift g.line t ≤ 8192 = omega (arith, on.drift_below, at.sized.height_most) in
          omega arith

      module _ (there own : ℕ) (there_is : there ≡ get_or profile (t + b) 0) (own_is : own ≡ get_or profile t 0) where
        there_drift : there ≡ drift g.line (t + b)
        there_drift = there_is ∙ on.drift_read

        own_drift : own ≡ drift g.line t
        own_drift = own_is ∙ here.drift_read

        pub place_is : (R + b * g.period) * g.width + (there - own) ≡ place_on g R t b
        unfolding place_on
        place_is = ap₂ (λ (d e : ℕ). (R + b * g.period) * g.width + (d - e)) there_drift own_drift

        -- all columns that are left on the page, or none
        pub far_on : FarEdge g R t b (g.width - (there - own))
        far_on = record {
          most = omega arith;
          left = λ y k.
              let n = name y (omega arith) in
              record { row = omega (arith, row_on); left = omega (arith, on.rises); right = omega (arith, on.rises, there_drift, own_drift) };
          right = λ y k l o. let r = o.right in omega (arith, name y l, on.rises, there_drift, own_drift);
        }

    -- past the last row none is
    pub far_past : g.height ≤ R + b * g.period → FarEdge g R t b 0
    far_past h = record {
      most = omega arith;
      left = λ y k. absurd (omega arith);
      right = λ y k l o. let r = o.row in omega (arith, row_on);
    }

module _ (g : Grid) (profile reaches : List ℕ) (R t : ℕ) (at : Row g profile reaches R t) where
  -- the row of a step, as the code has it
  pub target_is : (s : ℕ) → R - t * g.period + s * g.period ≡ start_row g R + s * period g.line
  target_is s =
      let same : s * g.period ≡ s * period g.line = ap (λ (q : ℕ). s * q) at.sized.period_is in
      omega (arith, (here g profile reaches R t at).start)

  -- rows of the page
  pub to_below : (s : ℕ) → R - t * g.period + s * g.period < g.height → s < g.height
  to_below s rows =
      let one : s * 1 ≤ s * period g.line = mul-le-mul_left s (period_forward g.line at.sized.sound) in
      omega (arith, target_is s, mul-one s)

  pub drift_near : (s : ℕ) → R - t * g.period + s * g.period < g.height → drift g.line s < g.height
  drift_near s rows = omega (arith, drift_bound g.line at.sized.sound s, target_is s)
