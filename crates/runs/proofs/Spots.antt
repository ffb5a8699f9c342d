-- The place of a step of a pixel's line, as the code finds it. Assumes nothing.
use mathlib.Core.Path.{◌≡◌, sym, ap, ap₂, ◌∙◌}
use mathlib.Core.List.{List}
use Prim.Native.Nat.{ℕ, ◌+◌, ◌-◌, ◌*◌, ◌≤◌, ◌<◌}
use native.Mathlib.Nat.{mul-le-mul_left, mul-one}
use native.Mathlib.Omega.{arith}
use lib.ListN.{get_or}
use Rattle.geometry.specs.Line.{period}
use Rattle.geometry.specs.Drift.{drift}
use Rattle.geometry.proofs.Laws.{period_forward, drift_bound}
use Rattle.runs.specs.Grid.{Pixel, start_row, line_name, row_at, column_at, spot}
use Rattle.runs.specs.GridLaws.{StepOnPage, spot_off, spot_on, start_small}
use Rattle.runs.specs.declared.Grid.{Grid}
use Rattle.runs.proofs.Bounds.{row, name_at}

module _ (g : Grid) (profile reaches : List ℕ) (R t x : ℕ) (at : Pixel g profile reaches R t x) (to : ℕ) where
  -- the code's row of the step
  abbrev pub target : ℕ
  target = R - t * g.period + to * g.period

  target_is : target ≡ start_row g R + to * period g.line
  target_is =
      let r = row g profile reaches R t x at in
      let same : to * g.period ≡ to * period g.line = ap (λ (q : ℕ). to * q) at.sized.period_is in
      omega (arith, r.rows, r.start)

  pub spot_low : g.height ≤ target → g.height * g.width ≡ spot g (start_row g R) (line_name g R x) to
  spot_low h = sym (spot_off g at.sized _ _ _ (λ o. let k = o.row in omega (arith, target_is)))

  module _ (rows : target < g.height) where
    pub to_below : to < g.height
    to_below =
        let one : to * 1 ≤ to * period g.line = mul-le-mul_left to (period_forward g.line at.sized.sound) in
        omega (arith, target_is, mul-one to)

    pub to_read : get_or profile to 0 ≡ drift g.line to
    to_read = at.tabled.profile_is to to_below

    pub to_small : get_or profile to 0 < g.height
    to_small =
        let far : drift g.line to ≤ to * period g.line = drift_bound g.line at.sized.sound to in
        omega (arith, target_is, to_read)

    pub spot_left : x + get_or profile to 0 < get_or profile t 0 → g.height * g.width ≡ spot g (start_row g R) (line_name g R x) to
    spot_left h =
        sym (spot_off g at.sized _ _ _ (λ o. let k = o.left in omega (arith, to_read, (row g profile reaches R t x at).drift_read, name_at g profile reaches R t x at, at.column)))

    pub spot_right : get_or profile t 0 ≤ x + get_or profile to 0 → g.width ≤ x + get_or profile to 0 - get_or profile t 0
        → g.height * g.width ≡ spot g (start_row g R) (line_name g R x) to
    spot_right l h =
        sym (spot_off g at.sized _ _ _ (λ o. let k = o.right in omega (arith, to_read, (row g profile reaches R t x at).drift_read, name_at g profile reaches R t x at, at.column)))

    module _ (l : get_or profile t 0 ≤ x + get_or profile to 0) (h : x + get_or profile to 0 - get_or profile t 0 < g.width) where
      on : StepOnPage g (start_row g R) (line_name g R x) to
      on =
          let d = (row g profile reaches R t x at).drift_read in
          let n = name_at g profile reaches R t x at in
          record {
            row = omega (arith, target_is);
            left = omega (arith, to_read, at.column);
            right = omega (arith, to_read, at.column);
          }

      column_is : x + get_or profile to 0 - get_or profile t 0 ≡ column_at g (line_name g R x) to
      unfolding column_at
      column_is =
          let d = (row g profile reaches R t x at).drift_read in
          let n = name_at g profile reaches R t x at in
          omega (arith, to_read, at.column)

      row_is : target ≡ row_at g (start_row g R) to
      unfolding row_at
      row_is = target_is

      pub spot_in : target * g.width + (x + get_or profile to 0 - get_or profile t 0) ≡ spot g (start_row g R) (line_name g R x) to
      spot_in =
          ap₂ (λ (a b : ℕ). a * g.width + b) row_is column_is
          ∙ sym (spot_on g at.sized (start_row g R) (line_name g R x) to (start_small g at.sized R x at.row at.column) on)
