-- Where the steps of a row's lines stand: all of them as far from the row's own columns. Assumes nothing.
use mathlib.Core.Path.{◌≡◌, sym, ap, ap₂, ◌∙◌}
use mathlib.Core.List.{List}
use Prim.Native.Nat.{ℕ, suc, ◌+◌, ◌-◌, ◌*◌, ◌≤◌, ◌<◌}
use native.Mathlib.Nat.{mul-le-mul_right, suc-mul, add-mul}
use native.Mathlib.Omega.{arith}
use Rattle.geometry.specs.Line.{period}
use Rattle.geometry.specs.Drift.{drift}
use Rattle.runs.specs.Grid.{start_row, line_name, row_at, column_at, number, spot}
use Rattle.runs.specs.GridLaws.{StepOnPage, spot_on}
use Rattle.runs.specs.Scratch.{size}
use Rattle.runs.specs.Runs.{Row, FarEdge, entry_at, place_on}
use Rattle.runs.specs.declared.Grid.{Grid}
use Rattle.sweep.proofs.Making as making
use Rattle.runs.proofs.Planning.{pixel, here, name, row_on, on}

module _ {g : Grid} {profile reaches : List ℕ} {R t : ℕ} (at : Row g profile reaches R t) where
  -- a row, and the rows up to it
  pub row_end : R * g.width + g.width ≤ size g
  row_end =
      let far : suc R * g.width ≤ g.height * g.width = mul-le-mul_right g.width at.row in
      omega (arith, suc-mul R g.width)

  module _ (y : ℕ) (column : y < g.width) where
    -- a pixel's number, counted from its entry
    pub from_entry : entry_at g R y + number g R y ≡ t
    unfolding entry_at
    from_entry = making.numbered (pixel g profile reaches R t at y column)

    small : start_row g R < period g.line
    small = making.small (pixel g profile reaches R t at y column)

    -- b steps on
    pub spot_ahead : (b : ℕ) → StepOnPage g (start_row g R) (line_name g R y) (t + b)
        → place_on g R t b + y ≡ spot g (start_row g R) (line_name g R y) (t + b)
    unfolding place_on row_at column_at
    spot_ahead b there =
        ap (λ (q : ℕ). q * g.width + (drift g.line (t + b) - drift g.line t) + y) rows
        ∙ shifted
        ∙ sym (spot_on g at.sized (start_row g R) (line_name g R y) (t + b) small there)
      where
        rows : R + b * g.period ≡ row_at g (start_row g R) (t + b)
        rows = sym (row_on g profile reaches R t at b)

        shifted : row_at g (start_row g R) (t + b) * g.width + (drift g.line (t + b) - drift g.line t) + y
            ≡ row_at g (start_row g R) (t + b) * g.width + column_at g (line_name g R y) (t + b)
        shifted =
            let rises =
            (on g profile reaches R t at b (omega (arith, there.row, row_on g profile reaches R t at b))).rises in
            omega (arith, name g profile reaches R t at y column)

    -- a steps back, where lo columns are lost on the way
    pub spot_behind : (a lo : ℕ) → a ≤ t → lo + drift g.line (t - a) ≡ drift g.line t → lo ≤ y
        → StepOnPage g (start_row g R) (line_name g R y) (t - a)
        → (R - a * g.period) * g.width + (y - lo) ≡ spot g (start_row g R) (line_name g R y) (t - a)
    unfolding row_at column_at
    spot_behind a lo h lost inside there =
        ap₂ (λ (q c : ℕ). q * g.width + c) rows columns
        ∙ sym (spot_on g at.sized (start_row g R) (line_name g R y) (t - a) small there)
      where
        rows : R - a * g.period ≡ row_at g (start_row g R) (t - a)
        rows =
            let cut : (t - a + a) * g.period ≡ (t - a) * g.period + a * g.period = add-mul (t - a) a g.period in
            let whole : (t - a + a) * g.period ≡ t * g.period = ap (λ (q : ℕ). q * g.period) (omega arith) in
            let same : (t - a) * g.period ≡ (t - a) * period g.line = ap (λ (q : ℕ). (t - a) * q) at.sized.period_is in
            omega (arith, (here g profile reaches R t at).start)

        columns : y - lo ≡ column_at g (line_name g R y) (t - a)
        columns = omega (arith, name g profile reaches R t at y column)

  -- the places b steps on of the columns that are still on the page are in it
  pub far_fits : (b hi : ℕ) → FarEdge g R t b hi → 0 < hi → place_on g R t b + hi ≤ size g
  unfolding place_on
  far_fits b hi far some =
      let last = far.left (hi - 1) (omega arith) in
      let rows : R + b * g.period < g.height = omega (arith, last.row, row_on g profile reaches R t at b) in
      let rises = (on g profile reaches R t at b rows).rises in
      let end : suc (R + b * g.period) * g.width ≤ g.height * g.width = mul-le-mul_right g.width rows in
      omega (arith, suc-mul (R + b * g.period) g.width, last.right, name g profile reaches R t at (hi - 1) (omega (arith, far.most)), far.most)

  pub far_rows : (b hi : ℕ) → FarEdge g R t b hi → 0 < hi → R + b * g.period < g.height
  far_rows b hi far some = omega (arith, (far.left (hi - 1) (omega arith)).row, row_on g profile reaches R t at b)

  pub far_on : (b : ℕ) → R * g.width ≤ place_on g R t b
  unfolding place_on
  far_on b =
      let more : R * g.width ≤ (R + b * g.period) * g.width = mul-le-mul_right g.width (omega arith) in
      omega arith
