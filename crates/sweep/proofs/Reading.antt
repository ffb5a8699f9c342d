-- What a sweep reads at a step of a pixel's line, where the rows that it reads hold their page. Assumes nothing.
use mathlib.Core.Path.{◌≡◌, sym, ap, ap₂, ◌∙◌}
use mathlib.Core.List.{List}
use Prim.Native.Nat.{ℕ, zero, suc, ◌+◌, ◌-◌, ◌*◌, ◌%◌, ◌≤◌, ◌<◌, min, zero-le}
use native.Mathlib.Nat.{mul-le-mul_right, suc-mul, add-mul, zero-add, add-zero}
use native.Mathlib.Omega.{arith}
use lib.ListN.{get_or}
use Rattle.geometry.specs.Line.{period}
use Rattle.geometry.proofs.Laws.{period_forward}
use Rattle.runs.specs.Grid.{Page, Pixel, row_at, column_at, number, to_end_at, spot}
use Rattle.runs.specs.GridLaws.{StepOnPage, row_fits, column_fits, row_again, column_again, spot_on}
use Rattle.runs.specs.Scratch.{size}
use Rattle.sweep.specs.Sweeps.{RowsHold, Across}
use Rattle.runs.specs.declared.Grid.{Grid}
use Rattle.sweep.proofs.Making.{u, z, small, start}

module _ {g : Grid} {profile reaches : List ℕ} {R t x : ℕ} (at : Pixel g profile reaches R t x) where
  abbrev u₀ : ℕ
  u₀ = u at

  abbrev z₀ : ℕ
  z₀ = z at

  own_row : row_at g u₀ t ≡ R
  own_row = ap (row_at g u₀) at.step ∙ row_again g at.sized R x at.row at.column

  own_column : column_at g z₀ t ≡ x
  own_column = ap (column_at g z₀) at.step ∙ column_again g at.sized R x at.row at.column

  -- later steps are in lower rows
  pub row_later : (s : ℕ) → t < s → R < row_at g u₀ s
  unfolding row_at
  row_later s h =
      let p : 1 ≤ period g.line = period_forward g.line at.sized.sound in
      let far : suc t * period g.line ≤ s * period g.line = mul-le-mul_right (period g.line) h in
      omega (arith, own_row, suc-mul t (period g.line))

  pub row_earlier : (s : ℕ) → s < t → row_at g u₀ s < R
  unfolding row_at
  row_earlier s h =
      let p : 1 ≤ period g.line = period_forward g.line at.sized.sound in
      let far : suc s * period g.line ≤ t * period g.line = mul-le-mul_right (period g.line) h in
      omega (arith, own_row, suc-mul s (period g.line))

  -- one step before is one period up, and the window's last step in the rows that the window reaches
  pub row_before : R - g.period ≤ row_at g u₀ (t - 1)
  unfolding row_at
  row_before =
      let near : t * period g.line ≤ suc (t - 1) * period g.line = mul-le-mul_right (period g.line) (omega arith) in
      omega (arith, own_row, at.sized.period_is, suc-mul (t - 1) (period g.line))

  pub row_on : (b : ℕ) → row_at g u₀ (t + b) ≡ R + b * g.period
  unfolding row_at
  row_on b = omega (arith, own_row, add-mul t b (period g.line), ap (λ (q : ℕ). b * q) at.sized.period_is)

  module _ (bytes : List ℕ) (f : Page) (lo hi s : ℕ) (there : StepOnPage g u₀ z₀ s) (low : lo ≤ row_at g u₀ s)
      (high : row_at g u₀ s < hi) where
    pub read_B : RowsHold bytes (size g) g f lo hi
        → get_or bytes (size g + spot g u₀ z₀ s) 0 ≡ f (row_at g u₀ s) (column_at g z₀ s)
    unfolding RowsHold
    read_B holds =
        ap (λ (i : ℕ). get_or bytes (size g + i) 0) (spot_on g at.sized u₀ z₀ s (small at) there)
        ∙ holds (row_at g u₀ s) low high (column_at g z₀ s) (column_fits g at.sized u₀ z₀ s (small at) there)

    pub read_A : RowsHold bytes 0 g f lo hi → get_or bytes (spot g u₀ z₀ s) 0 ≡ f (row_at g u₀ s) (column_at g z₀ s)
    unfolding RowsHold
    read_A holds =
        ap (λ (i : ℕ). get_or bytes i 0) (spot_on g at.sized u₀ z₀ s (small at) there ∙ sym (zero-add _))
        ∙ holds (row_at g u₀ s) low high (column_at g z₀ s) (column_fits g at.sized u₀ z₀ s (small at) there)

  -- in A at a step on from the pixel: lower rows, or the pixel itself
  pub read_on : (bytes : List ℕ) (f : Page) (b : ℕ) → StepOnPage g u₀ z₀ (t + b)
      → get_or bytes (R * g.width + x) 0 ≡ f R x
      → RowsHold bytes 0 g f (suc R) (min g.height (suc (R + b * g.period)))
      → get_or bytes (spot g u₀ z₀ (t + b)) 0 ≡ f (row_at g u₀ (t + b)) (column_at g z₀ (t + b))
  read_on bytes f zero there own rows =
      let here : t + 0 ≡ t = add-zero t in
      let row : row_at g u₀ (t + 0) ≡ R = ap (row_at g u₀) here ∙ own_row in
      let column : column_at g z₀ (t + 0) ≡ x = ap (column_at g z₀) here ∙ own_column in
      ap (λ (i : ℕ). get_or bytes i 0)
      (spot_on g at.sized u₀ z₀ (t + 0) (small at) there ∙ ap₂ (λ (a c : ℕ). a * g.width + c) row column)
      ∙ own
      ∙ sym (ap₂ f row column)
  read_on bytes f (suc b) there own rows =
      read_A bytes f (suc R) (min g.height (suc (R + suc b * g.period))) (t + suc b) there
      (row_later (t + suc b) (omega arith))
      (omega (arith, row_fits g at.sized u₀ z₀ (t + suc b) (small at) there, row_on (suc b))) rows

  -- the same where rows further on are there too
  pub read_within : (bytes : List ℕ) (f : Page) (b on : ℕ) → b ≤ on → StepOnPage g u₀ z₀ (t + b)
      → get_or bytes (R * g.width + x) 0 ≡ f R x
      → RowsHold bytes 0 g f (suc R) (min g.height (suc (R + on * g.period)))
      → get_or bytes (spot g u₀ z₀ (t + b)) 0 ≡ f (row_at g u₀ (t + b)) (column_at g z₀ (t + b))
  unfolding RowsHold
  read_within bytes f b on near there own rows =
      let less : b * g.period ≤ on * g.period = mul-le-mul_right g.period near in
      read_on bytes f b there own (λ r lo hi y h. rows r lo (omega arith) y h)

  -- a result that is made of two: its first part
  module _ (bytes : List ℕ) (inside rest : ℕ) (across : Across g bytes R t x inside rest) where
    pub inside_first : 0 < (number g R x - g.back) % g.length
    inside_first = omega (arith, across.inside_is, across.inside_some)

    pub rest_read : (f : Page) → RowsHold bytes (size g) g (to_end_at g f) 0 g.height
        → rest ≡ to_end_at g f (row_at g u₀ (t - g.back)) (column_at g z₀ (t - g.back))
    rest_read f rows =
        let there = start at across.reached in
        across.rest_is ∙ read_B bytes (to_end_at g f) 0 g.height (t - g.back) there zero-le
        (row_fits g at.sized u₀ z₀ (t - g.back) (small at) there) rows
