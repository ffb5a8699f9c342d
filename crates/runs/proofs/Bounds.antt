-- What the sides and the line of a grid bound: numbers that the code computes fit, and the tables are long enough.
-- Assumes nothing.
use mathlib.Core.Path.{◌≡◌, sym, ap, ◌∙◌}
use Prim.Native.Nat.{ℕ, suc, ◌+◌, ◌-◌, ◌*◌, ◌≤◌, ◌<◌}
use native.Mathlib.Nat.{mul-le-mul_left, mul-le-mul_right, mul-one, suc-mul, le_trans}
use native.Mathlib.Omega.{arith}
use Rattle.geometry.specs.Line.{period}
use Rattle.geometry.specs.Drift.{drift, reach}
use Rattle.geometry.proofs.Laws.{period_forward, step_split, drift_bound, reach_by}
use mathlib.Core.List.{List}
use lib.ListN.{get_or}
use Rattle.runs.specs.Grid.{Sized, Pixel, start_row, line_name, entry}
use Rattle.runs.specs.declared.Grid.{Grid}

pub some_length : {g : Grid} → Sized g → 0 < g.length
some_length sized = omega (arith, sized.length_is)

module _ (g : Grid) (profile reaches : List ℕ) (R t x : ℕ) (at : Pixel g profile reaches R t x) where
  -- a row, its step and its start
  pub record RowPlace : Type 0 where
    pub rows : t * g.period ≤ R
    pub start : start_row g R + t * g.period ≡ R
    pub step_below : t < g.height
    pub drift_below : drift g.line t < g.height
    pub drift_read : get_or profile t 0 ≡ drift g.line t

  pub row : RowPlace
  unfolding start_row
  row =
      let p : ℕ = period g.line in
      let same : t * g.period ≡ t * p = ap (λ (q : ℕ). t * q) at.sized.period_is in
      let split : start_row g R + t * p ≡ R = ap (λ (q : ℕ). start_row g R + q * p) at.step ∙ step_split g.line R in
      let far : drift g.line t ≤ t * p = drift_bound g.line at.sized.sound t in
      let one : t * 1 ≤ t * p = mul-le-mul_left t (period_forward g.line at.sized.sound) in
      let own : t * 1 ≡ t = mul-one t in
      let below : t < g.height = omega (arith, at.row) in
      record {
        rows = omega arith;
        start = omega arith;
        step_below = below;
        drift_below = omega (arith, at.row);
        drift_read = at.tabled.profile_is t below;
      }

  pub name_at : line_name g R x ≡ g.width + drift g.line t - x
  unfolding line_name
  name_at = ap (λ (s : ℕ). g.width + drift g.line s - x) (sym at.step)

  -- the line of a pixel right of its drift enters at step 0, the others where they have drifted far enough
  pub entry_zero : drift g.line t ≤ x → 0 ≡ entry g (line_name g R x)
  unfolding entry
  entry_zero h =
      let none : line_name g R x - g.width ≡ 0 = omega (arith, name_at, at.column) in
      let low : reach g.line 0 g.height ≤ 0 = reach_by g.line 0 g.height 0 (omega arith) in
      let is : reach g.line 0 g.height ≡ 0 = omega arith in
      sym (ap (λ (v : ℕ). reach g.line v g.height) none ∙ is)

  pub entry_reach : x < drift g.line t → get_or reaches (drift g.line t - x) 0 ≡ entry g (line_name g R x)
  unfolding entry
  entry_reach h =
      let some : line_name g R x - g.width ≡ drift g.line t - x = omega (arith, name_at, at.column) in
      let low : drift g.line t - x < g.height = omega (arith, row.drift_below) in
      at.tabled.reaches_is (drift g.line t - x) low ∙ ap (λ (v : ℕ). reach g.line v g.height) (sym some)

-- a product of two numbers that are both bounded
pub product : {a b m n : ℕ} → a ≤ m → b ≤ n → a * b ≤ m * n
product {a} {b} {m} {n} h k = le_trans (mul-le-mul_left a k) (mul-le-mul_right n h)

-- a pixel's place is below the page's size
pub place_below : (R x H W : ℕ) → R < H → x < W → R * W + x < H * W
place_below R x H W rows columns =
    let far : suc R * W ≤ H * W = mul-le-mul_right W rows in
    omega (arith, suc-mul R W)
