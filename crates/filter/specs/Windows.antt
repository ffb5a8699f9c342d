-- Which steps are in a window, and what stands there, as laws and other crates say it.
-- Assumes nothing.
use Rattle.std.specs.Prelude.{◌≡◌, ℕ, ◌+◌, ◌≤◌, ◌<◌}
use Rattle.std.proofs.Math.Option.{Option, some}
use Rattle.geometry.specs.Line.{step_of}
use Rattle.geometry.specs.declared.Line.{Line}
use Rattle.filter.specs.Seen.{View}
use Rattle.filter.specs.Filters.{on_line, in_window}

-- one of the n values from the k-th on is w
pub record Attained (value : ℕ → Option ℕ) (k n w : ℕ) : Type 0 where
  pub at : ℕ
  pub from : k ≤ at
  pub to : at < k + n
  pub there : value at ≡ some w

-- step x is among the n steps of the window of step y that begins a steps before y
pub record InWindow (a n y x : ℕ) : Type 0 where
  pub from : y ≤ x + a
  pub to : x + a < y + n

-- a step that a window has among its n, counted from 0, as the definition of the window reads it
pub record Reads (l : Line) (page : View) (a n M m s : ℕ) : Type 0 where
  pub at : ℕ
  pub below : at < n
  pub reads : in_window l page a M m at ≡ on_line l page M m s

-- a step of the window at which the line through (M, m) has the value v
pub record Found (l : Line) (page : View) (a n M m v : ℕ) : Type 0 where
  pub step : ℕ
  pub in_window : InWindow a n (step_of l M) step
  pub there : on_line l page M m step ≡ some v
