-- What a pass keeps: bytes stay bytes.
-- Assumes nothing.
use mathlib.Core.Bool.{Bool, true, false, cond}
use mathlib.Core.Option.{Option, none, some}
use Prim.Native.Nat.{ℕ, ◌+◌, ◌-◌}
use lib.Dec.{leb}
use Rattle.geometry.specs.Line.{landing, step_of, major_at}
use Rattle.geometry.specs.declared.Line.{Line}
use Rattle.filter.specs.Seen.{View}
use Rattle.filter.specs.Filters.{value_at, on_line, in_window, pass_at, pass}
use Rattle.filter.specs.Engine.{Bytes}
use Rattle.filter.proofs.Neutral.{Small, small_none, extreme_small}

module _ (page : View) (bytes : Bytes page) where
  value_small : (M : ℕ) (o : Option ℕ) → Small (value_at page M o)
  unfolding value_at Small Bytes
  value_small M none = small_none
  value_small M (some m) = bytes M m

  cond_small : (b : Bool) (o : Option ℕ) → Small o → Small (cond b o none)
  cond_small true o h = h
  cond_small false o h = small_none

  pub window_small : (l : Line) (a M m k : ℕ) → Small (in_window l page a M m k)
  unfolding in_window on_line
  window_small l a M m k =
      cond_small (leb a (step_of l M + k)) _
      (value_small (major_at l M (step_of l M + k - a)) (landing l m (step_of l M) (step_of l M + k - a)))

  pass_small : (low : Bool) (l : Line) (a n M m : ℕ) (o : Option ℕ) → Small (pass_at low l a n page M m o)
  unfolding pass_at
  pass_small low l a n M m none = small_none
  pass_small low l a n M m (some v) = extreme_small low (in_window l page a M m) (window_small l a M m) 0 n

  pub pass_bytes : (low : Bool) (l : Line) (a n : ℕ) → Bytes (pass low l a n page)
  unfolding Bytes Small pass
  pass_bytes low l a n M m = pass_small low l a n M m (page M m)
