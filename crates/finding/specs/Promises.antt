-- What the functions of a search ask of their callers: every window lies in the row.
-- Assumes nothing.
use Rattle.std.specs.Prelude.{ℕ, suc, ◌+◌, ◌≤◌, ◌<◌}
use Rattle.finding.specs.declared.Search.{Search}

-- the window of place i lies in a row of n values
pub record Lies (s : Search) (n i : ℕ) : Type 0 where
  pub begins : s.back ≤ i
  pub ends : i + s.length ≤ n + s.back
  pub inside : s.back < s.length

-- the windows of all places that are looked over lie there
pub record Fits (s : Search) (n : ℕ) : Type 0 where
  pub begins : s.back ≤ s.from
  pub ends : s.from + s.steps + s.length ≤ suc (n + s.back)
  pub inside : s.back < s.length
