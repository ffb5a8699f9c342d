-- Results of lines that leave at the page's bottom, where their windows end past the line.
-- Assumes nothing.
use Rattle.std.specs.Prelude.{ℕ, suc, ◌+◌, ◌-◌, ◌*◌, ◌%◌, ◌≤◌, ◌<◌, ◌≡◌}
use Rattle.geometry.specs.Drift.{drift}
use Rattle.runs.specs.Grid.{start_row, line_name}
use Rattle.runs.specs.GridLaws.{StepOnPage}
use Rattle.runs.specs.Runs.{entry_at}
use Rattle.runs.specs.declared.Grid.{Grid}
use Rattle.sweep.specs.declared.Within.{Within}

-- columns from lo up to hi whose lines entered from the side and leave the page at its bottom: their last step is b
-- steps on, and their windows end past it
pub record AtBottom (g : Grid) (R t b lo hi : ℕ) : Type 0 where
  pub most : hi ≤ g.width
  pub side : hi ≤ drift g.line t
  pub row : R + b * g.period < g.height
  pub bottom : g.height ≤ R + suc b * g.period
  pub there : (y : ℕ) → lo ≤ y → y < hi → StepOnPage g (start_row g R) (line_name g R y) (t + b)
  pub past : b < g.on

-- columns from lo up to hi whose windows begin in the line
abbrev pub Begun : Grid → ℕ → ℕ → ℕ → ℕ → Type 0
Begun g R t lo hi = (y : ℕ) → lo ≤ y → y < hi → entry_at g R y + g.back ≤ t

-- for windows that begin back steps before step t, in lines that end b steps after it
pub record WithinAt (g : Grid) (t b : ℕ) (w : Within) : Type 0 where
  pub last_is : w.last ≡ (t + b) % g.length
  pub near_is : w.near ≡ suc w.last - (g.back + b)
  pub far_is : w.far ≡ suc w.last + g.length - (g.back + b)
