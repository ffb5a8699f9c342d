-- What each sweep makes, what it costs, and what it must find.
-- Assumes nothing.
use Rattle.std.specs.Prelude.{ℕ, suc, ◌+◌, ◌-◌, ◌*◌, ◌%◌, ◌≤◌, ◌<◌, min, max, ◌⊎◌, ◌≡◌, List, get_or}
use Rattle.runs.specs.Grid.{Page, start_row, line_name, number, spot, from_start_at, to_end_at, windowed_at, rightward_at, leftward_at, resulting_at}
use Rattle.runs.specs.declared.Grid.{Grid}
use Rattle.runs.specs.Scratch.{size, total, Kept}
use Rattle.sweep.specs.declared.Sweep.{Sweep}
use Rattle.sweep.specs.declared.Sweep.TheVariants.{Backward, Forward, Result}

-- where a sweep writes: the backward one into B, the others into A
unfoldable pub target : Sweep → Grid → ℕ
target Backward g = size g
target Forward g = 0
target Result g = 0

-- what it writes
unfoldable pub new_at : Sweep → Grid → Page → Page
new_at Backward g f = to_end_at g f
new_at Forward g f = from_start_at g f
new_at Result g f = windowed_at g f

-- what a pixel of it costs
unfoldable pub cost_at : Sweep → Grid → ℕ → ℕ → ℕ
cost_at Backward g R x = leftward_at g R x
cost_at Forward g R x = rightward_at g R x
cost_at Result g R x = resulting_at g R x

-- a page stands in the scratch at a place, in its rows from lo up to hi
unfoldable pub RowsHold : List ℕ → ℕ → Grid → Page → ℕ → ℕ → Type 0
RowsHold bytes base g f lo hi = (R : ℕ) → lo ≤ R → R < hi → (x : ℕ) → x < g.width → get_or bytes (base + (R * g.width + x)) 0 ≡ f R x

-- the rows up to which the windows of a row reach
unfoldable pub window_rows : Grid → ℕ → ℕ
window_rows g R = min g.height (suc (R + g.on * g.period))

-- what a sweep finds at a pixel (R, x), whatever page f the pass filters: at the pixel and in the rows it reads
unfoldable pub Ready : Sweep → Grid → List ℕ → Page → ℕ → ℕ → Type 0
Ready Backward g bytes f R x =
    (get_or bytes (size g + (R * g.width + x)) 0 ≡ f R x) × RowsHold bytes (size g) g (to_end_at g f) (suc R) g.height
Ready Forward g bytes f R x = (get_or bytes (R * g.width + x) 0 ≡ f R x) × RowsHold bytes 0 g (from_start_at g f) (R - g.period) R
Ready Result g bytes f R x =
    (get_or bytes (R * g.width + x) 0 ≡ from_start_at g f R x)
    × RowsHold bytes 0 g (from_start_at g f) (suc R) (window_rows g R)
    × RowsHold bytes (size g) g (to_end_at g f) 0 g.height

-- a result whose window begins in the line, a number of steps inside a block, with the running extreme from there
-- to its end
pub record Across (g : Grid) (bytes : List ℕ) (R t x inside rest : ℕ) : Type 0 where
  pub reached : g.back ≤ number g R x
  pub inside_is : inside ≡ (number g R x - g.back) % g.length
  pub inside_some : 0 < inside
  pub rest_is : rest ≡ get_or bytes (size g + spot g (start_row g R) (line_name g R x) (t - g.back)) 0

-- what a sweep finds in a part of a row, from column lo up to hi
abbrev pub PartReady : Sweep → Grid → List ℕ → Page → ℕ → ℕ → ℕ → Type 0
PartReady sweep g bytes f R lo hi = (x : ℕ) → lo ≤ x → x < hi → Ready sweep g bytes f R x

-- a part of a row is swept: its new values, everything else as it was, and the comparisons counted
pub record PartDone (sweep : Sweep) (g : Grid) (R lo hi : ℕ) (old new : List ℕ) (count : ℕ) : Type 0 where
  pub kept : Kept (target sweep g + R * g.width + lo) (target sweep g + R * g.width + hi) old new
  pub made : (f : Page) → PartReady sweep g old f R lo hi → (x : ℕ) → lo ≤ x → x < hi → get_or new (target sweep g + R * g.width + x) 0 ≡ new_at sweep g f R x
  pub counted : count ≡ total (cost_at sweep g R) lo (hi - lo)

abbrev pub RowSwept : Sweep → Grid → ℕ → List ℕ → List ℕ → ℕ → Type 0
RowSwept sweep g R old new count = PartDone sweep g R 0 g.width old new count

-- ---- whole pages

-- the comparisons of a row
abbrev pub row_cost : Sweep → Grid → ℕ → ℕ
row_cost sweep g R = total (cost_at sweep g R) 0 g.width

-- the backward sweep, up the rows: where page f stands in the scratch at a place, in its rows from least up to hi,
-- and the rows from hi on are swept, those from lo up to hi are swept too, everything else is as it was, and the
-- comparisons are counted
pub record Raised (base : ℕ) (g : Grid) (least lo hi : ℕ) (old new : List ℕ) (count : ℕ) : Type 0 where
  pub kept : Kept (size g + lo * g.width) (size g + hi * g.width) old new
  pub made : (f : Page) → RowsHold old base g f least hi → RowsHold old (size g) g (to_end_at g f) hi g.height → RowsHold new (size g) g (to_end_at g f) lo hi
  pub counted : count ≡ total (row_cost Backward g) lo (hi - lo)

-- the forward sweep and close behind it the results, down the rows: the running extremes are made in the rows above
-- `ahead`, and of them the results in the rows above `done`
pub record Lowered (g : Grid) (ahead done : ℕ) (old new : List ℕ) (count : ℕ) : Type 0 where
  pub kept : Kept 0 (ahead * g.width) old new
  pub starts : (f : Page) → RowsHold old 0 g f 0 g.height → RowsHold new 0 g (from_start_at g f) done ahead
  pub made : (f : Page) → RowsHold old 0 g f 0 g.height → RowsHold old (size g) g (to_end_at g f) 0 g.height → RowsHold new 0 g (windowed_at g f) 0 done
  pub counted : count ≡ total (row_cost Forward g) 0 ahead + total (row_cost Result g) 0 done

-- how many rows the results stay behind: as many as a window reaches on, and at least one step, as the forward
-- sweep reads one step back
unfoldable pub lag : Grid → ℕ
lag g = min (max g.on 1 * g.period) g.height

-- a row is swept where it is asked for; else nothing happens
abbrev pub SweptIf : Type 0 → Sweep → Grid → ℕ → List ℕ → List ℕ → ℕ → Type 0
SweptIf asked sweep g R old new count = (asked × RowSwept sweep g R old new count) ⊎ ((asked → ⊥) × (new ≡ old) × (count ≡ 0))

-- the comparisons of a sweep and of a pass
abbrev pub sweep_cost : Sweep → Grid → ℕ
sweep_cost sweep g = total (row_cost sweep g) 0 g.height

-- a pass: page A holds the windows' extremes of what it held, page B is used, and nothing behind them is touched
pub record Passed (g : Grid) (old new : List ℕ) (count : ℕ) : Type 0 where
  pub kept : Kept 0 (size g + size g) old new
  pub made : (f : Page) → RowsHold old 0 g f 0 g.height → RowsHold new 0 g (windowed_at g f) 0 g.height
  pub counted : count ≡ sweep_cost Backward g + sweep_cost Forward g + sweep_cost Result g
  -- "So the work is at most 3·w·h a pass."
  pub most : count ≤ 3 * size g
