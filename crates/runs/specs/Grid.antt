-- A page in normal form, and its lines. A page is a function of a row R and a column x; rows are places on the
-- major axis. All pixels of a line share u = R mod period and z = width + drift at their step - x, so a line is
-- named by these two numbers, and what is said of a pixel is said of its line and its step. A line's pixels are its
-- steps from its entry up to where it leaves.
-- Assumes nothing.
use Rattle.std.specs.Prelude.{ℕ, suc, ◌+◌, ◌-◌, ◌*◌, ◌%◌, ◌≤◌, ◌<◌, ◌&&◌, ◌||◌, cond, ◌≡◌, List, length, get_or, leb, ltb}
use Rattle.geometry.specs.Line.{period, step_of}
use Rattle.geometry.specs.Drift.{Sound, drift, reach, first}
use Rattle.runs.specs.Block.{from_start, to_end, windowed, rightward, leftward, resulting}
use Rattle.runs.specs.declared.Grid.{Grid}

abbrev pub Page : Type 0
Page = ℕ → ℕ → ℕ

-- a line's two names
unfoldable pub start_row : Grid → ℕ → ℕ
start_row g R = R % period g.line

unfoldable pub line_name : Grid → ℕ → ℕ → ℕ
line_name g R x = g.width + drift g.line (step_of g.line R) - x

-- the first step at which the line z is at or past the page's left edge
unfoldable pub entry : Grid → ℕ → ℕ
entry g z = reach g.line (z - g.width) g.height

-- the first step at which it is past the last row, or past the right edge
unfoldable pub leave : Grid → ℕ → ℕ → ℕ
leave g u z = first (λ s. leb g.height (u + s * period g.line) || leb z (drift g.line s)) 0 g.height

-- how many pixels it has
unfoldable pub steps : Grid → ℕ → ℕ → ℕ
steps g u z = leave g u z - entry g z

-- row and column of a step
unfoldable pub row_at : Grid → ℕ → ℕ → ℕ
row_at g u s = u + s * period g.line

unfoldable pub column_at : Grid → ℕ → ℕ → ℕ
column_at g z s = g.width + drift g.line s - z

-- the values of a page along the line
unfoldable pub along : Grid → Page → ℕ → ℕ → ℕ → ℕ
along g f u z j = f (row_at g u (entry g z + j)) (column_at g z (entry g z + j))

-- a pixel's number on its line
unfoldable pub number : Grid → ℕ → ℕ → ℕ
number g R x = step_of g.line R - entry g (line_name g R x)

-- how many pixels its line has
unfoldable pub line_steps : Grid → ℕ → ℕ → ℕ
line_steps g R x = steps g (start_row g R) (line_name g R x)

-- the three pages of a pass, and what each pixel of them costs
unfoldable pub from_start_at : Grid → Page → Page
from_start_at g f R x = from_start g.low g.length (along g f (start_row g R) (line_name g R x)) (number g R x)

unfoldable pub to_end_at : Grid → Page → Page
to_end_at g f R x = to_end g.low g.length (line_steps g R x) (along g f (start_row g R) (line_name g R x)) (number g R x)

unfoldable pub windowed_at : Grid → Page → Page
windowed_at g f R x =
    windowed g.low (line_steps g R x) g.back g.on (along g f (start_row g R) (line_name g R x)) (number g R x)

unfoldable pub rightward_at : Grid → ℕ → ℕ → ℕ
rightward_at g R x = rightward g.length (number g R x)

unfoldable pub leftward_at : Grid → ℕ → ℕ → ℕ
leftward_at g R x = leftward g.length (line_steps g R x) (number g R x)

unfoldable pub resulting_at : Grid → ℕ → ℕ → ℕ
resulting_at g R x = resulting g.length (line_steps g R x) g.back g.on (number g R x)

-- the flat place of a line's step in a page, or the page's size where the step is off the page
unfoldable pub spot : Grid → ℕ → ℕ → ℕ → ℕ
spot g u z s = cond (leb (entry g z) s && ltb s (leave g u z)) (row_at g u s * g.width + column_at g z s) (g.height * g.width)

-- ---- what the sweeps ask of their callers

pub record Sized (g : Grid) : Type 0 where
  pub sound : Sound g.line
  pub wide : 1 ≤ g.width
  pub width_most : g.width ≤ 8192
  pub height_most : g.height ≤ 8192
  pub period_is : g.period ≡ period g.line
  pub period_most : g.period ≤ 255
  pub length_is : g.length ≡ suc (g.back + g.on)
  pub length_most : g.length ≤ 8192

-- the profile table and the entry table
pub record Tabled (g : Grid) (profile reaches : List ℕ) : Type 0 where
  pub profile_long : g.height ≤ length profile
  pub reaches_long : g.height ≤ length reaches
  pub profile_is : (t : ℕ) → t < g.height → get_or profile t 0 ≡ drift g.line t
  pub reaches_is : (v : ℕ) → v < g.height → get_or reaches v 0 ≡ reach g.line v g.height

-- a pixel at row R and column x, with the step t of its row
pub record Pixel (g : Grid) (profile reaches : List ℕ) (R t x : ℕ) : Type 0 where
  pub sized : Sized g
  pub tabled : Tabled g profile reaches
  pub row : R < g.height
  pub column : x < g.width
  pub step : t ≡ step_of g.line R
