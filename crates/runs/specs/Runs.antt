-- Runs of neighbouring pixels of one row, and a plan by which a row is made of them. Lines that entered the page in
-- its first row are all as far into their blocks; those that entered from the side are each where their mark says.
-- Assumes nothing.
use Rattle.std.specs.Prelude.{ℕ, ◌+◌, ◌-◌, ◌*◌, ◌%◌, ◌≤◌, ◌<◌, Bool, cond, ◌⊎◌, ◌≡◌, List, length, get_or, eqb, leb, ltb}
use Rattle.runs.specs.Span.{chosen}
use Rattle.runs.specs.Grid.{start_row, line_name, entry, Sized, Tabled}
use Rattle.runs.specs.GridLaws.{StepOnPage}
use Rattle.runs.specs.Scratch.{Kept, size, total}
use Rattle.geometry.specs.Drift.{drift, reach}
use Rattle.geometry.specs.Line.{step_of}
use Rattle.runs.specs.declared.Grid.{Grid}
use Rattle.runs.specs.declared.Plan.{Plan}

-- n bytes read from one place while n are written to another, from the first to the last: none is read that was written
abbrev pub Apart : ℕ → ℕ → ℕ → Type 0
Apart to from n = (to ≤ from) ⊎ (from + n ≤ to)

-- a run of n bytes holds given values, and everything else is as it was
pub record Filled (to n : ℕ) (value : ℕ → ℕ) (old new : List ℕ) : Type 0 where
  pub kept : Kept to (to + n) old new
  pub made : (k : ℕ) → k < n → get_or new (to + k) 0 ≡ value k

-- a copy of another run; the lower, or higher, of two others
abbrev pub Copied : ℕ → ℕ → ℕ → List ℕ → List ℕ → Type 0
Copied to from n old new = Filled to n (λ k. get_or old (from + k) 0) old new

abbrev pub Chosen : Bool → ℕ → ℕ → ℕ → ℕ → List ℕ → List ℕ → Type 0
Chosen low to first second n old new = Filled to n (λ k. chosen low (get_or old (first + k) 0) (get_or old (second + k) 0)) old new

-- a run whose bytes are kept as the first run has them where their marks say so, else chosen of the two; and how
-- many were compared
unfoldable pub kept_or : Bool → Bool → ℕ → ℕ → ℕ
kept_or low keeps a b = cond keeps a (chosen low a b)

abbrev pub ChosenUnless : Bool → (ℕ → Bool) → ℕ → ℕ → ℕ → ℕ → List ℕ → List ℕ → Type 0
ChosenUnless low keeps to first second n old new = Filled to n (λ k. kept_or low (keeps k) (get_or old (first + k) 0) (get_or old (second + k) 0)) old new

abbrev pub compared_of : (ℕ → Bool) → ℕ → ℕ
compared_of keeps k = cond (keeps k) 0 1

-- the step at which the line through (R, x) enters the page
unfoldable pub entry_at : Grid → ℕ → ℕ → ℕ
entry_at g R x = entry g (line_name g R x)

-- a row, with its step
pub record Row (g : Grid) (profile reaches : List ℕ) (R t : ℕ) : Type 0 where
  pub sized : Sized g
  pub tabled : Tabled g profile reaches
  pub row : R < g.height
  pub step : t ≡ step_of g.line R

-- of the columns below hi, the first whose line entered less steps before step e or earlier
pub record EdgeAt (g : Grid) (R t e less hi x : ℕ) : Type 0 where
  pub most : x ≤ hi
  pub left : (y : ℕ) → y < x → e < entry_at g R y + less
  pub right : (y : ℕ) → x ≤ y → y < hi → entry_at g R y + less ≤ e
  pub exact : x < hi → x + drift g.line (e - less) ≡ drift g.line t

-- the first column whose line leaves the page within b steps
pub record FarEdge (g : Grid) (R t b x : ℕ) : Type 0 where
  pub most : x ≤ g.width
  pub left : (y : ℕ) → y < x → StepOnPage g (start_row g R) (line_name g R y) (t + b)
  pub right : (y : ℕ) → x ≤ y → y < g.width → StepOnPage g (start_row g R) (line_name g R y) (t + b) → ⊥

-- the place in a page of the pixel b steps on from column 0
unfoldable pub place_on : Grid → ℕ → ℕ → ℕ → ℕ
place_on g R t b = (R + b * g.period) * g.width + (drift g.line (t + b) - drift g.line t)

-- the place in a page of a step of the line of column x
unfoldable pub place_at : Grid → ℕ → ℕ → ℕ → ℕ → ℕ
place_at g R t s x = (R - t * g.period + s * g.period) * g.width + (x + drift g.line s - drift g.line t)

-- of the columns from lo on, the first whose line has left the page by a step
pub record StepEdge (g : Grid) (R t lo s x : ℕ) : Type 0 where
  pub least : lo ≤ x
  pub most : x ≤ g.width
  pub left : (y : ℕ) → lo ≤ y → y < x → StepOnPage g (start_row g R) (line_name g R y) s
  pub right : (y : ℕ) → x ≤ y → y < g.width → StepOnPage g (start_row g R) (line_name g R y) s → ⊥

-- columns from mid on whose lines entered in the first row, and whose windows end past the line
pub record PastLine (g : Grid) (R t mid : ℕ) : Type 0 where
  pub most : mid ≤ g.width
  pub entered : mid < g.width → drift g.line t ≤ mid
  pub past : (y : ℕ) → mid ≤ y → y < g.width → StepOnPage g (start_row g R) (line_name g R y) (t + g.on) → ⊥

-- the marks: for lines that have drifted v places when they enter, their entry's place in a block, the last v
-- first; and behind them some of the lines that enter in the first row, whose entry's place is 0
pub record Marked (g : Grid) (marks : List ℕ) : Type 0 where
  pub long : g.height + 32 ≤ length marks
  pub zero_is : (j : ℕ) → j < 32 → get_or marks (g.height + j) 0 ≡ 0
  pub mark_is : (v : ℕ) → 1 ≤ v → v < g.height → get_or marks (g.height - v) 0 ≡ reach g.line v g.height % g.length

-- whether a window that is cut at its line's last step lies in that step's block, by the line's mark; `last` is the
-- step's place in a block of the page, and the line's own block begins nearer to it or further up as its mark is up
-- to `last` or past it
unfoldable pub in_one_block : ℕ → ℕ → ℕ → ℕ → Bool
in_one_block last near far mark = ltb mark (cond (leb mark last) near far)

-- how far the line of a pixel is from its block's first step, for lines cut from step `top` downwards
unfoldable pub in_block : Grid → ℕ → Plan → ℕ → ℕ
in_block g R p x = (p.top - entry_at g R x) % g.length

-- the plan's columns are in the row, its places in the two pages, and nothing is read that was written
pub record Planned (g : Grid) (R : ℕ) (p : Plan) : Type 0 where
  pub ordered : p.lo ≤ p.hi
  pub columns : p.hi ≤ g.width
  pub to_fits : p.to + (p.hi - p.lo) ≤ size g + size g
  pub first_fits : p.first + (p.hi - p.lo) ≤ size g + size g
  pub second_fits : p.second + (p.hi - p.lo) ≤ size g + size g
  pub first_apart : Apart p.to p.first (p.hi - p.lo)
  pub second_apart : Apart p.to p.second (p.hi - p.lo)
  pub entered : (x : ℕ) → p.lo ≤ x → x < p.hi → entry_at g R x ≤ p.top

-- a plan carried out from its first column up to column x: at a block's first step copies, else the choice of two,
-- which is counted
pub record Walked (g : Grid) (R : ℕ) (p : Plan) (x : ℕ) (old new : List ℕ) (count : ℕ) : Type 0 where
  pub kept : Kept p.to (p.to + (x - p.lo)) old new
  pub begins : (y : ℕ) → p.lo ≤ y → y < x → in_block g R p y ≡ 0 → get_or new (p.to + (y - p.lo)) 0 ≡ get_or old (p.first + (y - p.lo)) 0
  pub goes_on : (y : ℕ) → p.lo ≤ y → y < x → 0 < in_block g R p y
      → get_or new (p.to + (y - p.lo)) 0 ≡ chosen g.low (get_or old (p.first + (y - p.lo)) 0) (get_or old (p.second + (y - p.lo)) 0)
  pub counted : count ≡ total (λ y. cond (eqb (in_block g R p y) 0) 0 1) p.lo (x - p.lo)

-- the columns from mid on made, all lines being at step `top` of blocks that are cut from the page's first row
pub record TopMade (g : Grid) (p : Plan) (mid : ℕ) (old new : List ℕ) (count : ℕ) : Type 0 where
  pub made : Filled (p.to + (mid - p.lo)) (p.hi - mid) (λ k. kept_or g.low (eqb (p.top % g.length) 0) (get_or old (p.first + (mid - p.lo) + k) 0) (get_or old (p.second + (mid - p.lo) + k) 0)) old new
  pub counted : count ≡ (p.hi - mid) * cond (eqb (p.top % g.length) 0) 0 1
