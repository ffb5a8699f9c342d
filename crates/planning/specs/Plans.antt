-- The plans by which a row of each sweep is made. Assumes nothing.
use Rattle.std.specs.Prelude.{ℕ, suc, ◌+◌, ◌-◌, ◌*◌, ◌≡◌}
use Rattle.runs.specs.Scratch.{size}
use Rattle.runs.specs.Runs.{EdgeAt, place_on}
use Rattle.runs.specs.declared.Grid.{Grid}
use Rattle.runs.specs.declared.Plan.{Plan}

-- ---- the plans of the three sweeps: what is written, what is read, and from which step blocks are counted

-- from the pixel before, unless this one begins a block; columns left of lo have none before them
pub record ForwardPlan (g : Grid) (R t : ℕ) (p : Plan) : Type 0 where
  pub lo_is : EdgeAt g R t t 1 g.width p.lo
  pub hi_is : p.hi ≡ g.width
  pub to_is : p.to ≡ R * g.width + p.lo
  pub first_is : p.first ≡ R * g.width + p.lo
  pub second_is : p.second ≡ (R - g.period) * g.width
  pub top_is : p.top ≡ t

-- from the next pixel, unless it begins a block; columns from hi on have none after them
pub record BackwardPlan (g : Grid) (R t hi : ℕ) (p : Plan) : Type 0 where
  pub lo_is : p.lo ≡ 0
  pub hi_is : p.hi ≡ hi
  pub to_is : p.to ≡ size g + R * g.width
  pub first_is : p.first ≡ size g + R * g.width
  pub second_is : p.second ≡ size g + place_on g R t 1
  pub top_is : p.top ≡ suc t

-- the windows that begin and end in their line: from the block's start of the window's last pixel, and from its
-- first pixel to its block's end; a window that is a block has either alone
pub record ResultPlan (g : Grid) (R t lo hi : ℕ) (p : Plan) : Type 0 where
  pub lo_is : p.lo ≡ lo
  pub hi_is : p.hi ≡ hi
  pub to_is : p.to ≡ R * g.width + lo
  pub first_is : p.first ≡ place_on g R t g.on + lo
  pub second_is : p.second ≡ size g + (R - g.back * g.period) * g.width
  pub top_is : p.top ≡ t - g.back
