-- The scratch: where its two pages stand, a part of it that is done, and sums over a part.
-- Assumes nothing.
use Rattle.std.specs.Prelude.{ℕ, zero, suc, ◌+◌, ◌*◌, ◌≤◌, ◌<◌, ◌≡◌, List, length, get_or}
use Rattle.runs.specs.declared.Grid.{Grid}

-- the size of a page; page A stands at 0 in the scratch, page B behind it
abbrev pub size : Grid → ℕ
size g = g.height * g.width

-- the sum of n numbers from the k-th on
unfoldable pub total : (ℕ → ℕ) → ℕ → ℕ → ℕ
total cost k zero = 0
total cost k (suc n) = cost k + total cost (suc k) n

-- a part of the scratch is done, from lo up to hi, and the rest is as it was
pub record Kept (lo hi : ℕ) (old new : List ℕ) : Type 0 where
  pub same_length : length new ≡ length old
  pub below : (k : ℕ) → k < lo → get_or new k 0 ≡ get_or old k 0
  pub above : (k : ℕ) → hi ≤ k → get_or new k 0 ≡ get_or old k 0
