-- Van Herk's scheme along one line of n steps, cut into blocks of L: document 01, 'Work', and document 000, section 3.
-- f is the value at a step, j a step, a and b how far its window reaches back and on, L = a + 1 + b.
-- Assumes nothing.
use Rattle.std.specs.Prelude.{ℕ, suc, ◌+◌, ◌-◌, ◌/◌, ◌%◌, min, Bool, ◌||◌, cond, eqb}
use Rattle.runs.specs.Span.{span}

-- "Per line and pass, the line is cut into blocks of L steps from step 0; the last may be short."
unfoldable pub block_start : ℕ → ℕ → ℕ
block_start L j = j - j % L

unfoldable pub block_end : ℕ → ℕ → ℕ → ℕ
block_end L n j = min (block_start L j + (L - 1)) (n - 1)

-- the rightward running extreme, from the block's first step
unfoldable pub from_start : Bool → ℕ → (ℕ → ℕ) → ℕ → ℕ
from_start low L f j = span low f (block_start L j) j

-- the leftward one, to the block's last step
unfoldable pub to_end : Bool → ℕ → ℕ → (ℕ → ℕ) → ℕ → ℕ
to_end low L n f j = span low f j (block_end L n j)

-- the result: the window, clipped to 0 to n-1
unfoldable pub windowed : Bool → ℕ → ℕ → ℕ → (ℕ → ℕ) → ℕ → ℕ
windowed low n a b f j = span low f (j - a) (min (j + b) (n - 1))

-- "A rightward running extreme costs one comparison at each step but the first of its block"
unfoldable pub rightward : ℕ → ℕ → ℕ
rightward L j = cond (eqb (j % L) 0) 0 1

-- "a leftward one at each step but the last of its block"
unfoldable pub leftward : ℕ → ℕ → ℕ → ℕ
leftward L n j = cond (eqb (suc j % L) 0 || eqb (suc j) n) 0 1

-- "A result costs one more if its window, clipped to 0 to n-1, begins and ends in different blocks, else none."
unfoldable pub resulting : ℕ → ℕ → ℕ → ℕ → ℕ → ℕ
resulting L n a b j = cond (eqb ((j - a) / L) (min (j + b) (n - 1) / L)) 0 1
