-- What the functions that look at pixels promise one another.
-- Assumes nothing.
use Rattle.std.specs.Prelude.{ℕ, max, List, [], ◌∷◌}

-- the greatest of some pixels, 0 of none
unfoldable pub greatest : List ℕ → ℕ
greatest [] = 0
greatest (b ∷ pixels) = max b (greatest pixels)
