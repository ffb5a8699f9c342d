-- Document 01, 'Lines': "Each pixel lies on one line. Its in_page_lem pixels are consecutive steps; number them 0 to n-1."
-- The page is H places long on the major axis and W on the minor one.
-- Assumes nothing.
use Rattle.std.specs.Prelude.{ℕ, zero, suc, ◌+◌, ◌-◌, Bool, false, ◌&&◌, cond, ltb}
use Rattle.std.proofs.Math.Option.{Option, none, some}
use Rattle.geometry.specs.Line.{landing, step_of, major_at}
use Rattle.geometry.specs.declared.Line.{Line}

-- a place that is there, and below the side
unfoldable pub within : Option ℕ → ℕ → Bool
within none W = false
within (some m) W = ltb m W

-- whether step s of the line through (M, m) is in the page
unfoldable pub in_page : Line → ℕ → ℕ → ℕ → ℕ → ℕ → Bool
in_page l H W M m s = ltb (major_at l M s) H && within (landing l m (step_of l M) s) W

-- how many of the n numbers from k on pass a test
unfoldable pub count : (ℕ → Bool) → ℕ → ℕ → ℕ
count test k zero = 0
count test k (suc n) = cond (test k) 1 0 + count test (suc k) n

-- a pixel's number on its line: how many pixels of the line come before it
unfoldable pub behind : Line → ℕ → ℕ → ℕ → ℕ → ℕ
behind l H W M m = count (in_page l H W M m) 0 (step_of l M)

-- how many come after it: a step takes at least one place of the major axis, so step H is off the page
unfoldable pub ahead : Line → ℕ → ℕ → ℕ → ℕ → ℕ
ahead l H W M m = count (in_page l H W M m) (suc (step_of l M)) (H - suc (step_of l M))
