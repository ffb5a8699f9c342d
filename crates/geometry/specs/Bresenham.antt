-- Document 02, wish 5: "Compute the shifts of a line by the running error term, adding and comparing only." What the
-- pen of Bresenham's plotter has come to at each column; the published algorithm stands beside ours in src/bresenham.rt.
-- Assumes nothing.
use Rattle.std.specs.Prelude.{◌≡◌, List, ℕ, ◌+◌, ◌*◌, ◌-◌, ◌%◌, ◌≤◌, ◌<◌, length, get_or}
use Rattle.geometry.specs.Line.{nearest}
use Rattle.geometry.specs.declared.bresenham.Pen.{Pen}

-- the running error term at column c: the remainder of the rounded quotient whose whole part is D's size, `nearest`
unfoldable pub error : ℕ → ℕ → ℕ → ℕ
error a b c = (2 * c * b + a) % (2 * a)

-- the pen at column c, on the row nearest to the true line of a major component a and a minor one of size b
unfoldable pub pen_at : ℕ → ℕ → ℕ → Pen
pen_at a b c = record { column = c; row = nearest a b c; error = error a b c }

-- what the plotter draws: a line in normal form, its components of a size as a ticket has them
pub record Drawable (major minor : ℕ) : Type 0 where
  pub forward : 1 ≤ major
  pub near : major ≤ 255
  pub slope : minor ≤ major

-- a table whose entry c is the size of the shift at column c: "With phase i the shift is D(c+i) - D(i)."
pub record Shifts (major minor i : ℕ) (table : List ℕ) : Type 0 where
  pub entry : (c : ℕ) → c < length table → get_or table c 0 ≡ nearest major minor (c + i) - nearest major minor i
