-- Document 02, wish 2: "Flipping the page and its boxes (top to bottom for a shallow vector, left to right for a steep
-- one) and negating the minor component then flips the result." The line of the flipped page; a place m of a side W
-- goes to mirrored true W m (Drift).
-- Assumes nothing.
use Rattle.std.specs.Prelude.{cond, neg_ℤ}
use Rattle.vectors.specs.Vector.{steep}
use Rattle.geometry.specs.declared.Line.{Line}

-- "negating the minor component": the rows of a shallow vector, the columns of a steep one
unfoldable pub flipped : Line → Line
flipped l =
    record {
      periodic = l.periodic;
      dx = cond (steep l.dx l.dy) (neg_ℤ l.dx) l.dx;
      dy = cond (steep l.dx l.dy) l.dy (neg_ℤ l.dy);
      phase = l.phase;
    }
