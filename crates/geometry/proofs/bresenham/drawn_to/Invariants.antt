-- `bresenham::drawn_to` meets its contract. The invariant is one equation: the pen is where it is at its column.
-- Assumes nothing.
use Rattle.std.proofs.Common.{◌≡◌}
use Rattle.geometry.specs.Bresenham.{pen_at}
use Rattle.geometry.proofs.bresenham.drawn_to.Given as goal

abbrev pub invariant-loop : goal.invariant-loop
invariant-loop l = l.pen ≡ pen_at l.major l.minor l.counter
