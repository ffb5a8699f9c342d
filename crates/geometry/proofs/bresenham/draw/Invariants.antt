-- `bresenham::draw` meets its contract. The invariant: the pen is where it is at the column of the next entry, and the
-- entries so far are right.
-- Assumes nothing.
use Rattle.std.proofs.Common.{◌≡◌, ℕ, ◌+◌, ◌-◌, ◌<◌, get_or}
use Rattle.geometry.specs.Line.{nearest}
use Rattle.geometry.specs.Bresenham.{pen_at}
use Rattle.geometry.proofs.bresenham.draw.Given as goal

abbrev pub shift_at : ℕ → ℕ → ℕ → ℕ → ℕ
shift_at major minor phase c = nearest major minor (c + phase) - nearest major minor phase

abbrev pub invariant-loop-place : goal.invariant-loop-place
invariant-loop-place l = record {
  pen : l.pen ≡ pen_at l.major l.minor (l.place-index + l.phase);
  entries : (k : ℕ) → k < l.place-index → get_or l.table k 0 ≡ shift_at l.major l.minor l.phase k;
}
