-- `row::fill_row` meets its contract. The invariant: the values below i are right.
-- Assumes nothing.
use Rattle.std.proofs.Common.{◌≡◌, ℕ, ◌<◌, get_or}
use Rattle.finding.specs.Row.{absent}
use Rattle.nearby.proofs.Rows.{belongs}
use Rattle.nearby.proofs.row.fill_row.Given as goal

abbrev pub invariant-loop-i : goal.invariant-loop-i
invariant-loop-i l = (k : ℕ) → k < l.i → get_or l.row k absent ≡ belongs l.boxes l.s l.from l.source k
