-- `runs::walk::side_part` meets its contract: the plan is carried out up to column x, by the marks. Assumes nothing.
use Prim.Native.Nat.{◌-◌, ◌≤◌}
use Rattle.runs.specs.Runs.{Walked}
use Rattle.runs.proofs.walk.side_part.Given as goal

abbrev pub invariant-loop-x : goal.invariant-loop-x
invariant-loop-x l = (l.p.lo ≤ l.x) × (l.x ≤ l.mid) × Walked l.row.at.tables.grid l.row.at.row l.p l.x l.initial.bytes l.bytes l.count

abbrev pub decreases-loop-x : goal.decreases-loop-x
decreases-loop-x l = l.mid - l.x
