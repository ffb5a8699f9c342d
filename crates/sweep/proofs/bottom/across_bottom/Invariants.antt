-- `sweep::bottom::across_bottom` meets its contract: the columns from lo up to x are made. Assumes nothing.
use Prim.Native.Nat.{◌-◌, ◌≤◌}
use Rattle.sweep.specs.Sweeps.{PartDone}
use Rattle.sweep.specs.declared.Sweep.TheVariants.{Result}
use Rattle.sweep.proofs.bottom.across_bottom.Given as goal

abbrev pub invariant-loop-x : goal.invariant-loop-x
invariant-loop-x l =
    (l.x ≤ l.hi) × PartDone Result l.row.at.tables.grid l.row.at.row l.lo l.x l.initial.bytes l.bytes l.count

abbrev pub decreases-loop-x : goal.decreases-loop-x
decreases-loop-x l = l.hi - l.x
