-- `sweep::rest::each_part` meets its contract: the columns from lo up to x are made. Assumes nothing.
use Rattle.sweep.specs.Sweeps.{PartDone}
use Rattle.sweep.specs.declared.Sweep.TheVariants.{Result}
use Rattle.sweep.proofs.rest.each_part.Given as goal

abbrev pub invariant-loop-x : goal.invariant-loop-x
invariant-loop-x l = PartDone Result l.at.tables.grid l.at.row l.lo l.x l.initial.bytes l.bytes l.count
