-- `number::last_step` meets its contract. The invariant: step s is below the limit.
-- Assumes nothing.
use Rattle.std.proofs.Common.{◌<◌, get_or}
use Rattle.geometry.proofs.number.last_step.Given as goal

abbrev pub invariant-loop-s : goal.invariant-loop-s
invariant-loop-s l = get_or l.profile l.s 0 < l.limit
