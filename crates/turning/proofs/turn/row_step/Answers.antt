-- `turning::turn::row_step` meets its contract. Assumes nothing.
use Rattle.std.proofs.Common.{arith}
use Rattle.turning.specs.Pieces.{row_step_of}
use Rattle.turning.proofs.turn.row_step.Goals as goal

pub returns-then-up : goal.returns-then-up
unfolding row_step_of
returns-then-up c = rw c.if-up.true (omega arith)

pub returns-else-up : goal.returns-else-up
unfolding row_step_of
returns-else-up c = rw c.if-up.false
