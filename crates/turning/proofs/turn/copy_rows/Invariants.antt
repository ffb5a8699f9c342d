-- `turning::turn::copy_rows` meets its contract. The invariant: the first r rows are copied, and nothing else is
-- changed. Assumes nothing.
use Rattle.turning.specs.Pieces.{copied_pixel}
use Rattle.turning.proofs.Pieces.{Rows}
use Rattle.turning.proofs.turn.copy_rows.Given as goal

abbrev pub invariant-loop-r : goal.invariant-loop-r
invariant-loop-r l = Rows l.q (copied_pixel l.from l.p l.falls) l.r l.initial.to l.to
