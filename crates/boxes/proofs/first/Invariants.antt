-- The loop's invariant is that the first box that answers is not before this one.
-- Assumes nothing.
use Rattle.std.proofs.Common.{◌≤◌}
use Rattle.std.specs.List.{position_or_len}
use Rattle.boxes.specs.Boxes.{answers}
use Rattle.boxes.proofs.first.Given as goal

abbrev pub invariant-loop-k : goal.invariant-loop-k
invariant-loop-k l = l.k ≤ position_or_len (answers l.q) l.boxes
