-- `turning::turn::gather` meets its contract. The invariant: the columns from b to just before k are gathered. Assumes
-- nothing.
use Rattle.turning.specs.Pieces.{Stored, source_pixel}
use Rattle.turning.proofs.turn.gather.Given as goal

abbrev pub invariant-loop-k : goal.invariant-loop-k
invariant-loop-k l = Stored (source_pixel l.from l.t l.a) l.b l.k l.initial.part l.part
