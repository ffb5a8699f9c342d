-- `turning::turn::turn_rows` meets its contract. The invariant: the rows of the columns from a to just before i are
-- filled. Assumes nothing.
use Rattle.turning.specs.Pieces.{Part, turned_pixel}
use Rattle.turning.proofs.turn.turn_rows.Given as goal

abbrev pub invariant-loop-i : goal.invariant-loop-i
invariant-loop-i l = Part (turned_pixel l.from l.t) l.t l.a l.i l.b l.t.target.width l.initial.to l.to
