-- `turning::turn::turn_tiles` meets its contract. The invariant: i tiles are in their place. Assumes nothing.
use Rattle.std.proofs.Common.{◌+◌, ◌*◌}
use Rattle.turning.specs.Pieces.{Part, turned_pixel}
use Rattle.turning.proofs.turn.turn_tiles.Given as goal

abbrev pub invariant-loop-i : goal.invariant-loop-i
invariant-loop-i l = Part (turned_pixel l.from l.t) l.t l.a (l.a + 16 * l.i) l.b (l.b + 16) l.initial.to l.to
