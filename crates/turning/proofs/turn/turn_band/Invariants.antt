-- `turning::turn::turn_band` meets its contract. The invariant: the band is right in its first 16 * i columns. Assumes
-- nothing.
use Rattle.std.proofs.Common.{◌+◌, ◌*◌}
use Rattle.turning.specs.Pieces.{Part, turned_pixel}
use Rattle.turning.proofs.turn.turn_band.Given as goal

abbrev pub invariant-loop-i : goal.invariant-loop-i
invariant-loop-i l = Part (turned_pixel l.from l.t) l.t l.a (l.a + 16 * l.n) 0 (16 * l.i) l.initial.to l.to
