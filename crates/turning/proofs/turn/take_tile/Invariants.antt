-- `turning::turn::take_tile` meets its contract. The invariant: k rows of the tile are taken, and start is where the
-- next one starts, if there is a next one. Assumes nothing.
use Rattle.std.proofs.Common.{◌≡◌, ◌+◌, ◌<◌}
use Rattle.geometry.specs.Drift.{mirrored}
use Rattle.placement.specs.Placement.{row_start}
use Rattle.turning.specs.Pieces.{Taken}
use Rattle.turning.proofs.turn.take_tile.Given as goal

abbrev pub invariant-loop-k : goal.invariant-loop-k
invariant-loop-k l =
    let p = l.t.source in
    record {
      next : l.k < 16 → l.start ≡ row_start p (mirrored l.t.readup p.height (l.b + l.k));
      taken : Taken l.k l.from l.t l.a l.b l.tile;
    }
