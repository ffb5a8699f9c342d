-- `turning::turn::put_tile` meets its contract. The invariant: i rows of the tile are in their place, and start is
-- where the next row starts, if there is a next one. Assumes nothing.
use Rattle.std.proofs.Common.{◌≡◌, ◌+◌, ◌<◌}
use Rattle.geometry.specs.Drift.{mirrored}
use Rattle.placement.specs.Placement.{row_start}
use Rattle.turning.specs.Pieces.{PutRows}
use Rattle.turning.proofs.turn.put_tile.Given as goal

abbrev pub invariant-loop-i : goal.invariant-loop-i
invariant-loop-i l =
    let q = l.t.target in
    record {
      next : l.i < 16 → l.start ≡ row_start q (mirrored l.t.writeup q.height (l.a + l.i));
      put : PutRows l.i l.tile l.t l.a l.b l.initial.to l.to;
    }
