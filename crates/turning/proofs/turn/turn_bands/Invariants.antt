-- `turning::turn::turn_bands` meets its contract. The invariant: the first a rows are filled. Assumes nothing.
use Rattle.std.proofs.Common.{◌-◌, ◌≤◌}
use Rattle.turning.specs.Pieces.{Part, turned_pixel}
use Rattle.turning.proofs.turn.turn_bands.Given as goal

abbrev pub invariant-loop-a : goal.invariant-loop-a
invariant-loop-a l =
    record {
      most : l.a ≤ l.t.target.height;
      filled : Part (turned_pixel l.from l.t) l.t 0 l.a 0 l.t.target.width l.initial.to l.to;
    }

abbrev pub decreases-loop-a : goal.decreases-loop-a
decreases-loop-a l = l.t.target.height - l.a
