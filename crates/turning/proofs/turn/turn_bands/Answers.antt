-- `turning::turn::turn_bands` meets its contract. Assumes nothing.
use Rattle.std.proofs.Common.{◌+◌, ◌*◌, le_refl, arith}
use Rattle.turning.specs.Pieces.{turned_pixel}
use Rattle.turning.proofs.Pieces.{join_down}
use Rattle.turning.proofs.turn.turn_bands.Goals as goal

pub loop-a-preserved : goal.loop-a-preserved
loop-a-preserved c =
    let l = c.loop-a in
    let a = c.args in
    let next = l.a + 16 * c.tiles_across-n.result in
    record {
      most = omega (arith, c.tiles_across-n.ensures.1, l.invariant.most);
      filled =
          join_down a.t (turned_pixel a.from.now a.t) a.to.now l.to _ 0 l.a next 0 a.t.target.width l.invariant.most
          (le_refl _) l.invariant.filled c.turn_band.ensures;
    }
