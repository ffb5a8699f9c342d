-- `turning::turn::turn_tiles` meets its contract. Assumes nothing.
use Rattle.std.proofs.Common.{◌≡◌, ◌+◌, ◌*◌, ◌≤◌, arith}
use Rattle.turning.specs.Pieces.{turned_pixel}
use Rattle.turning.proofs.Pieces.{part_end, join_down}
use Rattle.turning.proofs.turn.turn_tiles.Goals as goal

pub loop-i-preserved : goal.loop-i-preserved
loop-i-preserved c =
    let l = c.loop-i in
    let a = c.args in
    let page = turned_pixel a.from.now a.t in
    let end = a.a + 16 * l.i in
    let end_in : end ≤ a.t.target.height = omega (arith, c.requires.n_bound.0, c.loop-i-test.true) in
    part_end a.t page a.a (end + 16) (a.a + 16 * (l.i + 1)) a.b (a.b + 16) _ _ (omega arith)
    (join_down a.t page a.to.now l.to _ a.a end (end + 16) a.b (a.b + 16) end_in c.requires.n_bound.1 l.invariant
    c.turn_tile.ensures)

pub returns : goal.returns
returns c =
    let l = c.loop-i in
    let a = c.args in
    let done : l.i ≡ a.n = omega (arith, c.loop-i-test.false, l.auto.i-end) in
    part_end a.t (turned_pixel a.from.now a.t) a.a (a.a + 16 * l.i) (a.a + 16 * a.n) a.b (a.b + 16) _ _ (omega arith)
    l.invariant
