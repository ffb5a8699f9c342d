-- `turning::turn::put_tile` meets its contract. Assumes nothing.
use Rattle.std.proofs.Common.{◌≡◌, ℕ, ◌+◌, ◌<◌, ap, subst, arith}
use Rattle.placement.specs.Placement.{row_start}
use Rattle.turning.specs.Pieces.{PutRows}
use Rattle.turning.proofs.Lines.{mirrored_room, stepped, put_more}
use Rattle.turning.proofs.turn.put_tile.Goals as goal

pub row_start-start-requires : goal.row_start-start-requires
row_start-start-requires c =
    let t = c.args.t in
    let a-in : c.args.a < t.target.height = omega (arith, c.requires.tile_len.1) in
    let starts = ap (row_start t.target) c.mirrored.ensures in
    omega (arith, mirrored_room t.writeup t.target _ c.args.a _ c.requires.placed a-in starts, c.well_formed.1.1.0.0)

pub returns : goal.returns
returns c =
    let a = c.args in
    let l = c.loop-i in
    let done : l.i ≡ 16 = omega (arith, c.loop-i-test.false, l.auto.i-end) in
    subst (λ (n : ℕ). PutRows n a.tile.now a.t a.a a.b a.to.now l.to) done l.invariant.put

pub put_row-requires : goal.put_row-requires
put_row-requires c =
    let t = c.args.t in
    let l = c.loop-i in
    let row_in : c.args.a + l.i < t.target.height = omega (arith, c.requires.tile_len.1, c.loop-i-test.true) in
    let starts = l.invariant.next c.loop-i-test.true in
    let room = mirrored_room t.writeup t.target _ _ _ c.requires.placed row_in starts in (
      omega (arith, c.requires.tile_len.0, c.loop-i-test.true),
      omega (arith, room, l.auto.to),
      c.requires.tile_len.2,
    )

pub loop-i-preserved : goal.loop-i-preserved
loop-i-preserved c =
    let l = c.loop-i in
    let a = c.args in
    let starts = l.invariant.next c.loop-i-test.true in
    let row_in : a.a + l.i < a.t.target.height = omega (arith, c.requires.tile_len.1, c.loop-i-test.true) in
    record {
      next = λ more.
          stepped a.t.writeup a.t.target _ (a.a + l.i) (a.a + (l.i + 1)) _ _ c.requires.placed
          (omega (arith, c.well_formed.1.1.0.0)) (omega arith) (omega (arith, c.requires.tile_len.1)) starts
          c.row_step-start.ensures;
      put =
          put_more a.tile.now a.t a.a a.b l.i l.start a.to.now l.to _ c.requires.placed row_in c.requires.tile_len.2
          starts c.put_row.ensures l.invariant.put;
    }
