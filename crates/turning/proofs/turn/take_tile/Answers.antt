-- `turning::turn::take_tile` meets its contract. Assumes nothing.
use Rattle.std.proofs.Common.{◌≡◌, ℕ, ◌+◌, ◌<◌, length, ap, subst, arith}
use Rattle.placement.specs.Placement.{row_start}
use Rattle.turning.specs.Pieces.{Taken}
use Rattle.tray.proofs.Lent.{part_length}
use Rattle.turning.proofs.Copies.{copied_from}
use Rattle.turning.proofs.Lines.{mirrored_room, stepped, taken_more}
use Rattle.turning.proofs.turn.take_tile.Goals as goal

pub row_start-start-requires : goal.row_start-start-requires
row_start-start-requires c =
    let t = c.args.t in
    let b-in : c.args.b < t.source.height = omega (arith, c.requires.a_bound.1) in
    let starts = ap (row_start t.source) c.mirrored.ensures in
    omega (arith, mirrored_room t.readup t.source _ c.args.b _ c.requires.placed b-in starts, c.well_formed.0.0)

pub returns : goal.returns
returns c =
    let a = c.args in
    let l = c.loop-k in
    let done : l.k ≡ 16 = omega (arith, c.loop-k-test.false, l.auto.k-end) in
    subst (λ (n : ℕ). Taken n a.from.now a.t a.a a.b l.tile) done l.invariant.taken

pub row_from-line-requires : goal.row_from-line-requires
row_from-line-requires c =
    let t = c.args.t in
    let l = c.loop-k in
    let row_in : c.args.b + l.k < t.source.height = omega (arith, c.requires.a_bound.1, c.loop-k-test.true) in
    mirrored_room t.readup t.source _ _ _ c.requires.placed row_in (l.invariant.next c.loop-k-test.true)

pub copy_side-requires : goal.copy_side-requires
copy_side-requires c =
    let t = c.args.t in
    let l = c.loop-k in
    let row_in : c.args.b + l.k < t.source.height = omega (arith, c.requires.a_bound.1, c.loop-k-test.true) in
    let room = mirrored_room t.readup t.source _ _ _ c.requires.placed row_in (l.invariant.next c.loop-k-test.true) in
    let wide = part_length l.start t.source.width c.args.from.now room in (
      omega (arith, ap length c.row_from-line.ensures, wide, c.requires.a_bound.0),
      omega (arith, l.invariant.taken.size, c.loop-k-test.true),
    )

pub loop-k-preserved : goal.loop-k-preserved
loop-k-preserved c =
    let l = c.loop-k in
    let a = c.args in
    let starts = l.invariant.next c.loop-k-test.true in
    let line = c.row_from-line.ensures in
    record {
      next = λ more.
          stepped a.t.readup a.t.source _ (a.b + l.k) (a.b + (l.k + 1)) _ _ c.requires.placed
          (omega (arith, c.well_formed.0.0)) (omega arith) (omega (arith, c.requires.a_bound.1)) starts
          c.row_step-start.ensures;
      taken =
          taken_more a.from.now a.t l.k a.a a.b l.start l.tile _ starts
          (copied_from _ _ _ _ _ _ _ _ _ line c.requires.a_bound.0 c.copy_side.ensures)
          l.invariant.taken;
    }
