-- `sweep::row::early_part` meets its contract: no column, or the running extremes a window further. Assumes nothing.
use mathlib.Core.Path.{refl}
use mathlib.Core.Logic.{inl}
use native.Mathlib.Omega.{arith}
use Rattle.sweep.proofs.Rowing.{part_none}
use Rattle.sweep.proofs.Places.{row_end, far_rows, far_fits, far_on}
use Rattle.sweep.proofs.Resulting.{early_made}
use Rattle.sweep.proofs.row.early_part.Goals as goal

pub returns-then-hi-eq0 : goal.returns-then-hi-eq0
returns-then-hi-eq0 c = part_none (omega (arith, c.if-hi-eq0.true))

pub place_on-end-requires : goal.place_on-end-requires
place_on-end-requires c =
    let at = c.args.at.now.in_page in
    let rows = far_rows at _ _ c.requires.edge_at.1 (omega (arith, c.if-hi-eq0.false)) in
    (omega (arith, at.sized.length_is, at.sized.length_most), rows)

pub copy_run-requires : goal.copy_run-requires
copy_run-requires c =
    let at = c.args.at.now.in_page in
    let own = row_end at in
    let most = c.requires.edge_at.1.most in
    let fits = far_fits at _ _ c.requires.edge_at.1 (omega (arith, c.if-hi-eq0.false)) in
    let place = c.place_on-end.ensures in
    let few = c.min.ensures in
    let on = far_on at c.args.at.now.tables.grid.on in
    (omega (arith, c.requires.room), omega (arith, c.requires.room), inl (omega (arith, on)))

pub returns : goal.returns
returns c =
    let at = c.args.at.now.in_page in
    let edge = c.requires.edge_at in
    let place = c.place_on-end.ensures in
    early_made at _ _ _ edge.0 edge.1 _ _ _ _ refl place c.min.ensures c.copy_run.ensures
