-- `sweep::bottom::early_bottom` meets its contract: no column, or the lines' last pixels. Assumes nothing.
use mathlib.Core.Path.{sym}
use mathlib.Core.Logic.{inl}
use Prim.Native.Nat.{◌+◌, ◌-◌, ◌≤◌, ◌<◌}
use native.Mathlib.Omega.{arith}
use Rattle.geometry.specs.Drift.{drift}
use Rattle.sweep.proofs.Rowing.{part_none}
use Rattle.sweep.proofs.Places.{row_end}
use Rattle.sweep.proofs.Resting.{copied_at, place_fits}
use Rattle.sweep.proofs.Bottoming.{bottom_row, bottom_rises, bottom_below, place_after, early_bottom_made}
use Rattle.sweep.proofs.bottom.early_bottom.Goals as goal

pub returns-then-lo-eq0 : goal.returns-then-lo-eq0
returns-then-lo-eq0 c = part_none (sym c.if-lo-eq0.true)

pub overflow_add-at : goal.overflow_add-at
overflow_add-at c =
    let at = c.args.at.now.in_page in
    record { fits = omega (arith, bottom_below at _ _ _ c.requires.at_bottom.0, at.sized.height_most) }

pub place_at-end-requires : goal.place_at-end-requires
place_at-end-requires c =
    let at = c.args.at.now.in_page in
    let low = c.requires.at_bottom.0 in record {
      row = bottom_row at _ _ _ low;
      to_bound = (
        omega (arith, bottom_below at _ _ _ low, at.sized.height_most),
        omega arith,
        omega (arith, bottom_rises at _ _ _ low),
      );
    }

pub copy_run-requires : goal.copy_run-requires
copy_run-requires c =
    let a = c.args in
    let at = a.at.now.in_page in
    let low = c.requires.at_bottom.0 in
    let near = c.requires.at_bottom.1.most in
    let some : 0 < a.lo = omega (arith, c.if-lo-eq0.false) in
    let g = a.at.now.tables.grid in
    let columns : a.lo ≤ g.width = omega (arith, near, low.most) in
    let on = a.at.now.step + a.b in
    let rises = bottom_rises at _ _ _ low in
    let reached : drift g.line a.at.now.step ≤ 0 + drift g.line on = omega (arith, rises) in
    let last = low.there (a.lo - 1) (omega arith) (omega (arith, near, some)) in
    let own = row_end at in
    let place = c.place_at-end.ensures in
    let fits = place_fits at on 0 a.lo some columns reached last in
    let after = place_after at _ _ _ low 0 in
    (omega (arith, c.requires.room, columns), omega (arith, c.requires.room), inl (omega (arith, after)))

pub returns : goal.returns
returns c =
    let low = c.requires.at_bottom in
    let copied = copied_at _ _ _ _ _ _ c.place_at-end.ensures c.copy_run.ensures in
    early_bottom_made c.args.at.now.in_page _ _ _ _ _ low.0 low.1 copied
