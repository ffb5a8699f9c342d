-- `sweep::rows::backward_band` meets its contract: the rows are copied, then those from row on are swept. Assumes
-- nothing.
use mathlib.Core.Path.{◌≡◌, refl}
use Prim.Native.Nat.{suc, ◌-◌, ◌≤◌}
use native.Mathlib.Omega.{arith}
use Rattle.sweep.specs.declared.Sweep.TheVariants.{Backward}
use Rattle.sweep.proofs.Paging.{raised_none, raised_as, up_more, band_raised, total_small}
use Rattle.sweep.proofs.Rowing.{part_few, row_as}
use Rattle.sweep.proofs.rows.backward_band.Goals as goal

pub loop-row-init : goal.loop-row-init
loop-row-init c = (c.requires.from_le_to.0, raised_none refl)

pub overflow_add-count : goal.overflow_add-count
overflow_add-count c =
    let tables = c.args.page.now.tables in
    let sized = tables.sized in
    let l = c.loop-row in
    let few : c.args.to - l.row ≤ 8192 = omega (arith, c.requires.from_le_to.1, sized.height_most) in
    let below = total_small Backward tables.grid l.row (c.args.to - l.row) sized.width_most few in
    let own = part_few (row_as c.row_of.ensures c.backward_row-count.ensures) in
    record { fits = omega (arith, l.invariant.1.counted, below, own, sized.width_most) }

pub loop-row-preserved : goal.loop-row-preserved
loop-row-preserved c =
    let l = c.loop-row in
    let e : l.row ≡ suc (l.row - 1) = omega arith in (
      omega arith,
      up_more (omega arith) (omega arith) c.requires.from_le_to.1
          (raised_as e refl l.invariant.1)
          (row_as c.row_of.ensures c.backward_row-count.ensures),
    )

pub returns : goal.returns
returns c =
    let l = c.loop-row in
    let e : l.row ≡ c.args.from = omega arith in
    let order = c.requires.from_le_to in
    band_raised c.args.page.now.tables.grid _ _ _ _ _ _ _ _ _ order.0 order.1 refl refl refl c.copy_run.ensures
    (raised_as e refl l.invariant.1)
