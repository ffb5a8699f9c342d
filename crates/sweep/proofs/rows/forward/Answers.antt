-- `sweep::rows::forward` meets its contract: above row the extremes are made, and the results some rows behind.
-- Assumes nothing.
use Prim.Native.Nat.{◌-◌, ◌≤◌, min}
use native.Mathlib.Omega.{arith}
use Rattle.sweep.proofs.Paging.{lowered_none, lowered_next, lowered_small, lag_most, if_few}
use Rattle.sweep.proofs.rows.forward.Goals as goal

pub overflow_add-row-end : goal.overflow_add-row-end
overflow_add-row-end c =
    let sized = c.args.page.now.tables.sized in
    record { fits = omega (arith, c.lag_of-behind.ensures, lag_most c.args.page.now.tables.grid, sized.height_most) }

pub loop-row-init : goal.loop-row-init
loop-row-init c = lowered_none _ _ _ _ (omega arith) (omega arith)

pub overflow_add-count : goal.overflow_add-count
overflow_add-count c =
    let first = if_few c.forward_next-first.ensures in
    let second = if_few c.result_behind-second.ensures in
    record { fits = omega (arith, first, second, c.args.page.now.tables.sized.width_most) }

pub overflow_add-count-in-loop-row : goal.overflow_add-count-in-loop-row
overflow_add-count-in-loop-row c =
    let sized = c.args.page.now.tables.sized in
    let l = c.loop-row in
    let high : min l.row c.args.page.now.tables.grid.height ≤ 8192 = omega (arith, sized.height_most) in
    let few : l.row - c.lag_of-behind.result ≤ 8192 = omega (arith, sized.height_most) in
    let done = lowered_small l.invariant sized.width_most high few in
    let first = if_few c.forward_next-first.ensures in
    let second = if_few c.result_behind-second.ensures in
    record { fits = omega (arith, done, first, second, sized.width_most) }

pub loop-row-preserved : goal.loop-row-preserved
loop-row-preserved c =
    let sized = c.args.page.now.tables.sized in
    let first = c.forward_next-first.ensures in
    let second = c.result_behind-second.ensures in
    let done = c.loop-row.invariant in
    lowered_next _ _ _ _ _ _ _ _ _ _ sized c.lag_of-behind.ensures (omega arith) done first second
