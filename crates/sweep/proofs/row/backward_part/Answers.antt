-- `sweep::row::backward_part` meets its contract: no column, or the plan. Assumes nothing.
use mathlib.Core.Path.{sym}
use Prim.Native.Nat.{◌<◌}
use native.Mathlib.Omega.{arith}
use Rattle.sweep.proofs.Rowing.{part_none}
use Rattle.sweep.proofs.Places.{far_rows}
use Rattle.sweep.proofs.Backwarding.{backward_planned, backward_made}
use Rattle.sweep.proofs.row.backward_part.Goals as goal

pub returns-then-hi-eq0 : goal.returns-then-hi-eq0
returns-then-hi-eq0 c = part_none (sym c.if-hi-eq0.true)

pub backward_plan-p-requires : goal.backward_plan-p-requires
backward_plan-p-requires c =
    far_rows c.args.row.now.at.in_page _ _ c.requires.far_edge (omega (arith, c.if-hi-eq0.false))

pub walk-requires : goal.walk-requires
walk-requires c =
    let at = c.args.row.now.at.in_page in
    let some : 0 < c.args.hi = omega (arith, c.if-hi-eq0.false) in
    let plan = c.backward_plan-p.ensures in
    (backward_planned at c.args.bytes.now _ c.requires.far_edge some _ plan, c.requires.room)

pub returns : goal.returns
returns c =
    let at = c.args.row.now.at.in_page in
    let some : 0 < c.args.hi = omega (arith, c.if-hi-eq0.false) in
    backward_made at _ _ c.requires.far_edge some _ c.backward_plan-p.ensures _ _ c.walk.ensures
