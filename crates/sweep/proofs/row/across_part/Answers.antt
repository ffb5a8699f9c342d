-- `sweep::row::across_part` meets its contract: no column, or the plan. Assumes nothing.
use Prim.Native.Nat.{◌<◌}
use native.Mathlib.Omega.{arith}
use Rattle.sweep.proofs.Rowing.{part_none}
use Rattle.sweep.proofs.Places.{far_rows}
use Rattle.sweep.proofs.Resulting.{result_planned, across_made}
use Rattle.sweep.proofs.row.across_part.Goals as goal

pub returns-then-hi-lo : goal.returns-then-hi-lo
returns-then-hi-lo c = part_none (omega (arith, c.if-hi-lo.true))

pub result_plan-p-requires : goal.result_plan-p-requires
result_plan-p-requires c =
    let edge = c.requires.edge_at in
    let most = edge.1.most in
    let some = c.if-hi-lo.false in
    let by = edge.0.right c.args.lo (omega arith) (omega (arith, some)) in record {
      row = far_rows c.args.row.now.at.in_page _ _ edge.1 (omega (arith, some));
      back_le_step = (omega arith, omega (arith, some));
    }

pub walk-requires : goal.walk-requires
walk-requires c =
    let at = c.args.row.now.at.in_page in
    let edge = c.requires.edge_at in
    let some : c.args.lo < c.args.hi = omega (arith, c.if-hi-lo.false) in
    (result_planned at c.args.bytes.now _ _ edge.0 edge.1 some _ c.result_plan-p.ensures, c.requires.room)

pub returns : goal.returns
returns c =
    let at = c.args.row.now.at.in_page in
    let edge = c.requires.edge_at in
    let some : c.args.lo < c.args.hi = omega (arith, c.if-hi-lo.false) in
    across_made at _ _ _ edge.0 edge.1 some _ c.result_plan-p.ensures _ _ c.walk.ensures
