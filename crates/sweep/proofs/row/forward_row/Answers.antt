-- `sweep::row::forward_row` meets its contract: lines that have only just entered, and the plan. Assumes nothing.
use Prim.Native.Nat.{◌<◌}
use native.Mathlib.Omega.{arith}
use Rattle.sweep.proofs.Places.{from_entry}
use Rattle.sweep.proofs.Forwarding.{entering, forward_planned, forward_swept}
use Rattle.sweep.proofs.row.forward_row.Goals as goal

pub returns-then-row-eq0 : goal.returns-then-row-eq0
returns-then-row-eq0 c =
    let at = c.args.row.now.at.in_page in
    entering at _ _ (omega arith) (λ y h. omega (arith, from_entry at y h))

pub walk-requires : goal.walk-requires
walk-requires c =
    let row = c.args.row.now.at in
    let later : 0 < row.step = omega (arith, c.if-row-eq0.false) in
    (forward_planned row.in_page c.args.bytes.now later _ c.forward_plan-p.ensures, c.requires)

pub returns : goal.returns
returns c =
    let row = c.args.row.now.at in
    let later : 0 < row.step = omega (arith, c.if-row-eq0.false) in
    forward_swept row.in_page _ later _ c.forward_plan-p.ensures _ _ c.walk.ensures
