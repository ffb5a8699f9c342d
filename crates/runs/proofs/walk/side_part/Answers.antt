-- `runs::walk::side_part` meets its contract: the plan is carried out up to column x, by the marks. Assumes nothing.
use mathlib.Core.Path.{refl, ◌∙◌}
use native.Mathlib.Omega.{arith}
use Rattle.runs.proofs.Planning.{here}
use Rattle.runs.proofs.Running.{counted_few}
use Rattle.runs.proofs.Walking.{step_below, walked_none, walked_few, walked_marks}
use Rattle.runs.proofs.walk.side_part.Goals as goal

pub entry_of-drift-requires : goal.entry_of-drift-requires
entry_of-drift-requires c =
    let at = c.args.row.now.at.in_page in
    omega (arith, step_below _ _ _ _ _ at, at.tabled.profile_long)

pub loop-x-init : goal.loop-x-init
loop-x-init c = (omega arith, c.requires.near.0, walked_none _ _ _ _)

pub overflow_sub-place : goal.overflow_sub-place
overflow_sub-place c =
    let a = c.args in
    let at = c.args.row.now.at.in_page in
    let planned = c.requires.planned.0 in
    let l = c.loop-x in
    let below = c.loop-x-test.true in
    let drifted = c.entry_of-drift.ensures ∙ (here _ _ _ _ _ at).drift_read in
    omega (arith, drifted, (here _ _ _ _ _ at).drift_below)

pub mark_part-count-requires-clause-lo_le_from : goal.mark_part-count-requires-clause-lo_le_from
mark_part-count-requires-clause-lo_le_from c =
    let a = c.args in
    let at = a.row.now.at.in_page in
    let l = c.loop-x in
    let below = c.loop-x-test.true in
    let drifted = c.entry_of-drift.ensures ∙ (here _ _ _ _ _ at).drift_read in
    let end = c.min-end.ensures in
    let side = c.requires.near.2 (omega (arith, l.invariant.0, below)) in
    (l.invariant.0, omega (arith, end, below), omega (arith, end, c.requires.near.1), omega (arith, end), omega (arith, end, below, side, drifted, (here _ _ _ _ _ at).drift_below, l.invariant.0, a.row.now.marked.long))

pub overflow_add-count : goal.overflow_add-count
overflow_add-count c =
    let a = c.args in
    let at = c.args.row.now.at.in_page in
    let planned = c.requires.planned.0 in
    let l = c.loop-x in
    let below = c.loop-x-test.true in
    let drifted = c.entry_of-drift.ensures ∙ (here _ _ _ _ _ at).drift_read in
    record { fits = omega (arith, counted_few _ _ _ c.mark_part-count.ensures.1, c.min-end.ensures, walked_few _ _ _ _ _ _ _ l.invariant.2, below, c.requires.near.1, planned.columns, at.sized.width_most) }

pub loop-x-preserved : goal.loop-x-preserved
loop-x-preserved c =
    let a = c.args in
    let at = a.row.now.at.in_page in
    let l = c.loop-x in
    let made = c.mark_part-count.ensures in
    let end = c.min-end.ensures in
    let below = c.loop-x-test.true in
    let side = c.requires.near.2 (omega (arith, l.invariant.0, below)) in
    let drifted = c.entry_of-drift.ensures ∙ (here _ _ _ _ _ at).drift_read in
    (omega (arith, l.invariant.0, end, below), omega (arith, end), walked_marks _ _ _ _ _ at a.p c.requires.planned.0 _ a.row.now.marked _ _ _ l.x c.min-end.result _ _ _ _ refl l.invariant.0 (omega (arith, end, below)) (omega (arith, end, c.requires.near.1)) (omega (arith, end, side)) (omega (arith, drifted)) l.invariant.2 made.0 made.1)

pub loop-x-smaller : goal.loop-x-smaller
loop-x-smaller c = omega (arith, c.min-end.ensures, c.loop-x-test.true)
