-- `place::major_in` meets its contract.
-- Assumes nothing.
use Rattle.std.proofs.Common.{sym, ◌∙◌, arith}
use Rattle.nearby.specs.Laws.{major_before}
use Rattle.nearby.proofs.Places.{stepped, step_near, period_some, start_near, way_near, place_low}
use Rattle.nearby.proofs.place.major_in.Goals as goal

pub overflow_add-t : goal.overflow_add-t
overflow_add-t c =
    let k = stepped c.requires.stands c.requires.i_bound c.step_of-t.ensures in
    omega (arith, step_near k, c.requires.stands.high_near)

pub returns-then-t-i : goal.returns-then-t-i
returns-then-t-i c = sym (major_before c.args.s c.args.i (omega (arith, c.step_of-t.ensures)))

pub nonzero_rem-place : goal.nonzero_rem-place
nonzero_rem-place c =
    let k = stepped c.requires.stands c.requires.i_bound c.step_of-t.ensures in
    period_some k _ c.period_of-p.ensures

pub overflow_add-place : goal.overflow_add-place
overflow_add-place c =
    let k = stepped c.requires.stands c.requires.i_bound c.step_of-t.ensures in
    omega (arith, step_near k, c.requires.stands.high_near)

pub overflow_mul-place : goal.overflow_mul-place
overflow_mul-place c =
    let k = stepped c.requires.stands c.requires.i_bound c.step_of-t.ensures in
    omega (arith, way_near k _ c.period_of-p.ensures)

pub overflow_add-place-else-t-i : goal.overflow_add-place-else-t-i
overflow_add-place-else-t-i c =
    let k = stepped c.requires.stands c.requires.i_bound c.step_of-t.ensures in
    omega (arith, start_near k _ c.period_of-p.ensures, way_near k _ c.period_of-p.ensures)

pub returns-else-t-i : goal.returns-else-t-i
returns-else-t-i c =
    let k = stepped c.requires.stands c.requires.i_bound c.step_of-t.ensures in
    c.min.ensures ∙ place_low k _ c.period_of-p.ensures c.if-t-i.false
