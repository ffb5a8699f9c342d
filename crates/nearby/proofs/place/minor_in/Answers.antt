-- `place::minor_in` meets its contract.
-- Assumes nothing.
use Rattle.std.proofs.Common.{◌∙◌, ap, arith}
use Rattle.geometry.specs.Drift.{mirrored}
use Rattle.nearby.proofs.Places.{charted, stepped, step_near, begun, step_tabled, own_tabled, drift_near, x_near}
use Rattle.nearby.proofs.Places.{before_side, past_side, on_side_lem}
use Rattle.nearby.proofs.place.minor_in.Goals as goal

pub overflow_add-up : goal.overflow_add-up
overflow_add-up c =
    let k = stepped c.requires.stands c.requires.i_bound.0 c.step_of-t.ensures in
    omega (arith, step_near k, c.requires.stands.high_near)

pub overflow_sub-up : goal.overflow_sub-up
overflow_sub-up c =
    begun (charted c.requires.stands c.requires.tabled c.requires.i_bound c.step_of-t.ensures)

pub offset_bounds-profile-t : goal.offset_bounds-profile-t
offset_bounds-profile-t c =
    let k = charted c.requires.stands c.requires.tabled c.requires.i_bound c.step_of-t.ensures in
    omega (arith, step_tabled k)

pub bounds-profile-t : goal.bounds-profile-t
bounds-profile-t c =
    step_tabled (charted c.requires.stands c.requires.tabled c.requires.i_bound c.step_of-t.ensures)

pub overflow_add-up-2 : goal.overflow_add-up-2
overflow_add-up-2 c =
    let k = charted c.requires.stands c.requires.tabled c.requires.i_bound c.step_of-t.ensures in
    omega (arith, x_near k _ c.falls-falling.ensures _ c.mirrored.ensures, drift_near k)

pub offset_bounds-profile-t-2 : goal.offset_bounds-profile-t-2
offset_bounds-profile-t-2 c =
    let k = charted c.requires.stands c.requires.tabled c.requires.i_bound c.step_of-t.ensures in
    omega (arith, own_tabled k)

pub bounds-profile-t-2 : goal.bounds-profile-t-2
bounds-profile-t-2 c =
    own_tabled (charted c.requires.stands c.requires.tabled c.requires.i_bound c.step_of-t.ensures)

pub returns-in-None : goal.returns-in-None
returns-in-None c =
    let k = charted c.requires.stands c.requires.tabled c.requires.i_bound c.step_of-t.ensures in
    before_side k _ c.falls-falling.ensures _ c.mirrored.ensures (omega (arith, c.in-None.ensures))

pub returns-in-Some : goal.returns-in-Some
returns-in-Some c =
    let k = charted c.requires.stands c.requires.tabled c.requires.i_bound c.step_of-t.ensures in
    let left = c.in-Some.ensures in
    c.mirrored-in-Some.ensures
    ∙ ap (mirrored c.falls-falling.result c.args.s.wide) left.1
    ∙ on_side_lem k _ c.falls-falling.ensures _ c.mirrored.ensures left.0 (omega (arith, left))

pub returns-in-Some-2 : goal.returns-in-Some-2
returns-in-Some-2 c =
    let k = charted c.requires.stands c.requires.tabled c.requires.i_bound c.step_of-t.ensures in
    let left = c.in-Some.ensures in
    past_side k _ c.falls-falling.ensures _ c.mirrored.ensures left.0 (omega (arith, left))
