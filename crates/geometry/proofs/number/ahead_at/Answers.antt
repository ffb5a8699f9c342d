-- `number::ahead_at` meets its contract.
-- Assumes nothing.
use Rattle.std.proofs.Common.{◌<◌, length, arith}
use Rattle.geometry.proofs.Laws.{period_forward}
use Rattle.geometry.proofs.Numbers.{place_found, step_tabled, drift_near, place_below, walks, ahead_is_left}
use Rattle.geometry.proofs.number.ahead_at.Goals as goal
use Rattle.geometry.proofs.number.ahead_at.Goals.{After-step_of-t}

in_profile : (c : After-step_of-t) → c.step_of-t.result < length c.args.profile.now
in_profile c = step_tabled c.requires c.step_of-t.result c.step_of-t.ensures

pub offset_bounds-profile-t : goal.offset_bounds-profile-t
offset_bounds-profile-t c = omega (arith, in_profile (goal.at.offset_bounds-profile-t c).After-step_of-t)

pub bounds-profile-t : goal.bounds-profile-t
bounds-profile-t c = in_profile (goal.at.bounds-profile-t c).After-step_of-t

pub overflow_add-limit : goal.overflow_add-limit
overflow_add-limit c =
    omega (arith, drift_near c.requires c.step_of-t.result c.step_of-t.ensures, c.requires.on_page_lem)

pub overflow_sub-limit : goal.overflow_sub-limit
overflow_sub-limit c =
    let at = place_found _ _ _ _ _ c.falls.ensures c.mirrored-x.ensures in
    omega (arith, place_below c.requires c.step_of-t.result c.step_of-t.ensures c.mirrored-x.result at)

pub nonzero_rem-major : goal.nonzero_rem-major
nonzero_rem-major c = omega (arith, c.period_of-p.ensures, period_forward c.args.line c.requires.allowed.sound)

pub last_step-requires : goal.last_step-requires
last_step-requires c =
    let at = place_found _ _ _ _ _ c.falls.ensures c.mirrored-x.ensures in
    walks c.requires c.step_of-t.result c.step_of-t.ensures c.mirrored-x.result at c.period_of-p.result
    c.period_of-p.ensures

pub returns : goal.returns
returns c =
    let at = place_found _ _ _ _ _ c.falls.ensures c.mirrored-x.ensures in
    ahead_is_left c.requires c.step_of-t.result c.step_of-t.ensures c.mirrored-x.result at c.period_of-p.result
    c.period_of-p.ensures c.last_step.result c.last_step.ensures
