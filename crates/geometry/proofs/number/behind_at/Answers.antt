-- `number::behind_at` meets its contract.
-- Assumes nothing.
use Rattle.std.proofs.Common.{◌<◌, length, arith}
use Rattle.geometry.proofs.Numbers.{place_found, step_tabled, missing_tabled, reach_below, behind_is}
use Rattle.geometry.proofs.number.behind_at.Goals as goal
use Rattle.geometry.proofs.number.behind_at.Goals.{After-step_of-t, After-saturating_sub-v}

in_profile : (c : After-step_of-t) → c.step_of-t.result < length c.args.profile.now
in_profile c = step_tabled c.requires.on_line c.step_of-t.result c.step_of-t.ensures

in_reach : (c : After-saturating_sub-v) → c.saturating_sub-v.result < length c.args.reach.now
in_reach c =
    let at = place_found _ _ _ _ _ c.falls.ensures c.mirrored-x.ensures in
    missing_tabled c.requires.on_line c.step_of-t.result c.step_of-t.ensures c.mirrored-x.result at
    c.requires.entries c.saturating_sub-v.result c.saturating_sub-v.ensures

pub offset_bounds-profile-t : goal.offset_bounds-profile-t
offset_bounds-profile-t c = omega (arith, in_profile (goal.at.offset_bounds-profile-t c).After-step_of-t)

pub bounds-profile-t : goal.bounds-profile-t
bounds-profile-t c = in_profile (goal.at.bounds-profile-t c).After-step_of-t

pub offset_bounds-reach-v : goal.offset_bounds-reach-v
offset_bounds-reach-v c = omega (arith, in_reach (goal.at.offset_bounds-reach-v c).After-saturating_sub-v)

pub bounds-reach-v : goal.bounds-reach-v
bounds-reach-v c = in_reach (goal.at.bounds-reach-v c).After-saturating_sub-v

pub overflow_sub-result : goal.overflow_sub-result
overflow_sub-result c =
    let at = place_found _ _ _ _ _ c.falls.ensures c.mirrored-x.ensures in
    reach_below c.requires.on_line c.step_of-t.result c.step_of-t.ensures c.mirrored-x.result at
    c.requires.entries c.saturating_sub-v.result c.saturating_sub-v.ensures

pub returns : goal.returns
returns c =
    let at = place_found _ _ _ _ _ c.falls.ensures c.mirrored-x.ensures in
    behind_is c.requires.on_line c.step_of-t.result c.step_of-t.ensures c.mirrored-x.result at
    c.requires.entries c.saturating_sub-v.result c.saturating_sub-v.ensures
