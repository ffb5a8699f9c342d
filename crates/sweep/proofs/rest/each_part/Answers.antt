-- `sweep::rest::each_part` meets its contract: the columns from lo up to x are made. Assumes nothing.
use mathlib.Core.Path.{refl, sym, ap}
use Prim.Native.Nat.{ℕ, ◌+◌, ◌*◌, ◌≤◌, ◌<◌}
use native.Mathlib.Nat.{zero-add}
use native.Mathlib.Omega.{arith}
use lib.ListN.{length}
use Rattle.runs.specs.Grid.{resulting_at}
use Rattle.sweep.specs.Sweeps.{target, new_at, cost_at}
use Rattle.runs.specs.declared.Grid.{Grid}
use Rattle.sweep.specs.declared.Sweep.TheVariants.{Result}
use Rattle.sweep.proofs.Places.{row_end}
use Rattle.sweep.proofs.Rowing.{cost_most, part_none, part_few, part_one, part_join}
use Rattle.sweep.proofs.rest.each_part.Goals as goal

-- a result costs at most one comparison
rest_few : (g : Grid) (R x : ℕ) → resulting_at g R x ≤ 1
unfolding cost_at
rest_few g R x = cost_most Result g R x

pub loop-x-init : goal.loop-x-init
loop-x-init c = part_none refl

pub overflow_add-count : goal.overflow_add-count
overflow_add-count c =
    let at = c.args.at.now in
    let l = c.loop-x in
    let one = rest_few at.tables.grid at.row l.x in
    record { fits = omega (arith, part_few l.invariant, c.rest_at-made.ensures.1, one, at.in_page.sized.width_most) }

pub loop-x-preserved : goal.loop-x-preserved
unfolding target new_at cost_at
loop-x-preserved c =
    let l = c.loop-x in
    let at = c.args.at.now.in_page in
    let g = c.args.at.now.tables.grid in
    let R = c.args.at.now.row in
    let place = ap (λ (q : ℕ). q + l.x) (sym (zero-add (R * g.width))) in
    let end = row_end at in
    let fits : R * g.width + l.x < length l.bytes = omega (arith, end, c.requires.room, l.invariant.kept.same_length) in
    let one = part_one Result g R l.bytes l.x _ _ _ place fits c.rest_at-made.ensures.0 c.rest_at-made.ensures.1 in
    part_join at.row (omega arith) (omega arith) (omega arith) l.invariant one
