-- `sweep::rest::across_top` meets its contract: the columns that reach the next block, and the others. Assumes nothing.
use mathlib.Core.Path.{refl, sym, ap, ◌∙◌}
use Prim.Native.Nat.{ℕ, ◌+◌, ◌-◌, ◌%◌, ◌<◌}
use native.Mathlib.Nat.{add-zero}
use native.Mathlib.Omega.{arith}
use Rattle.runs.proofs.Planning.{here}
use Rattle.sweep.proofs.Rowing.{part_as, part_join}
use Rattle.sweep.proofs.Resting.{cut_top, short_top}
use Rattle.sweep.proofs.rest.across_top.Goals as goal

pub overflow_add-next : goal.overflow_add-next
overflow_add-next c =
    let at = c.args.at.now.in_page in
    record { fits = omega (arith, (here _ _ _ _ _ at).step_below, at.sized.height_most, at.sized.length_most) }

pub step_edge-end-requires : goal.step_edge-end-requires
step_edge-end-requires c =
    let at = c.args.at.now.in_page in
    let line = c.requires.past_line in
    let below = (here _ _ _ _ _ at).step_below in
    (omega (arith, below, at.sized.height_most, at.sized.length_most), line.0.most, line.0.entered line.1)

pub choose_from-count-requires-clause-step_bound : goal.choose_from-count-requires-clause-step_bound
choose_from-count-requires-clause-step_bound c =
    let at = c.args.at.now.in_page in
    let line = c.requires.past_line in
    let below = (here _ _ _ _ _ at).step_below in (
      line.0.entered line.1,
      omega arith,
      omega (arith, below, at.sized.height_most, at.sized.length_most),
      c.step_edge-end.ensures,
    )

pub returns : goal.returns
returns c =
    let row = c.args.at.now in
    let at = row.in_page in
    let g = row.tables.grid in
    let line = c.requires.past_line in
    let inside : 0 < (row.step - g.back) % g.length = omega (arith, line.3, line.4) in
    let next_is = ap (λ (q : ℕ). row.step - g.back + (g.length - q)) line.3 in
    let edge = c.step_edge-end.ensures in
    let made = c.choose_from-count.ensures in
    let first = cut_top at _ _ line.0 line.1 line.2 _ _ inside next_is edge _ made.0 in
    let rest = short_top at _ _ line.0 line.1 line.2 _ _ inside next_is edge _ c.copy_from.ensures in
    part_as refl refl (add-zero _ ∙ sym made.1)
    (part_join at.row (omega arith) edge.least edge.most first rest)
