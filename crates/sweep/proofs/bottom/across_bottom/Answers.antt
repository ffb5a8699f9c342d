-- `sweep::bottom::across_bottom` meets its contract: the columns from lo up to x are made. Assumes nothing.
use mathlib.Core.Path.{◌≡◌, refl}
use Prim.Native.Nat.{◌+◌, ◌≤◌, zero-le}
use native.Mathlib.Omega.{arith}
use Rattle.runs.proofs.Planning.{here}
use Rattle.sweep.proofs.Rowing.{part_none, part_as, part_few, part_join}
use Rattle.sweep.proofs.Bottoming.{bottom_some}
use Rattle.sweep.proofs.bottom.across_bottom.Goals as goal

pub within-w-requires : goal.within-w-requires
within-w-requires c =
    let at = c.args.row.now.at.in_page in
    (at.sized, omega (arith, (here _ _ _ _ _ at).step_below, at.sized.height_most), c.requires.at_bottom.0.past)

pub loop-x-init : goal.loop-x-init
loop-x-init c = (c.requires.at_bottom.1.most, part_none refl)

pub block_part-count-requires-clause-at_bottom : goal.block_part-count-requires-clause-at_bottom
block_part-count-requires-clause-at_bottom c =
    let at = c.args.row.now.at.in_page in
    let end = c.min-end.ensures in (
      bottom_some at _ _ _ c.requires.at_bottom.0 _ _ zero-le (omega (arith, end)),
      λ y from to. c.requires.at_bottom.1.right y (omega (arith, c.loop-x.auto.x)) (omega (arith, end)),
      c.within-w.ensures,
      omega (arith, end),
      omega (arith, end),
    )

pub overflow_add-count : goal.overflow_add-count
overflow_add-count c =
    let most = c.requires.at_bottom.0.most in
    let wide = c.args.row.now.at.in_page.sized.width_most in
    let done = part_few c.loop-x.invariant.1 in
    let more = part_few c.block_part-count.ensures in
    record { fits = omega (arith, done, more, c.min-end.ensures, most, wide) }

pub loop-x-preserved : goal.loop-x-preserved
loop-x-preserved c =
    let at = c.args.row.now.at.in_page in
    let l = c.loop-x in
    let end = c.min-end.ensures in
    let whole : c.min-end.result ≡ l.x + 224 = omega (arith, end) in
    let width = c.args.row.now.at.tables.grid.width in
    let columns : c.min-end.result ≤ width = omega (arith, end, c.requires.at_bottom.0.most) in
    let on : l.x ≤ c.min-end.result = omega (arith, end) in
    let both = part_join at.row columns l.auto.x on l.invariant.1 c.block_part-count.ensures in
    (omega arith, part_as refl whole refl both)

pub returns-2 : goal.returns-2
returns-2 c =
    let at = c.args.row.now.at.in_page in
    let l = c.loop-x in
    let end = c.min-end.ensures in
    let last : c.min-end.result ≡ c.args.hi = omega (arith, end) in
    let width = c.args.row.now.at.tables.grid.width in
    let columns : c.min-end.result ≤ width = omega (arith, end, c.requires.at_bottom.0.most) in
    let on : l.x ≤ c.min-end.result = omega (arith, end) in
    part_as refl last refl (part_join at.row columns l.auto.x on l.invariant.1 c.block_part-count.ensures)
