-- `sweep::rest::rest_side` meets its contract: the lines that leave at the page's bottom, and the others. Assumes
-- nothing.
use mathlib.Core.Path.{refl, sym}
use Prim.Native.Nat.{◌≤◌, zero-le}
use native.Mathlib.Omega.{arith}
use Rattle.sweep.proofs.Rowing.{part_as, part_few, part_join}
use Rattle.sweep.proofs.Bottoming.{far_zero}
use Rattle.sweep.proofs.rest.rest_side.Goals as goal

pub bottom_part-runs-requires-clause-at_bottom : goal.bottom_part-runs-requires-clause-at_bottom
bottom_part-runs-requires-clause-at_bottom c =
    let left = c.steps_left-b.ensures in
    let past = c.if-g-b.false in
    let end = c.min-end.ensures in
    let none = far_zero _ _ _ _ _ c.args.row.now.at.in_page _ _ c.requires.far_edge.0 past left.1 in record {
      most = omega (arith, end, c.requires.far_edge.2);
      side = omega (arith, end, none, c.requires.far_edge.3);
      row = left.0;
      bottom = left.1;
      there = λ y l h. c.far_edge.ensures.left y (omega (arith, end));
      past = past;
    }

pub each_part-others-requires-clause-far_edge : goal.each_part-others-requires-clause-far_edge
each_part-others-requires-clause-far_edge c =
    let far = c.requires.far_edge in
    let none = far_zero _ _ _ _ _ c.args.row.now.at.in_page _ _ far.0 c.if-g-b.false c.steps_left-b.ensures.1 in
    (far.0, omega (arith, none), omega (arith, c.min-end.ensures), far.2)

pub overflow_add-result : goal.overflow_add-result
overflow_add-result c =
    let wide = c.args.row.now.at.in_page.sized.width_most in
    let runs = part_few c.bottom_part-runs.ensures in
    let others = part_few c.each_part-others.ensures in
    record { fits = omega (arith, runs, others, c.min-end.ensures, c.requires.far_edge.2, wide) }

pub returns : goal.returns
returns c =
    let at = c.args.row.now.at.in_page in
    let far = c.requires.far_edge in
    let none = far_zero _ _ _ _ _ at _ _ far.0 c.if-g-b.false c.steps_left-b.ensures.1 in
    let end : c.min-end.result ≤ c.args.mid = omega (arith, c.min-end.ensures) in
    part_as (sym none) refl refl
    (part_join at.row far.2 zero-le end c.bottom_part-runs.ensures c.each_part-others.ensures)
