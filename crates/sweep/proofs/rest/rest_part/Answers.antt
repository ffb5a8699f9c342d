-- `sweep::rest::rest_part` meets its contract: the lines that entered from the side, and the others. Assumes nothing.
use Prim.Native.Nat.{◌≤◌}
use native.Mathlib.Omega.{arith}
use Rattle.sweep.proofs.Rowing.{part_few, part_join}
use Rattle.sweep.proofs.rest.rest_part.Goals as goal

pub rest_side-side-requires-clause-far_edge : goal.rest_side-side-requires-clause-far_edge
rest_side-side-requires-clause-far_edge c =
    let far = c.requires.far_edge in
    let mid = c.min-mid.ensures in
    let past = c.max.ensures in
    let drifted = c.drift_of.ensures in
    (far, omega (arith, mid, past, far.most), omega (arith, mid), omega (arith, mid, past, drifted))

pub rest_top-top-requires-clause-past_line : goal.rest_top-top-requires-clause-past_line
rest_top-top-requires-clause-past_line c =
    let far = c.requires.far_edge in
    let mid = c.min-mid.ensures in
    let past = c.max.ensures in
    let drifted = c.drift_of.ensures in record {
      most = omega (arith, mid);
      entered = λ some. omega (arith, mid, past, drifted);
      past = λ y l h. far.right y (omega (arith, mid, past, far.most)) h;
    }

pub overflow_add-result : goal.overflow_add-result
overflow_add-result c =
    let wide = c.args.row.now.at.in_page.sized.width_most in
    let side = part_few c.rest_side-side.ensures in
    let top = part_few c.rest_top-top.ensures in
    record { fits = omega (arith, side, top, c.min-mid.ensures, wide) }

pub returns : goal.returns
returns c =
    let at = c.args.row.now.at.in_page in
    let mid = c.min-mid.ensures in
    let near : c.args.hi ≤ c.min-mid.result = omega (arith, mid, c.max.ensures, c.requires.far_edge.most) in
    part_join at.row (omega arith) near (omega (arith, mid)) c.rest_side-side.ensures c.rest_top-top.ensures
