-- `sweep::row::result_row` meets its contract: its three parts. Assumes nothing.
use mathlib.Core.Path.{refl, ap}
use Prim.Native.Nat.{ℕ, ◌+◌, zero-le}
use native.Mathlib.Nat.{zero-add}
use native.Mathlib.Omega.{arith}
use Rattle.sweep.proofs.Rowing.{part_as, part_few, part_join}
use Rattle.sweep.proofs.row.result_row.Goals as goal

pub overflow_add-result : goal.overflow_add-result
overflow_add-result c =
    let wide = c.args.row.now.at.in_page.sized.width_most in
    let across = part_few c.across_part-across.ensures in
    let rest = part_few c.rest_part-rest.ensures in
    record { fits = omega (arith, across, rest, c.far_edge-hi.ensures.most, wide) }

pub returns : goal.returns
returns c =
    let at = c.args.row.now.at.in_page in
    let most = c.far_edge-hi.ensures.most in
    let two = part_join at.row most zero-le (omega arith) c.early_part.ensures c.across_part-across.ensures in
    let all = part_join at.row (omega arith) zero-le most two c.rest_part-rest.ensures in
    part_as refl refl (ap (λ (q : ℕ). q + c.rest_part-rest.result) (zero-add _)) all
