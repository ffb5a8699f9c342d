-- `sweep::rows::sweep_all` meets its contract: the backward sweep, then the forward one with the results. Assumes
-- nothing.
use Prim.Native.Nat.{◌-◌}
use native.Mathlib.Omega.{arith}
use Rattle.sweep.specs.declared.Sweep.TheVariants.{Backward}
use Rattle.sweep.proofs.Paging.{total_small, lowered_small, pass_kept, pass_made, pass_counted, pass_most}
use Rattle.sweep.proofs.rows.sweep_all.Goals as goal

pub overflow_add-result : goal.overflow_add-result
overflow_add-result c =
    let g = c.args.page.now.tables.grid in
    let sized = c.args.page.now.tables.sized in
    let wide = sized.width_most in
    let high = sized.height_most in
    let first = total_small Backward g 0 (g.height - 0) wide (omega (arith, high)) in
    let second = lowered_small c.forward-second.ensures wide high high in
    record { fits = omega (arith, c.backward-first.ensures.counted, first, second) }

pub returns : goal.returns
returns c =
    let first = c.backward-first.ensures in
    let second = c.forward-second.ensures in
    record {
      kept = pass_kept first second;
      made = pass_made first second;
      counted = pass_counted first second;
      most = pass_most _ (pass_counted first second);
    }
