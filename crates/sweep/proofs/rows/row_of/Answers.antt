-- `sweep::rows::row_of` meets its contract: the row's step is a quotient. Assumes nothing.
use mathlib.Core.Path.{sym, ap, ◌∙◌}
use Prim.Native.Nat.{ℕ, ◌/◌}
use native.Mathlib.Omega.{arith}
use Rattle.geometry.proofs.Laws.{period_forward, step_is}
use Rattle.sweep.proofs.rows.row_of.Goals as goal

pub nonzero_div-step : goal.nonzero_div-step
nonzero_div-step c =
    let sized = c.args.page.now.tables.sized in
    omega (arith, sized.period_is, period_forward _ sized.sound)

pub invariant_of-at : goal.invariant_of-at
invariant_of-at c =
    let tables = c.args.page.now.tables in
    record {
      in_page = record {
        sized = tables.sized;
        tabled = tables.tabled;
        row = c.requires;
        step = ap (λ (q : ℕ). c.args.row / q) tables.sized.period_is ∙ sym (step_is tables.grid.line c.args.row);
      };
    }
