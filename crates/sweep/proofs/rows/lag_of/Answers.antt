-- `sweep::rows::lag_of` meets its contract. Assumes nothing.
use mathlib.Core.Path.{ap, ◌∙◌}
use Prim.Native.Nat.{ℕ, ◌*◌, min}
use Rattle.sweep.specs.Sweeps.{lag}
use Rattle.sweep.proofs.rows.lag_of.Goals as goal

pub returns : goal.returns
unfolding lag
returns c =
    let g = c.args.g in
    c.min.ensures ∙ ap (λ (q : ℕ). min (q * g.period) g.height) c.max.ensures
