-- `filter::passes::grid_of` meets its contract, field by field. Assumes nothing.
use mathlib.Core.Path.{refl, ap, ◌∙◌}
use native.Mathlib.Omega.{arith}
use Rattle.tray.specs.Turned.{compact_height, compact_width}
use Rattle.filter.proofs.Grids.{back_below, grid_of_lem}
use Rattle.filter.proofs.passes.grid_of.Goals as goal

pub overflow_sub-result-2 : goal.overflow_sub-result-2
overflow_sub-result-2 c =
    omega (arith, c.back_of-back.ensures, back_below c.args.how.segment c.requires.0 c.args.low)

pub returns : goal.returns
returns c =
    let a = c.args in
    grid_of_lem a.how a.lay.width a.lay.height a.low _ _ _ _ _ refl
    (c.compact_width.ensures ∙ ap compact_width c.requires.1)
    (c.compact_height.ensures ∙ ap compact_height c.requires.1)
    c.period_of.ensures
    c.back_of-back.ensures
