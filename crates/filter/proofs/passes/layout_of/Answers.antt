-- `filter::passes::layout_of` meets its contract. Assumes nothing.
use mathlib.Core.Path.{ap₂}
use mathlib.Core.Bool.{Bool}
use Rattle.tray.specs.declared.Layout.{Layout}
use Rattle.filter.proofs.passes.layout_of.Goals as goal

pub returns : goal.returns
returns c =
    let a = c.args in
    ap₂ {C = Layout}
    (λ (steep falls : Bool). record { steep = steep; falls = falls; width = a.width; height = a.height })
    c.is_steep.ensures
    c.does_fall.ensures
