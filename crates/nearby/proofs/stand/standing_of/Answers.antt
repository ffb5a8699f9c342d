-- `stand::standing_of` meets its contract.
-- Assumes nothing.
use mathlib.Core.Path.{ap₂, ◌∙◌}
use Rattle.vectors.specs.Vector.{steep}
use Rattle.geometry.proofs.Laws.{component_back}
use Rattle.filter.specs.Seen.{runs_steep}
use Rattle.nearby.proofs.Stood.{standing_of_lem}
use Rattle.nearby.proofs.stand.standing_of.Goals as goal

pub returns : goal.returns
unfolding runs_steep
returns c =
    let line = c.args.line in
    standing_of_lem line c.args.reach c.args.width c.args.height c.args.at
    c.is_steep-steep.result c.down_of.result c.across_of.result c.down_of-2.result
    c.across_of-2.result
    (c.is_steep-steep.ensures
    ∙ ap₂ steep (component_back line.dx c.requires.dx_near) (component_back line.dy c.requires.dy_near))
    c.down_of.ensures c.across_of.ensures c.down_of-2.ensures c.across_of-2.ensures
