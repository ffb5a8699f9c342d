-- `filter::passes::is_steep` meets its contract. Assumes nothing.
use Rattle.std.proofs.Common.{refl, ◌∙◌}
use Rattle.filter.proofs.Grids.{steep_as}
use Rattle.filter.proofs.passes.is_steep.Goals as goal

pub returns : goal.returns
returns c = c.is_steep.ensures ∙ steep_as _ _ refl c.requires
