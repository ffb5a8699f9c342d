-- `filter::passes::hide_all` meets its contract: the first boxes of its array are those of the recipe. Assumes nothing.
use Rattle.filter.specs.Filters.{recipe_boxes}
use Rattle.filter.proofs.passes.hide_all.Goals as goal

pub hide-requires : goal.hide-requires
unfolding recipe_boxes
hide-requires c = c.requires.1

pub returns : goal.returns
unfolding recipe_boxes
returns c = c.hide.ensures
