-- `job::order::recipe_of` meets its contract. Assumes nothing.
use mathlib.Core.Path.{ap}
use Rattle.geometry.specs.declared.Line.{Line}
use Rattle.filter.specs.declared.Recipe.{Recipe}
use Rattle.job.specs.Order.{segment_of, recipe_of}
use Rattle.job.proofs.order.recipe_of.Goals as goal

pub returns : goal.returns
unfolding recipe_of segment_of
returns c =
    let t = c.args.t in
    ap {B = Recipe}
    (λ (line : Line).
    record {
      operation = t.operation;
      segment = record { line = line; length = t.length; origin = t.origin };
      white = c.args.white;
      count = t.count;
      boxes = t.boxes;
    })
    c.line_of.ensures
