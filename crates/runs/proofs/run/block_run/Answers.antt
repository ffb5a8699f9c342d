-- `runs::run::block_run` meets its contract: its marks are those of the columns. Assumes nothing.
use mathlib.Core.Path.{◌∙◌}
use Rattle.runs.specs.Runs.{in_one_block}
use Rattle.runs.proofs.Running.{chosen_own, compared_own}
use Rattle.runs.proofs.run.block_run.Goals as goal

pub returns : goal.returns
returns c =
    let a = c.args in
    let fits = c.requires.apart.2 in
    let made = c.marked_run.ensures in
    (chosen_own _ _ _ fits _ (in_one_block a.last a.near a.far) _ _ _ _ _ made.0, made.1 ∙ compared_own _ _ _ fits (in_one_block a.last a.near a.far))
