-- `extreme::extreme_of` meets its contract. Assumes nothing.
use Rattle.std.proofs.Common.{◌≡◌, ◌∙◌, arith, reverse}
use Rattle.std.proofs.lemmas.Grind.{common_steps}
use Rattle.std.specs.List.{fold}
use Rattle.finding.specs.Row.{absent}
use Rattle.finding.proofs.Laws.{joined_of, extreme_folded}
use Rattle.finding.proofs.extreme.extreme_of.Goals as goal

pub returns : goal.returns
returns c =
    let window = c.args.window.now in
    let folded : c.fold.result ≡ fold (joined_of c.args.low) absent (reverse window) = grind (arith, common_steps) in
    folded ∙ extreme_folded c.args.low window
