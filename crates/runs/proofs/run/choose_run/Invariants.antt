-- `runs::run::choose_run` meets its contract: the first k bytes are chosen, and k comparisons counted. Assumes nothing.
use mathlib.Core.Path.{◌≡◌}
use Rattle.runs.specs.Runs.{Chosen}
use Rattle.runs.proofs.run.choose_run.Given as goal

abbrev pub invariant-loop-k : goal.invariant-loop-k
invariant-loop-k l = Chosen l.low l.to l.first l.second l.k l.initial.bytes l.bytes × (l.count ≡ l.k)
