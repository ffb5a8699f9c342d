-- `runs::run::marked_run` meets its contract: the first k bytes are kept or chosen, and the comparisons counted.
-- Assumes nothing.
use mathlib.Core.Path.{◌≡◌}
use lib.ListN.{get_or}
use Rattle.runs.specs.Scratch.{total}
use Rattle.runs.specs.Runs.{ChosenUnless, compared_of}
use Rattle.runs.proofs.run.marked_run.Given as goal

abbrev pub invariant-loop-k : goal.invariant-loop-k
invariant-loop-k g l = ChosenUnless l.low (λ j. g.kept (get_or l.marks j 0)) l.to l.first l.second l.k l.initial.bytes l.bytes × (l.count ≡ total (compared_of (λ j. g.kept (get_or l.marks j 0))) 0 l.k)
