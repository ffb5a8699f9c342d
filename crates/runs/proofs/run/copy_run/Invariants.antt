-- `runs::run::copy_run` meets its contract: the first k bytes are copied. Assumes nothing.
use Rattle.runs.specs.Runs.{Copied}
use Rattle.runs.proofs.run.copy_run.Given as goal

abbrev pub invariant-loop-k : goal.invariant-loop-k
invariant-loop-k l = Copied l.to l.from l.k l.initial.bytes l.bytes
