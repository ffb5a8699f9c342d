-- `runs::walk::mark_part` meets its contract: which marks are kept. Assumes nothing.
use Prim.Native.Nat.{ℕ}
use lib.Dec.{eqb}
use Rattle.runs.proofs.walk.mark_part.Given as goal

abbrev pub ghost-marked_run : goal.ghost-marked_run
ghost-marked_run a = λ (m : ℕ). eqb m a.keeps.0
