-- `pgm::scan::behind` meets its contract: behind the run from here on is what is behind the whole run. Assumes nothing.
use mathlib.Core.Path.{◌≡◌}
use mathlib.Core.Bool.{Bool}
use Prim.Native.Nat.{ℕ, ◌-◌}
use lib.ListN.{length}
use Rattle.pgm.specs.Bytes.{bytes_from, behind}
use Rattle.pgm.specs.Scanning.{Computes, Stands}
use Rattle.pgm.proofs.scan.behind.Given as goal

abbrev pub invariant-loop-k : goal.invariant-loop-k
invariant-loop-k g l =
    Stands l.file (bytes_from l.file l.k) l.k
    × ((test : ℕ → Bool) → Computes (goal.F-post g l.kind) test
    → behind test (bytes_from l.file l.k) ≡ behind test (bytes_from l.file l.at))

abbrev pub decreases-loop-k : goal.decreases-loop-k
decreases-loop-k g l = length l.file - l.k
