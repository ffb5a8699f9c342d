-- `pgm::scan::next` meets its contract: what is left of the file, inside a comment or not, has all bytes from `at` on.
-- Assumes nothing.
use mathlib.Core.Path.{◌≡◌}
use lib.ListN.{drop}
use Rattle.pgm.specs.Bytes.{uncommented, bytes_from}
use Rattle.pgm.proofs.scan.next.Given as goal

abbrev pub invariant-loop-k : goal.invariant-loop-k
invariant-loop-k l = uncommented l.inside l.k (drop l.k l.file) ≡ bytes_from l.file l.at
