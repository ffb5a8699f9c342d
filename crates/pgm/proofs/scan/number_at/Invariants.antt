-- `pgm::scan::number_at` meets its contract: the number so far and the digits left make the whole number.
-- Assumes nothing.
use mathlib.Core.Path.{◌≡◌}
use Prim.Native.Nat.{◌-◌, ◌≤◌}
use lib.ListN.{length}
use Rattle.pgm.specs.Bytes.{bytes_from, numeral}
use Rattle.pgm.specs.Reading.{largest, told}
use Rattle.pgm.specs.Scanning.{Stands}
use Rattle.pgm.proofs.scan.number_at.Given as goal

abbrev pub invariant-loop-k : goal.invariant-loop-k
invariant-loop-k l =
    (l.n ≤ largest)
    × Stands l.file (bytes_from l.file l.k) l.k
    × (told (numeral l.n (bytes_from l.file l.k)) ≡ told (numeral 0 (bytes_from l.file l.at)))

abbrev pub decreases-loop-k : goal.decreases-loop-k
decreases-loop-k l = length l.file - l.k
