-- `pgm::pixels::most` meets its contract: what is found and the greatest pixel left make the greatest. Assumes nothing.
use mathlib.Core.Path.{◌≡◌}
use Prim.Native.Nat.{max}
use lib.ListN.{drop}
use Rattle.pgm.specs.Pixels.{greatest}
use Rattle.pgm.proofs.pixels.most.Given as goal

abbrev pub invariant-loop-pixel : goal.invariant-loop-pixel
invariant-loop-pixel l = max l.found (greatest (drop l.pixel-index l.pixels)) ≡ greatest l.pixels
