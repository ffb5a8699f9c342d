-- `turning::tile::shuffle` meets its contract. The invariant: i bytes of each half are in their place. Assumes nothing.
use Rattle.turning.specs.Tiles.{Shuffled}
use Rattle.turning.proofs.tile.shuffle.Given as goal

abbrev pub invariant-loop-i : goal.invariant-loop-i
invariant-loop-i l = Shuffled l.i l.x l.y
