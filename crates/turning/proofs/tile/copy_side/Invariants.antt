-- `turning::tile::copy_side` meets its contract. The invariant: i bytes are copied. Assumes nothing.
use Rattle.turning.specs.Tiles.{Copied}
use Rattle.turning.proofs.tile.copy_side.Given as goal

abbrev pub invariant-loop-i : goal.invariant-loop-i
invariant-loop-i l = Copied l.i l.from l.a l.b l.initial.to l.to
