-- `turning::tile::transpose` meets its contract, by what four shuffles make of a tile. Assumes nothing.
use Rattle.turning.proofs.Tiling.{four_shuffles}
use Rattle.turning.proofs.tile.transpose.Goals as goal

pub returns : goal.returns
returns c =
    four_shuffles _ _ _ _ _ c.shuffle.ensures c.shuffle-2.ensures c.shuffle-3.ensures c.shuffle-4.ensures
