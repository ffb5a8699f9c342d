-- `turning::turn::turn_tile` meets its contract: a tile is taken, transposed and put in its place. Assumes nothing.
use Rattle.turning.proofs.Lines.{tile_part}
use Rattle.turning.proofs.turn.turn_tile.Goals as goal

pub returns : goal.returns
returns c =
    tile_part _ _ _ _ _ _ _ _ c.requires.a_bound.0 c.take_tile.ensures c.transpose.ensures c.put_tile.ensures
