-- `tray::row::row` meets its contract: a row of a page that fits lies in the tray. Assumes nothing.
use native.Mathlib.Omega.{arith}
use Rattle.placement.proofs.Laws.{row_room}
use Rattle.tray.proofs.row.row.Goals as goal

pub row_start-start-requires : goal.row_start-start-requires
row_start-start-requires c =
    omega (arith, row_room _ _ _ c.requires.placed c.requires.r_lt_height, c.well_formed.0.0)

pub row_from-requires : goal.row_from-requires
row_from-requires c =
    omega (arith, row_room _ _ _ c.requires.placed c.requires.r_lt_height, c.row_start-start.ensures)
