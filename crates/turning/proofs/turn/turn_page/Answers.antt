-- `turning::turn::turn_page` meets its contract: bands, then what no tile covers. Assumes nothing.
use Rattle.std.proofs.Common.{le_refl}
use Rattle.turning.specs.Pieces.{turned_pixel}
use Rattle.turning.proofs.Pieces.{join_down, part_all}
use Rattle.turning.proofs.turn.turn_page.Goals as goal

pub returns : goal.returns
returns c =
    let a = c.args in
    let page = turned_pixel a.from.now a.t in
    let bands = c.turn_bands-a.ensures in
    part_all a.t page _ _
    (join_down a.t page _ _ _ 0 _ a.t.target.height 0 a.t.target.width bands.most (le_refl _) bands.filled
    c.turn_rows.ensures)
