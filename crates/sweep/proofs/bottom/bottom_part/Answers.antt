-- `sweep::bottom::bottom_part` meets its contract: the windows that begin before the line, and the others. Assumes
-- nothing.
use mathlib.Core.Path.{refl}
use Prim.Native.Nat.{zero-le}
use native.Mathlib.Nat.{zero-add}
use Rattle.sweep.proofs.Rowing.{part_as, part_join}
use Rattle.sweep.proofs.bottom.bottom_part.Goals as goal

pub returns : goal.returns
returns c =
    let row = c.args.row.now.at.in_page.row in
    let most = c.requires.at_bottom.most in
    part_as refl refl (zero-add _)
    (part_join row most zero-le c.edge-lo.ensures.most c.early_bottom.ensures c.across_bottom.ensures)
