-- `turning::turn::page_in` meets its contract: each way writes the page that it is asked. Assumes nothing.
use Rattle.turning.proofs.Compact.{placed_compact, alike_in, turnable_in, in_steep, in_shallow}
use Rattle.turning.proofs.turn.page_in.Goals as goal

pub copy_rows-requires : goal.copy_rows-requires
copy_rows-requires c =
    let is = c.compact-q.ensures in
    let same = c.requires.same_sides in
    record {
      placed = c.requires.placed;
      placed_2 = placed_compact _ _ _ same is _ _ c.requires.placed c.requires.height_in_bounds;
      alike = alike_in _ _ _ same is c.if-lay.true;
    }

pub turn_page-requires : goal.turn_page-requires
turn_page-requires c =
    let is = c.compact-q.ensures in
    let same = c.requires.same_sides in
    let to = placed_compact _ _ _ same is _ _ c.requires.placed c.requires.height_in_bounds in
    turnable_in _ _ _ same is _ _ _ _ c.if-lay.false c.requires.placed to

pub returns-then-lay : goal.returns-then-lay
returns-then-lay c =
    let is = c.compact-q.ensures in
    let copied = c.copy_rows.ensures in
    in_steep _ _ _ c.requires.same_sides is _ _ _ _ c.if-lay.true c.requires.placed c.requires.height_in_bounds copied

pub returns-else-lay : goal.returns-else-lay
returns-else-lay c =
    let is = c.compact-q.ensures in
    let turned = c.turn_page.ensures in
    in_shallow _ _ _ c.requires.same_sides is _ _ _ _ c.if-lay.false c.requires.placed c.requires.height_in_bounds
    turned
