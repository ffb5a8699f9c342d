-- `turning::turn::page_out` meets its contract: each way writes the page that it is asked. Assumes nothing.
use Rattle.turning.proofs.Compact.{placed_compact, alike_out, turnable_out, out_steep, out_shallow}
use Rattle.turning.proofs.turn.page_out.Goals as goal

pub copy_rows-requires : goal.copy_rows-requires
copy_rows-requires c =
    let is = c.compact-q.ensures in
    let same = c.requires.same_sides in
    record {
      placed = placed_compact _ _ _ same is _ _ c.requires.placed c.requires.height_in_bounds;
      placed_2 = c.requires.placed;
      alike = alike_out _ _ _ same is c.if-lay.true;
    }

pub turn_page-requires : goal.turn_page-requires
turn_page-requires c =
    let is = c.compact-q.ensures in
    let same = c.requires.same_sides in
    let from = placed_compact _ _ _ same is _ _ c.requires.placed c.requires.height_in_bounds in
    turnable_out _ _ _ same is _ _ _ _ c.if-lay.false from c.requires.placed

pub returns-then-lay : goal.returns-then-lay
returns-then-lay c =
    let is = c.compact-q.ensures in
    out_steep _ _ _ c.requires.same_sides is _ _ _ c.if-lay.true c.copy_rows.ensures

pub returns-else-lay : goal.returns-else-lay
returns-else-lay c =
    let is = c.compact-q.ensures in
    out_shallow _ _ _ c.requires.same_sides is _ _ _ c.if-lay.false c.turn_page.ensures
