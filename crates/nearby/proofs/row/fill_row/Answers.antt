-- `row::fill_row` meets its contract. The invariant: the values below i are right.
-- Assumes nothing.
use Rattle.std.proofs.Common.{arith, length}
use Rattle.nearby.proofs.Rows.{belongs, value_near, store_more}
use Rattle.nearby.proofs.row.fill_row.Goals as goal

pub loop-i-init : goal.loop-i-init
loop-i-init c = λ k below. absurd (omega arith)

pub loop-i-preserved : goal.loop-i-preserved
loop-i-preserved c =
    let at = c.loop-i in
    let a = c.args in
    let right =
    value_near a.boxes.now a.s a.from a.source.now (length a.source.now) at.i c.requires.of_page _ c.pixel_in.ensures _
    c.value_at.ensures in
    store_more (belongs a.boxes.now a.s a.from a.source.now) at.row at.i _ (omega arith) right at.invariant

pub returns-clause-filled : goal.returns-clause-filled
returns-clause-filled c = record { near = λ i h. c.loop-i.invariant i (omega arith) }
