-- `hiding::hide` meets its contract. All that it knows of `hide_one` is that it meets its contract.
-- Assumes nothing.
use Rattle.hiding.proofs.Painting.{painted_none, painted_more}
use Rattle.hiding.proofs.hide.Goals as goal

-- no box is painted yet
pub loop-b-init : goal.loop-b-init
loop-b-init c = painted_none c.args.lay c.args.value c.args.page.now

-- the boxes before this one are painted, and this one is
pub loop-b-preserved : goal.loop-b-preserved
loop-b-preserved c =
    let a = c.args in
    let l = c.loop-b in
    painted_more a.lay a.value _ l.b-index _ a.page.now l.page c.hide_one.new.page c.loop-b-test.true
    l.invariant c.hide_one.ensures
