-- `listing::answers::put` meets its contract: three stores in a row. Assumes nothing.
use Rattle.std.proofs.Common.{arith, length-set}
use Rattle.listing.proofs.Stores.{answer_put}
use Rattle.listing.proofs.answers.put.Goals as goal

pub bounds-answers-at-2 : goal.bounds-answers-at-2
bounds-answers-at-2 c = simp length-set (omega arith)

pub bounds-answers-at-3 : goal.bounds-answers-at-3
bounds-answers-at-3 c = simp length-set (omega arith)

pub returns : goal.returns
returns c =
    let a = c.args in
    answer_put a.answers.now a.k _ _ _ _ c.number.ensures c.place.ensures
    c.work.ensures
