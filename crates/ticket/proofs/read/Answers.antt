-- `ticket::read` meets its contract. Assumes nothing.
use Rattle.refusal.specs.Chain.{giving_passed, giving_ended}
use Rattle.ticket.specs.Reading.{reading}
use Rattle.ticket.proofs.read.Goals as goal

pub returns : goal.returns
unfolding reading
returns c = giving_passed c.in_ok-judge.was c.judge.ensures c.show.ensures

pub returns-in_err-judge : goal.returns-in_err-judge
unfolding reading
returns-in_err-judge c = giving_ended _ c.in_err-judge.was c.judge.ensures c.from_residual.ensures.1
