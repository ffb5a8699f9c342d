-- `ticket::judge::judge_box` meets its contract. Assumes nothing.
use Rattle.refusal.specs.Chain.{then_passed, then_ended}
use Rattle.ticket.specs.Judging.{judge_box}
use Rattle.ticket.proofs.judge.judge_box.Goals as goal

pub returns : goal.returns
unfolding judge_box
returns c =
    then_passed c.in_ok-judge_head.was c.judge_head.ensures
    (rw (c.refuse_unless-many.ensures, c.judge_size-size.ensures) at c.first_refusal.ensures)

pub returns-in_err-judge_head : goal.returns-in_err-judge_head
unfolding judge_box
returns-in_err-judge_head c =
    then_ended _ c.in_err-judge_head.was c.judge_head.ensures c.from_residual.ensures.1
