-- `ticket::judge::judge_field` meets its contract. Assumes nothing.
use Rattle.refusal.specs.Chain.{then_passed, then_ended}
use Rattle.ticket.specs.Judging.{judge_field}
use Rattle.ticket.proofs.judge.judge_field.Goals as goal

pub returns : goal.returns
unfolding judge_field
returns c =
    then_passed c.in_ok-judge_head.was c.judge_head.ensures c.judge_size.ensures

pub returns-in_err-judge_head : goal.returns-in_err-judge_head
unfolding judge_field
returns-in_err-judge_head c =
    then_ended _ c.in_err-judge_head.was c.judge_head.ensures c.from_residual.ensures.1
