-- `ticket::judge::judge_head` meets its contract. Assumes nothing.
use mathlib.Core.Path.{refl}
use Rattle.refusal.specs.Chain.{then_passed, then_ended}
use Rattle.ticket.specs.Judging.{judge_head}
use Rattle.ticket.proofs.judge.judge_head.Goals as goal

pub returns : goal.returns
unfolding judge_head
returns c =
    then_passed c.in_ok-refuse_unless.was c.refuse_unless.ensures
    (rw (c.refuse_unless-2.ensures, c.byte_at.ensures) refl)

pub returns-in_err-refuse_unless : goal.returns-in_err-refuse_unless
unfolding judge_head
returns-in_err-refuse_unless c =
    then_ended _ c.in_err-refuse_unless.was c.refuse_unless.ensures c.from_residual.ensures.1
