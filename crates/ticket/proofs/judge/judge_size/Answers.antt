-- `ticket::judge::judge_size` meets its contract. Assumes nothing.
use mathlib.Core.Path.{refl}
use Rattle.refusal.specs.Chain.{then_passed, then_ended}
use Rattle.ticket.specs.Judging.{judge_size}
use Rattle.ticket.proofs.judge.judge_size.Goals as goal

pub returns : goal.returns
unfolding judge_size
returns c =
    then_passed c.in_ok-refuse_unless.was (rw (c.refuse_unless.ensures, c.number_at.ensures) refl)
    c.refuse_unless-2.ensures

pub returns-in_err-refuse_unless : goal.returns-in_err-refuse_unless
unfolding judge_size
returns-in_err-refuse_unless c =
    then_ended _ c.in_err-refuse_unless.was (rw (c.refuse_unless.ensures, c.number_at.ensures) refl)
    c.from_residual.ensures.1
