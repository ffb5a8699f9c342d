-- `ticket::judge::judge_length` meets its contract. Assumes nothing.
use mathlib.Core.Path.{refl}
use Rattle.refusal.specs.Chain.{then_passed, then_ended}
use Rattle.ticket.specs.Judging.{judge_length}
use Rattle.ticket.proofs.judge.judge_length.Goals as goal

pub returns : goal.returns
unfolding judge_length
returns c =
    then_passed c.in_ok-judge_field.was c.judge_field.ensures
    (rw (c.refuse_unless.ensures, c.length_allowed-allowed.ensures, c.length_in.ensures) refl)

pub returns-in_err-judge_field : goal.returns-in_err-judge_field
unfolding judge_length
returns-in_err-judge_field c =
    then_ended _ c.in_err-judge_field.was c.judge_field.ensures c.from_residual.ensures.1
