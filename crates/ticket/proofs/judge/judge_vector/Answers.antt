-- `ticket::judge::judge_vector` meets its contract. Assumes nothing.
use mathlib.Core.Path.{refl}
use Rattle.refusal.specs.Chain.{then_passed, then_ended}
use Rattle.fields.specs.Fields.{dx_in, dy_in, signed_at}
use Rattle.ticket.specs.Judging.{judge_vector}
use Rattle.ticket.proofs.judge.judge_vector.Goals as goal

pub returns : goal.returns
unfolding judge_vector dx_in dy_in signed_at
returns c =
    then_passed c.in_ok-judge_field.was c.judge_field.ensures
    (rw (
      c.refuse_unless.ensures,
      c.vector_allowed-allowed.ensures,
      c.is_periodic-periodic.ensures,
      c.line_in.ensures,
      c.dx_bits.ensures,
      c.dy_bits.ensures,
    ) refl)

pub returns-in_err-judge_field : goal.returns-in_err-judge_field
unfolding judge_vector
returns-in_err-judge_field c =
    then_ended _ c.in_err-judge_field.was c.judge_field.ensures c.from_residual.ensures.1
