-- `ticket::judge::judge` meets its contract. Assumes nothing.
use Rattle.refusal.specs.Chain.{then_passed, then_ended}
use Rattle.ticket.specs.Judging.{judged}
use Rattle.ticket.proofs.judge.judge.Goals as goal

pub returns : goal.returns
unfolding judged
returns c =
    then_passed c.in_ok-judge_operation.was c.judge_operation.ensures
    (then_passed c.in_ok-judge_line.was c.judge_line.ensures
    (then_passed c.in_ok-judge_vector.was c.judge_vector.ensures
    (then_passed c.in_ok-judge_length.was c.judge_length.ensures
    (then_passed c.in_ok-judge_origin.was c.judge_origin.ensures
    (then_passed c.in_ok-judge_phase.was c.judge_phase.ensures c.judge_boxes.ensures)))))

pub returns-in_err-judge_operation : goal.returns-in_err-judge_operation
unfolding judged
returns-in_err-judge_operation c =
    then_ended _ c.in_err-judge_operation.was c.judge_operation.ensures c.from_residual.ensures.1

pub returns-in_err-judge_line : goal.returns-in_err-judge_line
unfolding judged
returns-in_err-judge_line c =
    then_passed c.in_ok-judge_operation.was c.judge_operation.ensures
    (then_ended _ c.in_err-judge_line.was c.judge_line.ensures c.from_residual-in_err-judge_line.ensures.1)

pub returns-in_err-judge_vector : goal.returns-in_err-judge_vector
unfolding judged
returns-in_err-judge_vector c =
    then_passed c.in_ok-judge_operation.was c.judge_operation.ensures
    (then_passed c.in_ok-judge_line.was c.judge_line.ensures
    (then_ended _ c.in_err-judge_vector.was c.judge_vector.ensures c.from_residual-in_err-judge_vector.ensures.1))

pub returns-in_err-judge_length : goal.returns-in_err-judge_length
unfolding judged
returns-in_err-judge_length c =
    then_passed c.in_ok-judge_operation.was c.judge_operation.ensures
    (then_passed c.in_ok-judge_line.was c.judge_line.ensures
    (then_passed c.in_ok-judge_vector.was c.judge_vector.ensures
    (then_ended _ c.in_err-judge_length.was c.judge_length.ensures c.from_residual-in_err-judge_length.ensures.1)))

pub returns-in_err-judge_origin : goal.returns-in_err-judge_origin
unfolding judged
returns-in_err-judge_origin c =
    then_passed c.in_ok-judge_operation.was c.judge_operation.ensures
    (then_passed c.in_ok-judge_line.was c.judge_line.ensures
    (then_passed c.in_ok-judge_vector.was c.judge_vector.ensures
    (then_passed c.in_ok-judge_length.was c.judge_length.ensures
    (then_ended _ c.in_err-judge_origin.was c.judge_origin.ensures c.from_residual-in_err-judge_origin.ensures.1))))

pub returns-in_err-judge_phase : goal.returns-in_err-judge_phase
unfolding judged
returns-in_err-judge_phase c =
    then_passed c.in_ok-judge_operation.was c.judge_operation.ensures
    (then_passed c.in_ok-judge_line.was c.judge_line.ensures
    (then_passed c.in_ok-judge_vector.was c.judge_vector.ensures
    (then_passed c.in_ok-judge_length.was c.judge_length.ensures
    (then_passed c.in_ok-judge_origin.was c.judge_origin.ensures
    (then_ended _ c.in_err-judge_phase.was c.judge_phase.ensures c.from_residual-in_err-judge_phase.ensures.1)))))
