-- `refusal::report::number` meets its contract. Assumes nothing.
use borrow.Author.Rules.{rules}
use Rattle.refusal.specs.Answer.{number_of}
use Rattle.refusal.proofs.report.number.Goals as goal

pub returns-in-Ok : goal.returns-in-Ok
unfolding number_of
returns-in-Ok c = search rules

pub returns-in-Err : goal.returns-in-Err
unfolding number_of
returns-in-Err c = search rules
