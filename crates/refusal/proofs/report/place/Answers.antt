-- `refusal::report::place` meets its contract. Assumes nothing.
use borrow.Author.Rules.{rules}
use Rattle.refusal.specs.Answer.{place_of}
use Rattle.refusal.proofs.report.place.Goals as goal

pub returns-in-Ok : goal.returns-in-Ok
unfolding place_of
returns-in-Ok c = search rules

pub returns-in-Err : goal.returns-in-Err
unfolding place_of
returns-in-Err c = search rules
