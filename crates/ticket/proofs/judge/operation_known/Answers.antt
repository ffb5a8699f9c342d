-- `ticket::judge::operation_known` meets its contract. Assumes nothing.
use borrow.Author.Rules.{rules}
use Rattle.ticket.specs.Judging.{operation_known}
use Rattle.ticket.proofs.judge.operation_known.Goals as goal

pub returns : goal.returns
unfolding operation_known
returns c = search rules
