-- `ticket::judge::line_known` meets its contract. Assumes nothing.
use borrow.Author.Rules.{rules}
use Rattle.ticket.specs.Judging.{line_known}
use Rattle.ticket.proofs.judge.line_known.Goals as goal

pub returns : goal.returns
unfolding line_known
returns c = search rules
