-- `ticket::judge::is_periodic` meets its contract. Assumes nothing.
use borrow.Author.Rules.{rules}
use Rattle.ticket.specs.Judging.{is_periodic}
use Rattle.ticket.proofs.judge.is_periodic.Goals as goal

pub returns : goal.returns
unfolding is_periodic
returns c = search rules
