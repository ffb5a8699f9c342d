-- `ticket::judge::length_allowed` meets its contract. Assumes nothing.
use borrow.Author.Rules.{rules}
use Rattle.ticket.specs.Judging.{length_allowed}
use Rattle.ticket.proofs.judge.length_allowed.Goals as goal

pub returns : goal.returns
unfolding length_allowed
returns c = search rules
