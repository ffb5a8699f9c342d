-- `ticket::judge::origin_allowed` meets its contract. Assumes nothing.
use borrow.Author.Rules.{rules}
use Rattle.ticket.specs.Judging.{origin_allowed}
use Rattle.ticket.proofs.judge.origin_allowed.Goals as goal

pub returns : goal.returns
unfolding origin_allowed
returns c = search rules
