-- `ticket::fill::kind_of` meets its contract. Assumes nothing.
use Rattle.std.proofs.Common.{refl, ne_eqb}
use Rattle.ticket.specs.Reading.{kind_of}
use Rattle.ticket.proofs.fill.kind_of.Goals as goal

pub returns-then-n-eq2 : goal.returns-then-n-eq2
unfolding kind_of
returns-then-n-eq2 c = rw c.if-n-eq2.true refl

pub returns-else-n-eq2 : goal.returns-else-n-eq2
unfolding kind_of
returns-else-n-eq2 c = rw (ne_eqb c.args.n 2 c.if-n-eq2.false) refl
