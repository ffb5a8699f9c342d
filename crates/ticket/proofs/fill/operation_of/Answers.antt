-- `ticket::fill::operation_of` meets its contract. Assumes nothing.
use Rattle.std.proofs.Common.{refl, ne_eqb}
use Rattle.ticket.specs.Reading.{operation_of}
use Rattle.ticket.proofs.fill.operation_of.Goals as goal

pub returns-then-n-eq1 : goal.returns-then-n-eq1
unfolding operation_of
returns-then-n-eq1 c = rw c.if-n-eq1.true refl

pub returns-then-n-eq2 : goal.returns-then-n-eq2
unfolding operation_of
returns-then-n-eq2 c = rw c.if-n-eq2.true refl

pub returns-then-n-eq3 : goal.returns-then-n-eq3
unfolding operation_of
returns-then-n-eq3 c = rw c.if-n-eq3.true refl

pub returns-else-n-eq3 : goal.returns-else-n-eq3
unfolding operation_of
returns-else-n-eq3 c =
    rw
    (ne_eqb c.args.n 1 c.if-n-eq1.false, ne_eqb c.args.n 2 c.if-n-eq2.false, ne_eqb c.args.n 3 c.if-n-eq3.false)
    refl
