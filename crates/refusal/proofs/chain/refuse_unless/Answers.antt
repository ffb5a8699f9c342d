-- `refusal::chain::refuse_unless` meets its contract. Assumes nothing.
use Rattle.refusal.specs.Chain.{unless}
use Rattle.refusal.proofs.chain.refuse_unless.Goals as goal

pub returns-then-test : goal.returns-then-test
unfolding unless
returns-then-test c = rw c.if-test.true

pub returns-else-test : goal.returns-else-test
unfolding unless
returns-else-test c = rw c.if-test.false
