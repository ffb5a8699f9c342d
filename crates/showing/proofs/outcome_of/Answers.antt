-- `showing::outcome_of` meets its contract. Assumes nothing.
use Rattle.showing.proofs.outcome_of.Goals as goal

pub returns : goal.returns
returns c = λ i. record { refusal = c.number.ensures i; place = c.place.ensures i; work = c.work.ensures i }
