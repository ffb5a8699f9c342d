-- `value::joined` meets its contract. Assumes nothing.
use Rattle.std.proofs.Common.{ℕ, Option, Some, sym, ap}
use Rattle.filter.specs.Filters.{joined}
use Rattle.runs.specs.Span.{chosen}
use Rattle.finding.specs.Row.{grey_in, value_of}
use Rattle.finding.proofs.Laws.{value_grey}
use Rattle.finding.proofs.value.joined.Goals as goal

pub returns-then-low : goal.returns-then-low
unfolding joined grey_in value_of chosen
returns-then-low c =
    rw (c.in-Some-Some.is-0, c.in-Some-Some.is-1, c.if-low.true) (ap {B = Option ℕ} Some c.min.ensures)

pub returns-else-low : goal.returns-else-low
unfolding joined grey_in value_of chosen
returns-else-low c =
    rw (c.in-Some-Some.is-0, c.in-Some-Some.is-1, c.if-low.false) (ap {B = Option ℕ} Some c.max.ensures)

pub returns-in-None-default : goal.returns-in-None-default
unfolding joined grey_in
returns-in-None-default c = rw c.in-None-default.is-0 (sym (value_grey _))

pub returns-in_default-None : goal.returns-in_default-None
unfolding joined grey_in value_of
returns-in_default-None c = rw (c.in_default-None.is-0, c.in_default-None.is-1)
