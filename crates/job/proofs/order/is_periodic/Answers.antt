-- `job::order::is_periodic` meets its contract. Assumes nothing.
use Rattle.std.proofs.Common.{refl}
use Rattle.ticket.specs.Reading.{periodic_kind}
use Rattle.job.proofs.order.is_periodic.Goals as goal

pub returns-in-Periodic : goal.returns-in-Periodic
unfolding periodic_kind
returns-in-Periodic c = rw c.in-Periodic.is refl

pub returns-in_default : goal.returns-in_default
unfolding periodic_kind
returns-in_default c = rw c.in_default.is refl
