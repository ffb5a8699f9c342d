-- `job::order::line_of` meets its contract. Assumes nothing.
use Rattle.job.proofs.Orders.{line_as}
use Rattle.job.proofs.order.line_of.Goals as goal

pub returns : goal.returns
returns c = line_as c.args.t c.requires _ c.is_periodic.ensures
