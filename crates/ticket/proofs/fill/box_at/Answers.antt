-- `ticket::fill::box_at` meets its contract. Assumes nothing.
use Rattle.ticket.specs.Boxes.{box_at}
use Rattle.ticket.proofs.fill.box_at.Goals as goal

pub returns : goal.returns
unfolding box_at
returns c = cc
