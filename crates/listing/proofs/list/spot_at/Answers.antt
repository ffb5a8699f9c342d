-- `listing::list::spot_at` meets its contract. Assumes nothing.
use Rattle.listing.specs.Listed.{spot_at}
use Rattle.listing.proofs.list.spot_at.Goals as goal

pub returns : goal.returns
unfolding spot_at
returns c = λ i. record { offset = c.number_at.ensures i; stride = c.number_at-2.ensures i }
