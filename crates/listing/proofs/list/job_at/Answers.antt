-- `listing::list::job_at` meets its contract: eight numbers, each read at its place. Assumes nothing.
use Rattle.listing.specs.Listed.{listed_at}
use Rattle.listing.proofs.list.job_at.Goals as goal

pub returns : goal.returns
unfolding listed_at
returns c =
    λ i. record {
      start = c.number_at-3.ensures i;
      length = c.number_at-4.ensures i;
      places =
          record {
            width = c.number_at.ensures i;
            height = c.number_at-2.ensures i;
            source = c.spot_at-source.ensures i;
            output = c.spot_at-output.ensures i;
          };
    }
