-- A job of a list. Document 02, wish 3: "Take a list of up to 256 jobs, each with placements and its ticket's start and
-- length in one buffer". The document does not say how the list is handed over: as a row of numbers, eight for each
-- job.
-- Assumes nothing.
use Rattle.std.specs.Prelude.{ℕ, ◌+◌, ◌*◌, cond, List, [], length, take, drop, nat_le, slice_index}
use Rattle.placement.specs.declared.Placements.{Placements}
use Rattle.placement.specs.declared.Spot.{Spot}
use Rattle.listing.specs.declared.Listed.{Listed}

-- a page's offset and stride
unfoldable pub spot_at : List ℕ → ℕ → Spot
spot_at numbers at = record { offset = slice_index numbers at; stride = slice_index numbers (at + 1) }

-- job k: ticket start, ticket length, width, height, source offset and stride, output offset and stride
unfoldable pub listed_at : List ℕ → ℕ → Listed
listed_at jobs k =
    record {
      start = slice_index jobs (8 * k);
      length = slice_index jobs (8 * k + 1);
      places =
          record {
            width = slice_index jobs (8 * k + 2);
            height = slice_index jobs (8 * k + 3);
            source = spot_at jobs (8 * k + 4);
            output = spot_at jobs (8 * k + 6);
          };
    }

-- job k's placements
abbrev pub places_in : List ℕ → ℕ → Placements
places_in jobs k = (listed_at jobs k).places

-- "A ticket not wholly in the buffer counts as empty.", over whole numbers
unfoldable pub ticket_of : List ℕ → Listed → List ℕ
ticket_of tickets job =
    cond (nat_le (job.start + job.length) (length tickets)) (take job.length (drop job.start tickets)) []

-- job k's ticket
abbrev pub ticket_in : List ℕ → List ℕ → ℕ → List ℕ
ticket_in jobs tickets k = ticket_of tickets (listed_at jobs k)
