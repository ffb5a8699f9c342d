-- `file::places::places_of` meets its contract. Assumes nothing.
use mathlib.Core.Path.{ap}
use Prim.Native.Nat.{ℕ}
use Rattle.placement.specs.declared.Placements.{Placements}
use Rattle.file.specs.Places.{header_for, places_of}
use Rattle.file.proofs.places.places_of.Goals as goal

pub returns : goal.returns
unfolding header_for places_of
returns c =
    let h = c.args.h in
    ap {B = Placements}
    (λ (offset : ℕ).
    record {
      width = h.width;
      height = h.height;
      source = record { offset = h.start; stride = h.width };
      output = record { offset = offset; stride = h.width };
    })
    c.header_length.ensures
