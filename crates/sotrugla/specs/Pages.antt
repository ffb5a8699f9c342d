-- The pages of a job, as the numbers that the exported functions take and give.
-- Assumes nothing.
use Rattle.std.specs.Prelude.{ℕ, ◌&&◌, cond}
use Rattle.placement.specs.Placement.{side_allowed, scratch_needed}
use Rattle.placement.specs.declared.Placements.{Placements}

-- width, height, source offset and stride, output offset and stride
abbrev pub placements_of : ℕ → ℕ → ℕ → ℕ → ℕ → ℕ → Placements
placements_of width height from apart to between =
    record {
      width = width;
      height = height;
      source = record { offset = from; stride = apart };
      output = record { offset = to; stride = between };
    }

-- how many pages a job keeps in the scratch: "2·w·h + 3·max(w, h) bytes"
abbrev pub job_pages : ℕ
job_pages = 2

-- the scratch that a page of these sides needs, or 0 where a side is beyond its limits
abbrev pub scratch_for : ℕ → ℕ → ℕ
scratch_for width height = cond (side_allowed width && side_allowed height) (scratch_needed job_pages width height) 0
