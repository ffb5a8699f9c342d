-- The scratch that a job needs. Document 01, 'Placing a page': "Scratch needed: 2·w·h + 3·max(w, h) bytes."
-- Assumes nothing.
use Rattle.std.specs.Prelude.{ℕ}
use Rattle.ticket.specs.declared.Ticket.{Ticket}
use Rattle.placement.specs.Placement.{scratch_needed}
use Rattle.placement.specs.declared.Placements.{Placements}

-- how many pages a job keeps in the scratch: "2·w·h + 3·max(w, h) bytes"
unfoldable pub pages_of : Ticket → ℕ
pages_of t = 2

-- the scratch that a job uses
unfoldable pub job_scratch : Ticket → Placements → ℕ
job_scratch t p = scratch_needed (pages_of t) p.width p.height
