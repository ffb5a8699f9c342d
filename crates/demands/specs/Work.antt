-- Document 01, 'Work': "So the work is at most 3·w·h a pass."
-- Assumes nothing.
use Rattle.std.specs.Prelude.{◌≡◌, ◌⊎◌, List, ℕ, ◌*◌, ◌≤◌}
use Rattle.refusal.specs.Answer.{done_with}
use Rattle.geometry.specs.declared.Line.{Line}
use Rattle.ticket.specs.Reading.{shown}
use Rattle.ticket.specs.declared.Ticket.{Ticket}
use Rattle.filter.specs.Filters.{erosion, dilation}
use Rattle.placement.specs.declared.Placements.{Placements}
use Rattle.filter.specs.Work.{pass_work}
use Rattle.job.specs.Job.{job_work, answer}
use Rattle.judging.specs.declared.Lengths.{Lengths}

-- a pass over a page with sides H and W: each pixel is charged three comparisons at most
abbrev pub PassWork : Type 0
PassWork = (l : Line) (H W L a : ℕ) → pass_work l H W L a ≤ 3 * (H * W)

-- operations 1 and 2 are one pass
abbrev pub OnePass : Ticket → Type 0
OnePass t = (t.operation ≡ erosion) ⊎ (t.operation ≡ dilation)

abbrev pub OnePassWork : Type 0
OnePassWork = (t : Ticket) (w h : ℕ) → OnePass t → job_work t w h ≤ 3 * (w * h)

-- "Opening and closing add their two passes.": no operation has more
abbrev pub TwoPassWork : Type 0
TwoPassWork = (t : Ticket) (w h : ℕ) → job_work t w h ≤ 6 * (w * h)

-- the work that a finished job answers is that of its ticket and its page's sides,
abbrev pub FinishedWork : Type 0
FinishedWork =
    (ticket : List ℕ) (p : Placements) (n : Lengths) (work : ℕ) → answer ticket p n ≡ done_with work
    → work ≡ job_work (shown ticket) p.width p.height

-- so it is at most 3·w·h where the ticket orders one pass,
abbrev pub FinishedOnePass : Type 0
FinishedOnePass =
    (ticket : List ℕ) (p : Placements) (n : Lengths) (work : ℕ) → answer ticket p n ≡ done_with work → OnePass (shown ticket)
    → work ≤ 3 * (p.width * p.height)

-- and at most twice that for every ticket.
abbrev pub FinishedTwoPasses : Type 0
FinishedTwoPasses =
    (ticket : List ℕ) (p : Placements) (n : Lengths) (work : ℕ) → answer ticket p n ≡ done_with work
    → work ≤ 6 * (p.width * p.height)
