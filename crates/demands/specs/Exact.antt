-- Document 01, 'What answers may depend on': "The reach is exact for operations 3 and 4: if a pixel and all steps up to
-- L-1 on both sides of it are on the page and in no box, then for each of them two pages exist that differ only there
-- and give that pixel different results." Said of the finished page and of the job, over the nearness (Near) that the
-- reach is stated over.
-- Assumes nothing.
use Rattle.std.specs.Prelude.{◌≡◌, true, false, ◌⊎◌, ◌≢◌, List, ℕ, suc, ◌≤◌, ◌<◌, length, get_or}
use Rattle.refusal.specs.Answer.{done_with}
use Rattle.ticket.specs.Laws.{Allowed, Bytes}
use Rattle.ticket.specs.Reading.{shown}
use Rattle.ticket.specs.declared.Ticket.{Ticket}
use Rattle.boxes.specs.Boxes.{hidden, boxes_of}
use Rattle.placement.specs.Placement.{byte_of, pixel_in, Placed, source_page, output_page}
use Rattle.placement.specs.declared.Placement.{Placement}
use Rattle.placement.specs.declared.Placements.{Placements}
use Rattle.filter.specs.Filters.{opening, closing}
use Rattle.job.specs.Order.{line_of}
use Rattle.job.specs.Job.{finished_with, answer, output_after}
use Rattle.judging.specs.declared.Lengths.{Lengths}
use Rattle.demands.specs.Near.{step_at, on_page, FewerSteps, Near}

-- "operations 3 and 4": "3 open, 4 close"
abbrev pub OpensOrCloses : Ticket → Type 0
OpensOrCloses t = (t.operation ≡ opening) ⊎ (t.operation ≡ closing)

-- "a pixel and all steps up to L-1 on both sides of it are on the page and in no box": the steps are counted from 0, so
-- the L-1 steps before the pixel are there if it stands at step L-1 or later
pub record Clear (t : Ticket) (p : Placement) (c r : ℕ) : Type 0 where
  pub column : c < p.width
  pub row : r < p.height
  pub steps_before : t.length ≤ suc (step_at (line_of t) c r)
  pub on_page_lem : (s : ℕ) → FewerSteps t.length (step_at (line_of t) c r) s → on_page (line_of t) p c r s ≡ true
  pub in_no_box : (c' r' : ℕ) → Near t p c r c' r' → hidden (boxes_of t) c' r' ≡ false

-- step s of the line through column c, row r is a near pixel
pub record NearAt (t : Ticket) (p : Placement) (c r s : ℕ) : Type 0 where
  pub column : ℕ
  pub row : ℕ
  pub near : Near t p c r column row
  pub at : near.step ≡ s

-- The steps up to L-1 on both sides of a clear pixel are all near pixels, so nothing is left out where the reach is
-- said to be exact at these.
abbrev pub ClearSteps : Type 0
ClearSteps =
    (t : Ticket) (p : Placement) (c r : ℕ) → Allowed t → Clear t p c r
    → (s : ℕ) → FewerSteps t.length (step_at (line_of t) c r) s → NearAt t p c r s

-- "two pages exist that differ only there and give that pixel different results": two trays of n bytes that differ at
-- one byte at most, that of column c', row r', and the results at column c, row r, whatever white is; greys 0 and 1
-- will do
pub record Matters (t : Ticket) (p : Placement) (n c r c' r' : ℕ) : Type 0 where
  pub one : List ℕ
  pub two : List ℕ
  pub one_length : length one ≡ n
  pub two_length : length two ≡ n
  pub one_small : (i : ℕ) → get_or one i 0 ≤ 1
  pub two_small : (i : ℕ) → get_or two i 0 ≤ 1
  pub same_elsewhere : (i : ℕ) → i ≢ byte_of p c' r' → get_or one i 0 ≡ get_or two i 0
  pub results_differ : (white : ℕ) → finished_with white t p one c r ≢ finished_with white t p two c r

-- THE REACH IS EXACT: for a ticket that was read and a page that fits its tray, each near pixel matters to a clear one.
abbrev pub ExactReach : Type 0
ExactReach =
    (t : Ticket) (p : Placement) (n c r : ℕ) → Allowed t → OpensOrCloses t → Placed p n → Clear t p c r
    → (c' r' : ℕ) → Near t p c r c' r' → Matters t p n c r c' r'

-- the same two pages as jobs: what stands at column c, row r of the output page differs, whatever the output trays and
-- the scratches held
pub record JobMatters (ticket : List ℕ) (p : Placements) (n : Lengths) (c r c' r' : ℕ) : Type 0 where
  pub pages : Matters (shown ticket) (source_page p) n.source c r c' r'
  pub outputs_differ :
      (out out' scratch scratch' : List ℕ) → length out ≡ n.output → length out' ≡ n.output
      → length scratch ≡ n.scratch
      → length scratch' ≡ n.scratch
      → pixel_in (output_after ticket p pages.one out scratch) (output_page p) c r
      ≢ pixel_in (output_after ticket p pages.two out' scratch') (output_page p) c r

-- The reach is exact, of the job: for every ticket, placement and lengths that no refusal meets.
abbrev pub ExactJobReach : Type 0
ExactJobReach =
    (ticket : List ℕ) (p : Placements) (n : Lengths) (work c r : ℕ) → Bytes ticket → answer ticket p n ≡ done_with work
    → OpensOrCloses (shown ticket) → Clear (shown ticket) (source_page p) c r
    → (c' r' : ℕ) → Near (shown ticket) (source_page p) c r c' r' → JobMatters ticket p n c r c' r'
