-- Which pixels are near a pixel: those of its own line fewer than L steps away, on the page. Document 01, 'Lines':
-- "Each pixel lies on one line. Its in_page_lem pixels are consecutive steps". The reach (Reach) and its exactness (Exact)
-- are stated over this one nearness.
-- A pixel at M of the axis along which its line runs, and at m of the other, stands at step step_of l M of its line;
-- step s of that line is at major_at l M s of the first axis and lands on landing l m (step_of l M) s of the other
-- (geometry, Line).
-- Assumes nothing.
use Rattle.std.specs.Prelude.{◌≡◌, Bool, true, ℕ, ◌+◌, ◌<◌}
use Rattle.std.proofs.Math.Option.{some}
use Rattle.geometry.specs.Line.{landing, step_of, major_at}
use Rattle.geometry.specs.Number.{in_page}
use Rattle.geometry.specs.declared.Line.{Line}
use Rattle.ticket.specs.Laws.{Allowed}
use Rattle.ticket.specs.declared.Ticket.{Ticket}
use Rattle.placement.specs.declared.Placement.{Placement}
use Rattle.tray.specs.Turned.{down_of, across_of}
use Rattle.filter.specs.Seen.{runs_steep}
use Rattle.job.specs.Order.{line_of}

-- a pixel's place along the major axis (the columns of a shallow line, the rows of a steep one), and along the other
abbrev pub major_place : Line → ℕ → ℕ → ℕ
major_place l c r = down_of (runs_steep l) c r

abbrev pub minor_place : Line → ℕ → ℕ → ℕ
minor_place l c r = across_of (runs_steep l) c r

-- the step of its line at which the pixel at column c, row r stands
abbrev pub step_at : Line → ℕ → ℕ → ℕ
step_at l c r = step_of l (major_place l c r)

-- the line through column c, row r is at column c', row r' at its step s
pub record IsStep (l : Line) (c r s c' r' : ℕ) : Type 0 where
  pub along : major_at l (major_place l c r) s ≡ major_place l c' r'
  pub across : landing l (minor_place l c r) (step_at l c r) s ≡ some (minor_place l c' r')

-- whether step s of the line through column c, row r is in the page
abbrev pub on_page : Line → Placement → ℕ → ℕ → ℕ → Bool
on_page l p c r s =
    in_page l (major_place l p.width p.height) (minor_place l p.width p.height) (major_place l c r)
    (minor_place l c r) s

-- step s' of a line is fewer than L steps from its step s: the step itself is, and L-1 steps on both sides
pub record FewerSteps (L s s' : ℕ) : Type 0 where
  pub back : s < s' + L
  pub on : s' < s + L

-- NEAR: the pixel at column c', row r' is a step of the line through column c, row r, on the page, fewer than L steps
-- away. It may be hidden.
pub record Near (t : Ticket) (p : Placement) (c r c' r' : ℕ) : Type 0 where
  pub step : ℕ
  pub fewer : FewerSteps t.length (step_at (line_of t) c r) step
  pub on_page_lem : on_page (line_of t) p c r step ≡ true
  pub is_step : IsStep (line_of t) c r step c' r'

-- ---- Near says what it should, for a ticket that was read

-- near pixels are pixels of the page,
abbrev pub NearIn : Type 0
NearIn =
    (t : Ticket) (p : Placement) (c r c' r' : ℕ) → Near t p c r c' r' → (c' < p.width) × (r' < p.height)

-- a pixel is near itself,
abbrev pub NearSelf : Type 0
NearSelf = (t : Ticket) (p : Placement) (c r : ℕ) → Allowed t → c < p.width → r < p.height → Near t p c r c r

-- each is as many steps away as its own step says,
abbrev pub NearStep : Type 0
NearStep =
    (t : Ticket) (p : Placement) (c r c' r' : ℕ) → Allowed t → (n : Near t p c r c' r')
    → step_at (line_of t) c' r' ≡ n.step

-- and nearness goes both ways.
abbrev pub NearBack : Type 0
NearBack =
    (t : Ticket) (p : Placement) (c r c' r' : ℕ) → Allowed t → c < p.width → r < p.height → Near t p c r c' r'
    → Near t p c' r' c r
