-- Document 02, wish 4: "Given a job and a pixel, name the reason". "The tool is proved to name the true reason and the
-- first one". Said of what is told (why, Told), over the words of a job: its answer, its output tray, the finished page
-- of a ticket, and the steps of a line (Near). No pass of a filter and no search is named.
-- Assumes nothing.
use Rattle.std.specs.Prelude.{◌≡◌, true, false, ◌⊎◌, List, ℕ, ◌-◌, ◌≤◌, ◌<◌, length, get_or, Result, Err}
use Rattle.refusal.specs.Answer.{number_of, is_done, done_with, refused_at, answer_in}
use Rattle.refusal.specs.declared.Later.TheVariants.{PixelOffPage}
use Rattle.refusal.specs.declared.Refusal.{Refusal}
use Rattle.refusal.specs.declared.Refusal.TheVariants.{Later}
use Rattle.refusal.specs.declared.Refused.{Refused}
use Rattle.ticket.specs.Laws.{Bytes}
use Rattle.ticket.specs.Reading.{shown}
use Rattle.ticket.specs.declared.HiddenBox.{HiddenBox}
use Rattle.ticket.specs.declared.Operation.{Operation}
use Rattle.ticket.specs.declared.Ticket.{Ticket}
use Rattle.boxes.specs.Boxes.{hidden, boxes_of}
use Rattle.boxes.specs.Laws.{InBox}
use Rattle.placement.specs.Placement.{pixel_in, source_page, output_page}
use Rattle.placement.specs.declared.Placement.{Placement}
use Rattle.placement.specs.declared.Placements.{Placements}
use Rattle.filter.specs.Filters.{erosion, dilation, opening, closing}
use Rattle.filter.specs.Windows.{InWindow}
use Rattle.job.specs.Order.{line_of}
use Rattle.job.specs.Job.{finished, answer, lengths, output_after}
use Rattle.nearby.specs.declared.Pixel.{Pixel}
use Rattle.why.specs.Reason.{hidden_box, one_pass, two_passes, without_steps}
use Rattle.why.specs.Told.{told, reason_told}
use Rattle.why.specs.declared.Reason.{Reason}
use Rattle.demands.specs.Near.{step_at, on_page, IsStep}
use Rattle.demands.specs.Reach.{AgreeNear}

-- what is told of a pixel of the job on these trays
abbrev pub told_of : List ℕ → Placements → List ℕ → List ℕ → List ℕ → Pixel → Result Reason Refused
told_of ticket p source out scratch at = told ticket p source (length out) (length scratch) at

-- the pixel that the job makes of it
abbrev pub came_out : List ℕ → Placements → List ℕ → List ℕ → List ℕ → Pixel → ℕ
came_out ticket p source out scratch at =
    pixel_in (output_after ticket p source out scratch) (output_page p) at.column at.row

-- a pixel off the page, and one of it
abbrev pub PixelOff : Placements → Pixel → Type 0
PixelOff p at = (p.width ≤ at.column) ⊎ (p.height ≤ at.row)

pub record PixelOn (p : Placements) (at : Pixel) : Type 0 where
  pub column : at.column < p.width
  pub row : at.row < p.height

-- ---- refusals

-- Where the job is refused the question is, alike, and no reason is told.
abbrev pub WhyRefused : Type 0
WhyRefused =
    (ticket : List ℕ) (p : Placements) (source out scratch : List ℕ) (at : Pixel) (refusal : Refusal) (place : ℕ)
    → answer ticket p (lengths source out scratch) ≡ refused_at refusal place
    → told_of ticket p source out scratch at ≡ Err (record { refusal = refusal; at = place })

-- "Refusals: 19, pixel off the page, after 14, place 0.": where nothing before it is refused and the pixel is off the
-- page,
abbrev pub WhyOffPage : Type 0
WhyOffPage =
    (ticket : List ℕ) (p : Placements) (source out scratch : List ℕ) (work : ℕ) (at : Pixel)
    → answer ticket p (lengths source out scratch) ≡ done_with work
    → PixelOff p at
    → told_of ticket p source out scratch at ≡ Err (record { refusal = Later PixelOffPage; at = 0 })

-- and only there;
abbrev pub WhyNineteen : Type 0
WhyNineteen =
    (ticket : List ℕ) (p : Placements) (source out scratch : List ℕ) (at : Pixel)
    → number_of (answer_in (told_of ticket p source out scratch at)) ≡ 19
    → (is_done (answer ticket p (lengths source out scratch)) ≡ true) × PixelOff p at

-- of every pixel of the page of a finished job a reason is told, with no work.
abbrev pub WhyDone : Type 0
WhyDone =
    (ticket : List ℕ) (p : Placements) (source out scratch : List ℕ) (work : ℕ) (at : Pixel)
    → answer ticket p (lengths source out scratch) ≡ done_with work
    → PixelOn p at
    → answer_in (told_of ticket p source out scratch at) ≡ done_with 0

-- ---- "For a hidden pixel, the first box that holds it."

-- the reason is a box, by its number from 0: it holds the pixel and none before it does
pub record ByBox (t : Ticket) (at : Pixel) (reason : Reason) : Type 0 where
  pub is_box : reason ≡ without_steps hidden_box reason.number
  pub below : reason.number < length (boxes_of t)
  pub holds : (d : HiddenBox) → InBox (get_or (boxes_of t) reason.number d) at.column at.row
  pub first : (k : ℕ) (d : HiddenBox) → k < reason.number → InBox (get_or (boxes_of t) k d) at.column at.row → ⊥

abbrev pub WhyBox : Type 0
WhyBox =
    (ticket : List ℕ) (p : Placements) (source out scratch : List ℕ) (work : ℕ) (at : Pixel)
    → answer ticket p (lengths source out scratch) ≡ done_with work
    → PixelOn p at
    → hidden (boxes_of (shown ticket)) at.column at.row ≡ true
    → ByBox (shown ticket) at (reason_told (told_of ticket p source out scratch at))

-- ---- the first unhidden step that has the result

-- step s of the window of `at` that begins `back` steps before it is the pixel `to`, on the page, unhidden, and there a
-- page, by column and row, has the grey w
pub record Gives (t : Ticket) (p : Placement) (page : ℕ → ℕ → ℕ) (back w : ℕ) (at : Pixel) (s : ℕ) (to : Pixel)
    : Type 0 where
  pub in_window : InWindow back t.length (step_at (line_of t) at.column at.row) s
  pub on_page_lem : on_page (line_of t) p at.column at.row s ≡ true
  pub is_step : IsStep (line_of t) at.column at.row s to.column to.row
  pub unhidden : hidden (boxes_of t) to.column to.row ≡ false
  pub grey : page to.column to.row ≡ w

-- NAMES: `to` is the first such step: no earlier step of the window is another
pub record Names (t : Ticket) (p : Placement) (page : ℕ → ℕ → ℕ) (back w : ℕ) (at to : Pixel) : Type 0 where
  pub step : ℕ
  pub gives : Gives t p page back w at step to
  pub first : (s : ℕ) (other : Pixel) → s < step → Gives t p page back w at s other → ⊥

-- A window names one pixel at most, so these words leave no choice.
abbrev pub NamesOne : Type 0
NamesOne =
    (t : Ticket) (p : Placement) (page : ℕ → ℕ → ℕ) (back w : ℕ) (at to to' : Pixel) → Names t p page back w at to
    → Names t p page back w at to'
    → to ≡ to'

-- how many steps before its pixel a window begins. "Erosion at step x is the minimum over steps x-o to x-o+L-1.",
abbrev pub erosion_back : Ticket → ℕ
erosion_back t = t.origin

-- "Dilation is the maximum over steps x-(L-1-o) to x+o."
abbrev pub dilation_back : Ticket → ℕ
dilation_back t = t.length - 1 - t.origin

-- "for one pass, the first unhidden step in the window whose value is the result": w is the result, `page` the source
pub record ByOnePass (t : Ticket) (p : Placement) (page : ℕ → ℕ → ℕ) (back w : ℕ) (at : Pixel) (reason : Reason)
    : Type 0 where
  pub kind : reason.kind ≡ one_pass
  pub number : reason.number ≡ 0
  pub phase : reason.phase ≡ t.phase
  pub through : reason.through ≡ at
  pub from : Names t p page back w at reason.from

-- "for two passes, the first unhidden step of the second window that gives the result, then the first unhidden step in
-- that one's own window that gave it": `between` is the page after the first pass
pub record ByTwoPasses (t : Ticket) (p : Placement) (page between : ℕ → ℕ → ℕ) (back second w : ℕ) (at : Pixel)
    (reason : Reason) : Type 0 where
  pub kind : reason.kind ≡ two_passes
  pub number : reason.number ≡ 0
  pub phase : reason.phase ≡ t.phase
  pub through : Names t p between second w at reason.through
  pub from : Names t p page back w reason.through reason.from

-- an unhidden pixel of the page of a finished job. Of the ticket it is used that it is bytes, as every ticket is.
pub record Unhidden (ticket : List ℕ) (p : Placements) (source out scratch : List ℕ) (at : Pixel) : Type 0 where
  pub bytes : Bytes ticket
  pub work : ℕ
  pub done : answer ticket p (lengths source out scratch) ≡ done_with work
  pub on : PixelOn p at
  pub unhidden : hidden (boxes_of (shown ticket)) at.column at.row ≡ false

-- Erosion and dilation: what is named has in the source the pixel that came out.
abbrev pub WhyErosion : Type 0
WhyErosion =
    (ticket : List ℕ) (p : Placements) (source out scratch : List ℕ) (at : Pixel)
    → Unhidden ticket p source out scratch at
    → (shown ticket).operation ≡ erosion
    → ByOnePass (shown ticket) (source_page p) (pixel_in source (source_page p)) (erosion_back (shown ticket))
    (came_out ticket p source out scratch at) at (reason_told (told_of ticket p source out scratch at))

abbrev pub WhyDilation : Type 0
WhyDilation =
    (ticket : List ℕ) (p : Placements) (source out scratch : List ℕ) (at : Pixel)
    → Unhidden ticket p source out scratch at
    → (shown ticket).operation ≡ dilation
    → ByOnePass (shown ticket) (source_page p) (pixel_in source (source_page p)) (dilation_back (shown ticket))
    (came_out ticket p source out scratch at) at (reason_told (told_of ticket p source out scratch at))

-- the same ticket with another operation
unfoldable pub ordering : Operation → Ticket → Ticket
ordering operation t =
    record {
      operation = operation;
      line = t.line;
      dx = t.dx;
      dy = t.dy;
      length = t.length;
      origin = t.origin;
      phase = t.phase;
      count = t.count;
      boxes = t.boxes;
    }

-- "Opening erodes, then dilates the eroded page": the eroded page is the finished page of the same ticket that orders
-- an erosion,
abbrev pub WhyOpening : Type 0
WhyOpening =
    (ticket : List ℕ) (p : Placements) (source out scratch : List ℕ) (at : Pixel)
    → Unhidden ticket p source out scratch at
    → (shown ticket).operation ≡ opening
    → ByTwoPasses (shown ticket) (source_page p) (pixel_in source (source_page p))
    (finished (ordering erosion (shown ticket)) (source_page p) source) (erosion_back (shown ticket))
    (dilation_back (shown ticket)) (came_out ticket p source out scratch at) at
    (reason_told (told_of ticket p source out scratch at))

-- "closing does the reverse".
abbrev pub WhyClosing : Type 0
WhyClosing =
    (ticket : List ℕ) (p : Placements) (source out scratch : List ℕ) (at : Pixel)
    → Unhidden ticket p source out scratch at
    → (shown ticket).operation ≡ closing
    → ByTwoPasses (shown ticket) (source_page p) (pixel_in source (source_page p))
    (finished (ordering dilation (shown ticket)) (source_page p) source) (dilation_back (shown ticket))
    (erosion_back (shown ticket)) (came_out ticket p source out scratch at) at
    (reason_told (told_of ticket p source out scratch at))

-- ---- "It may depend on what demand 3 allows for that pixel."

-- The answer depends on no byte of the source: ticket, placements, lengths and the pixel alone decide it,
abbrev pub WhySame : Type 0
WhySame =
    (ticket : List ℕ) (p : Placements) (source source' : List ℕ) (output scratch : ℕ) (at : Pixel)
    → length source ≡ length source'
    → answer_in (told ticket p source output scratch at) ≡ answer_in (told ticket p source' output scratch at)

-- and where it is a refusal, all that is told.
abbrev pub WhySameRefused : Type 0
WhySameRefused =
    (ticket : List ℕ) (p : Placements) (source source' : List ℕ) (output scratch : ℕ) (at : Pixel)
    → length source ≡ length source'
    → is_done (answer_in (told ticket p source output scratch at)) ≡ false
    → told ticket p source output scratch at ≡ told ticket p source' output scratch at

-- THE REACH of a question, for every ticket, every placement and every pixel: where two sources agree on the unhidden
-- pixels near the pixel the same is told, whatever else they hold. Output tray and scratch count by their lengths only.
-- Of the ticket it is used that it is bytes.
abbrev pub WhyReach : Type 0
WhyReach =
    (ticket : List ℕ) (p : Placements) (source source' : List ℕ) (output scratch : ℕ) (at : Pixel) → Bytes ticket
    → length source ≡ length source'
    → AgreeNear (shown ticket) (source_page p) source source' at.column at.row
    → told ticket p source output scratch at ≡ told ticket p source' output scratch at
