-- Document 02, wish 2: "Flipping the page and its boxes (top to bottom for a shallow vector, left to right for a steep
-- one) and negating the minor component then flips the result." Said of the finished page, of the job and of the job
-- on a file, for every ticket that was read: all operations, both kinds of line, every phase and origin.
-- Assumes nothing.
use Rattle.std.specs.Prelude.{◌≡◌, Bool, true, false, not, cond, List, map, ℕ, ◌+◌, ◌-◌, ◌<◌, pos, length, get_or}
use Rattle.vectors.specs.Vector.{minor_of}
use Rattle.geometry.specs.Drift.{mirrored}
use Rattle.geometry.specs.Flip.{flipped}
use Rattle.refusal.specs.Answer.{is_done, done_with}
use Rattle.fields.specs.Vectors.{vector_allowed, phase_allowed}
use Rattle.ticket.specs.Judging.{judged}
use Rattle.ticket.specs.Reading.{periodic_kind}
use Rattle.ticket.specs.Laws.{Allowed, Bytes}
use Rattle.ticket.specs.Reading.{shown}
use Rattle.ticket.specs.declared.HiddenBox.{HiddenBox}
use Rattle.ticket.specs.declared.Ticket.{Ticket}
use Rattle.boxes.specs.Boxes.{hidden, boxes_of, box_allowed}
use Rattle.placement.specs.Placement.{pixel_in, source_page, output_page}
use Rattle.placement.specs.declared.Placement.{Placement}
use Rattle.placement.specs.declared.Placements.{Placements}
use Rattle.filter.specs.Seen.{runs_steep}
use Rattle.job.specs.Order.{line_of}
use Rattle.job.specs.Job.{finished_with, job_work, answer, lengths, output_after}
use Rattle.judging.specs.declared.Lengths.{Lengths}
use Rattle.file.specs.FileJob.{header, file_answer, file_output_after}
use Rattle.demands.specs.Files.{source_of, output_of}

-- ---- what is flipped

-- where a pixel comes to lie on the flipped page: "left to right for a steep" vector,
abbrev pub flipped_column : Ticket → ℕ → ℕ → ℕ
flipped_column t width c = mirrored (runs_steep (line_of t)) width c

-- and "top to bottom for a shallow" one
abbrev pub flipped_row : Ticket → ℕ → ℕ → ℕ
flipped_row t height r = mirrored (not (runs_steep (line_of t))) height r

-- a box that lies on the page: what is past its far edge comes to lie before it
unfoldable pub flipped_box : Bool → ℕ → ℕ → HiddenBox → HiddenBox
flipped_box steep width height b =
    record {
      left = cond steep (width - (b.left + b.width)) b.left;
      top = cond steep b.top (height - (b.top + b.height));
      width = b.width;
      height = b.height;
    }

-- every box lies on the page, as it must where refusal 14 is not given
abbrev pub OnPage : ℕ → ℕ → List HiddenBox → Type 0
OnPage width height boxes =
    (i : ℕ) (d : HiddenBox) → i < length boxes → box_allowed width height (get_or boxes i d) ≡ true

-- the second ticket is the first for the flipped page: "negating the minor component", with its boxes flipped; kind and
-- phase of the line, operation, length and origin are the first one's
pub record FlippedTicket (width height : ℕ) (t t' : Ticket) : Type 0 where
  pub operation : t'.operation ≡ t.operation
  pub line : line_of t' ≡ flipped (line_of t)
  pub length : t'.length ≡ t.length
  pub origin : t'.origin ≡ t.origin
  pub boxes : boxes_of t' ≡ map (flipped_box (runs_steep (line_of t)) width height) (boxes_of t)

-- the second page, wherever it stands in its tray, is the first one flipped, as far as no box hides it
pub record FlippedSource (t : Ticket) (p p' : Placement) (tray tray' : List ℕ) : Type 0 where
  pub same_width : p'.width ≡ p.width
  pub same_height : p'.height ≡ p.height
  pub pixels :
      (c r : ℕ) → c < p.width → r < p.height → hidden (boxes_of t) c r ≡ false
      → pixel_in tray' p' (flipped_column t p.width c) (flipped_row t p.height r) ≡ pixel_in tray p c r

-- ---- what it does

-- THE FLIP, of the finished page: filtered with the flipped ticket, the flipped page comes out as the first page's
-- result, flipped, whatever white is.
abbrev pub FlippedPage : Type 0
FlippedPage =
    (white : ℕ) (t t' : Ticket) (p p' : Placement) (tray tray' : List ℕ) → Allowed t
    → OnPage p.width p.height (boxes_of t) → FlippedTicket p.width p.height t t'
    → FlippedSource t p p' tray tray'
    → (c r : ℕ) → c < p.width → r < p.height
    → finished_with white t' p' tray' (flipped_column t p.width c) (flipped_row t p.height r)
    ≡ finished_with white t p tray c r

-- The flipped ticket costs as many comparisons, on a page of the same sides.
abbrev pub FlippedWork : Type 0
FlippedWork =
    (t t' : Ticket) (w h : ℕ) → Allowed t → FlippedTicket w h t t' → job_work t' w h ≡ job_work t w h

-- Where a job is finished, so is the job with the flipped ticket, if that is read, at the same placements and lengths,
-- and with the same work: nothing that is refused comes in by flipping.
abbrev pub FlippedAnswer : Type 0
FlippedAnswer =
    (ticket ticket' : List ℕ) (p : Placements) (n : Lengths) (work : ℕ) → Bytes ticket
    → answer ticket p n ≡ done_with work → is_done (judged ticket') ≡ true
    → FlippedTicket p.width p.height (shown ticket) (shown ticket') → answer ticket' p n ≡ done_with work

-- THE FLIP, of the job: two jobs that are finished, each at its own placements, with pages that are flips of one
-- another in their source trays and the boxes flipped in the ticket. What they leave in their output trays are flips of
-- one another, whatever the output trays and the scratches held,
abbrev pub FlippedJob : Type 0
FlippedJob =
    (ticket ticket' : List ℕ) (p p' : Placements) (source source' out out' scratch scratch' : List ℕ) (work work' : ℕ)
    → Bytes ticket → answer ticket p (lengths source out scratch) ≡ done_with work
    → answer ticket' p' (lengths source' out' scratch') ≡ done_with work'
    → FlippedTicket p.width p.height (shown ticket) (shown ticket')
    → FlippedSource (shown ticket) (source_page p) (source_page p') source source'
    → (c r : ℕ) → c < p.width → r < p.height
    → pixel_in (output_after ticket' p' source' out' scratch') (output_page p')
    (flipped_column (shown ticket) p.width c) (flipped_row (shown ticket) p.height r)
    ≡ pixel_in (output_after ticket p source out scratch) (output_page p) c r

-- and their work is the same.
abbrev pub FlippedJobWork : Type 0
FlippedJobWork =
    (ticket ticket' : List ℕ) (p p' : Placements) (n n' : Lengths) (work work' : ℕ) → Bytes ticket
    → answer ticket p n ≡ done_with work → answer ticket' p' n' ≡ done_with work'
    → FlippedTicket p.width p.height (shown ticket) (shown ticket')
    → p'.width ≡ p.width → p'.height ≡ p.height → work' ≡ work

-- The flip, of jobs on P5 files with one maximum: their pages once read are flips of one another, and so are the pages
-- that are written; their work is the same.
abbrev pub FlippedFile : Type 0
FlippedFile =
    (ticket ticket' file file' out out' scratch scratch' : List ℕ) (work work' : ℕ) → Bytes ticket
    → file_answer ticket file (lengths file out scratch) ≡ done_with work
    → file_answer ticket' file' (lengths file' out' scratch') ≡ done_with work'
    → FlippedTicket (header file).width (header file).height (shown ticket) (shown ticket')
    → FlippedSource (shown ticket) (source_of file) (source_of file') file file'
    → (header file').maximum ≡ (header file).maximum
    → (c r : ℕ) → c < (header file).width → r < (header file).height
    → pixel_in (file_output_after ticket' file' out' scratch') (output_of file')
    (flipped_column (shown ticket) (header file).width c) (flipped_row (shown ticket) (header file).height r)
    ≡ pixel_in (file_output_after ticket file out scratch) (output_of file) c r

abbrev pub FlippedFileWork : Type 0
FlippedFileWork =
    (ticket ticket' file file' : List ℕ) (n n' : Lengths) (work work' : ℕ) → Bytes ticket
    → file_answer ticket file n ≡ done_with work → file_answer ticket' file' n' ≡ done_with work'
    → FlippedTicket (header file).width (header file).height (shown ticket) (shown ticket')
    → (header file').width ≡ (header file).width → (header file').height ≡ (header file).height → work' ≡ work

-- ---- a flipped ticket is what it should be

-- its vector and its phase are those that the reader takes,
abbrev pub FlippedVector : Type 0
FlippedVector =
    (t t' : Ticket) (w h : ℕ) → Allowed t → FlippedTicket w h t t'
    → (vector_allowed (periodic_kind t'.line) t'.dx t'.dy ≡ true)
    × (phase_allowed (periodic_kind t'.line) t'.dx t'.dy t'.phase ≡ true)

-- its boxes lie on the page,
abbrev pub FlippedBoxes : Type 0
FlippedBoxes =
    (t t' : Ticket) (w h : ℕ) → OnPage w h (boxes_of t) → FlippedTicket w h t t' → OnPage w h (boxes_of t')

-- flipped again, it is the first ticket,
abbrev pub FlippedBack : Type 0
FlippedBack =
    (t t' : Ticket) (w h : ℕ) → Allowed t → OnPage w h (boxes_of t) → FlippedTicket w h t t' → FlippedTicket w h t' t

-- and a level line is its own negation.
abbrev pub LevelLine : Type 0
LevelLine = (t : Ticket) → minor_of t.dx t.dy ≡ pos 0 → flipped (line_of t) ≡ line_of t
