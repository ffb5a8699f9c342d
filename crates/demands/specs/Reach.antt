-- Document 01, 'What answers may depend on': "A result pixel: these, and the unhidden pixels named in demand 3; a step
-- over a hidden pixel still counts as a step." Those are the unhidden pixels on the pixel's line fewer than L steps
-- away, for all four operations: also for opening and closing, whose two windows together reach L - 1 steps each way
-- and not 2(L - 1).
-- Assumes nothing.
use Rattle.std.specs.Prelude.{◌≡◌, true, false, List, ℕ, ◌<◌}
use Rattle.refusal.specs.Answer.{done_with}
use Rattle.ticket.specs.Laws.{Bytes}
use Rattle.ticket.specs.Reading.{shown}
use Rattle.ticket.specs.declared.Ticket.{Ticket}
use Rattle.boxes.specs.Boxes.{hidden, boxes_of}
use Rattle.placement.specs.Placement.{pixel_in, source_page, output_page}
use Rattle.placement.specs.declared.Placement.{Placement}
use Rattle.placement.specs.declared.Placements.{Placements}
use Rattle.job.specs.Job.{answer, lengths, output_after}
use Rattle.demands.specs.Same.{SameLengths}
use Rattle.demands.specs.Near.{Near}

-- two source trays agree on the unhidden pixels near the pixel at column c, row r
unfoldable pub AgreeNear : Ticket → Placement → List ℕ → List ℕ → ℕ → ℕ → Type 0
AgreeNear t p source source' c r =
    (c' r' : ℕ) → Near t p c r c' r'
    → hidden (boxes_of t) c' r' ≡ false
    → pixel_in source p c' r' ≡ pixel_in source' p c' r'

-- they agree on all unhidden pixels of the page
unfoldable pub AgreeOnPage : Ticket → Placement → List ℕ → List ℕ → Type 0
AgreeOnPage t p source source' =
    (c r : ℕ) → c < p.width → r < p.height → hidden (boxes_of t) c r ≡ false
    → pixel_in source p c r ≡ pixel_in source' p c r

-- THE REACH. Of two jobs with the same ticket and placements and with trays of the same lengths the first is finished
-- (so both are, by SameAnswer). Where the sources agree on the unhidden pixels near column c, row r, the output pages
-- have the same pixel there, whatever else the sources hold, and whatever stood in the output trays and the scratches.
-- Of the ticket it is used that it is bytes, as every ticket is.
abbrev pub Reach : Type 0
Reach =
    (ticket : List ℕ) (p : Placements) (source source' out out' scratch scratch' : List ℕ) (work : ℕ) → Bytes ticket
    → SameLengths source source' out out' scratch scratch' → answer ticket p (lengths source out scratch) ≡ done_with work
    → (c r : ℕ) → c < p.width → r < p.height → AgreeNear (shown ticket) (source_page p) source source' c r
    → pixel_in (output_after ticket p source out scratch) (output_page p) c r
    ≡ pixel_in (output_after ticket p source' out' scratch') (output_page p) c r

-- So padding between rows, other pages in the source tray and the bytes under the boxes count nowhere.
abbrev pub PageAlone : Type 0
PageAlone =
    (ticket : List ℕ) (p : Placements) (source source' out out' scratch scratch' : List ℕ) (work : ℕ) → Bytes ticket
    → SameLengths source source' out out' scratch scratch' → answer ticket p (lengths source out scratch) ≡ done_with work
    → AgreeOnPage (shown ticket) (source_page p) source source' → (c r : ℕ) → c < p.width → r < p.height
    → pixel_in (output_after ticket p source out scratch) (output_page p) c r
    ≡ pixel_in (output_after ticket p source' out' scratch') (output_page p) c r

-- "A hidden pixel comes out as 255 in every finished page."
abbrev pub HiddenWhite : Type 0
HiddenWhite =
    (ticket : List ℕ) (p : Placements) (source out scratch : List ℕ) (work : ℕ)
    → answer ticket p (lengths source out scratch) ≡ done_with work
    → (c r : ℕ) → c < p.width → r < p.height → hidden (boxes_of (shown ticket)) c r ≡ true
    → pixel_in (output_after ticket p source out scratch) (output_page p) c r ≡ 255
