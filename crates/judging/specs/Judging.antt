-- Document 01, 'Refusals and what they return', 10 to 14: each is a test of its own, and of all the first refusal
-- counts.
-- Assumes nothing.
use Rattle.std.specs.Prelude.{ℕ, suc, ◌&&◌, List, [], ◌∷◌, leb}
use Rattle.refusal.specs.Answer.{Answer, done_with}
use Rattle.refusal.specs.Chain.{unless, ◌then◌}
use Rattle.refusal.specs.declared.Refusal.TheVariants.{BadSides, SourceTooShort, OutputTooShort, ScratchTooShort}
use Rattle.refusal.specs.declared.Refusal.TheVariants.{BadBox}
use Rattle.ticket.specs.declared.HiddenBox.{HiddenBox}
use Rattle.ticket.specs.declared.Ticket.{Ticket}
use Rattle.boxes.specs.Boxes.{boxes_of, box_allowed}
use Rattle.placement.specs.Placement.{allowed, fits, source_page, output_page, scratch_needed}
use Rattle.placement.specs.declared.Placements.{Placements}
use Rattle.judging.specs.Pages.{pages_of}
use Rattle.judging.specs.declared.Lengths.{Lengths}

-- | 10 | w, h or a stride beyond its limits | 0 |
unfoldable pub judge_sides : Placements → Answer
judge_sides p = unless (allowed (source_page p) && allowed (output_page p)) BadSides 0

-- | 11 | source page doesn't fit its tray | 0 |
unfoldable pub judge_source : Placements → ℕ → Answer
judge_source p length = unless (fits (source_page p) length) SourceTooShort 0

-- | 12 | output page doesn't fit its tray | 0 |
unfoldable pub judge_output : Placements → ℕ → Answer
judge_output p length = unless (fits (output_page p) length) OutputTooShort 0

-- | 13 | scratch too short | 0 |: it must hold so many pages w by h
unfoldable pub judge_scratch : ℕ → ℕ → ℕ → ℕ → Answer
judge_scratch pages w h length = unless (leb (scratch_needed pages w h) length) ScratchTooShort 0

-- | 14 | box with a zero side or passing the page's edge | box number from 0 |, "over the boxes in order": from the
-- k-th box on
unfoldable pub judge_page_boxes_from : ℕ → ℕ → ℕ → List HiddenBox → Answer
judge_page_boxes_from w h k [] = done_with 0
judge_page_boxes_from w h k (b ∷ boxes) =
    unless (box_allowed w h b) BadBox k then judge_page_boxes_from w h (suc k) boxes

unfoldable pub judge_page_boxes : ℕ → ℕ → List HiddenBox → Answer
judge_page_boxes w h boxes = judge_page_boxes_from w h 0 boxes

-- "Then 10, 11, 12, 13, and 14 over the boxes in order."
unfoldable pub judge_places : Ticket → Placements → Lengths → Answer
judge_places t p n =
    judge_sides p
    then judge_source p n.source
    then judge_output p n.output
    then judge_scratch (pages_of t) p.width p.height n.scratch
    then judge_page_boxes p.width p.height (boxes_of t)
