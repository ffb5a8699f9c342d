-- Whether a ticket hides a pixel. Document 01, 'The ticket': "hidden box: left, top, width, height", and "The
-- hidden boxes are handed on as one lent list of boxes." The boxes are not held to a page: refusal 14 needs the
-- page's sides, and a ticket alone has none. So a box that passes the edge of some page still covers its pixels,
-- and one with a zero side covers none.
-- Assumes nothing.
use Rattle.std.specs.Prelude.{◌≡◌, ℕ, false, cond, List}
use Rattle.ticket.specs.Judging.{judged}
use Rattle.ticket.specs.Reading.{shown}
use Rattle.refusal.specs.Answer.{is_done, when_done}
use Rattle.refusal.specs.Chain.{when_refused}
use Rattle.boxes.specs.Boxes.{hidden, boxes_of}

-- 1 where a box of the ticket as read holds the pixel at column c, row r, else 0; a refused ticket shows no boxes
abbrev pub hidden_by : List ℕ → ℕ → ℕ → ℕ
hidden_by ticket c r = when_done (judged ticket) (cond (hidden (boxes_of (shown ticket)) c r) 1 0) 0

-- "at a refusal all fields and boxes are zero": a refused ticket has no boxes, and hides nothing
pub refused_hides_nothing : (ticket : List ℕ) (c r : ℕ) → is_done (judged ticket) ≡ false → hidden_by ticket c r ≡ 0
refused_hides_nothing ticket c r e =
    when_refused (judged ticket) (cond (hidden (boxes_of (shown ticket)) c r) 1 0) 0 e
