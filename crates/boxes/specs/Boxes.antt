-- The hidden boxes of a ticket: what a box covers, what a list of boxes hides, and which boxes a page allows.
-- Document 01, 'The four filters': "Steps off the page and hidden pixels are absent."
-- Assumes nothing.
use Rattle.std.specs.Prelude.{ℕ, ◌+◌, Bool, false, not, ◌&&◌, ◌||◌, List, [], ◌∷◌, take, leb, ltb}
use Rattle.ticket.specs.declared.HiddenBox.{HiddenBox}
use Rattle.ticket.specs.declared.Ticket.{Ticket}
use Rattle.boxes.specs.declared.Question.{Question}
use Rattle.boxes.specs.declared.Question.TheVariants.{Holds, NotAllowed}

-- "hidden box: left, top, width, height"
unfoldable pub covers : HiddenBox → ℕ → ℕ → Bool
covers b c r = (leb b.left c && ltb c (b.left + b.width)) && (leb b.top r && ltb r (b.top + b.height))

-- whether one of the boxes hides the pixel at column c, row r
unfoldable pub hidden : List HiddenBox → ℕ → ℕ → Bool
hidden [] c r = false
hidden (b ∷ boxes) c r = covers b c r || hidden boxes c r

-- the boxes of a ticket, of its 64 places
unfoldable pub boxes_of : Ticket → List HiddenBox
boxes_of t = take t.count t.boxes

-- | 14 | box with a zero side or passing the page's edge |, over whole numbers
unfoldable pub box_allowed : ℕ → ℕ → HiddenBox → Bool
box_allowed w h b =
    (leb 1 b.width && leb 1 b.height) && (leb (b.left + b.width) w && leb (b.top + b.height) h)

-- what is asked of a box: whether it holds the pixel at column c, row r, or whether a page w by h does not allow it
unfoldable pub answers : Question → HiddenBox → Bool
answers (Holds c r) b = covers b c r
answers (NotAllowed w h) b = not (box_allowed w h b)
