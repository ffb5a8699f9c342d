-- A ticket alone, as a row of numbers. Document 01, 'Refusals and what they return': "The ticket alone may be read
-- by a caller, with refusals 1 to 9; it shows 64 box places, zero past its boxes, and at a refusal all fields and
-- boxes are zero." The document does not say in which order the numbers stand, nor what becomes of a buffer that is
-- too short for them: both are decided here.
-- Assumes nothing.
use Rattle.std.specs.Prelude.{◌≡◌, ℕ, ◌-◌, ◌≤◌, cond, List, [], ◌∷◌, ◌++◌, length, drop, replicate, ltb, ℤ, pos, negsuc, nat_abs}
use Rattle.refusal.specs.Answer.{refused_at, when_done}
use Rattle.refusal.specs.declared.Later.TheVariants.{NumbersTooFew}
use Rattle.refusal.specs.declared.Refusal.TheVariants.{Later}
use Rattle.ticket.specs.Judging.{judged}
use Rattle.ticket.specs.Reading.{operation_number, line_number, shown}
use Rattle.ticket.specs.declared.HiddenBox.{HiddenBox}
use Rattle.ticket.specs.declared.Ticket.{Ticket}
use Rattle.showing.specs.Outcome.{outcome_of}
use Rattle.showing.specs.declared.Outcome.{Outcome}
use Rattle.showing.specs.declared.shown.Fields.{Fields}

-- a signed number in 64 bits, two's complement
unfoldable pub word_of : ℤ → ℕ
word_of (pos n) = n
word_of (negsuc n) = 18446744073709551615 - n

-- eight numbers, whatever they are, before the rest
abbrev pub fields_before : Fields → List ℕ → List ℕ
fields_before f rest =
    f.operation ∷ f.line ∷ word_of f.dx ∷ word_of f.dy ∷ f.length ∷ f.origin ∷ f.phase ∷ f.count ∷ rest

-- those of a ticket: its operation and its line have a number each
abbrev pub fields_of : Ticket → Fields
fields_of t =
    record {
      operation = operation_number t.operation;
      line = line_number t.line;
      dx = t.dx;
      dy = t.dy;
      length = t.length;
      origin = t.origin;
      phase = t.phase;
      count = t.count;
    }

abbrev pub field_numbers : Ticket → List ℕ → List ℕ
field_numbers t rest = fields_before (fields_of t) rest

-- four numbers a box
unfoldable pub box_numbers : List HiddenBox → List ℕ
box_numbers [] = []
box_numbers (b ∷ boxes) = b.left ∷ b.top ∷ b.width ∷ b.height ∷ box_numbers boxes

-- the fields, how many boxes there are, and 64 box places
abbrev pub numbers_in : Fields → List HiddenBox → List ℕ
numbers_in f places = fields_before f (box_numbers places)

-- and those of a ticket
abbrev pub numbers_of : Ticket → List ℕ
numbers_of t = field_numbers t (box_numbers t.boxes)

abbrev pub numbers_needed : ℕ
numbers_needed = 264

-- the numbers of a ticket that is read; "at a refusal all fields and boxes are zero"
unfoldable pub numbers_shown : List ℕ → List ℕ
numbers_shown ticket = when_done (judged ticket) (numbers_of (shown ticket)) (replicate numbers_needed 0)

-- refused for its length, with how many numbers are needed, where the buffer of n numbers is too short for them
unfoldable pub read_outcome : List ℕ → ℕ → Outcome
read_outcome ticket n =
    cond (ltb n numbers_needed) (outcome_of (refused_at (Later NumbersTooFew) numbers_needed))
    (outcome_of (judged ticket))

-- the buffer: too short a one is not written, and of a longer one the numbers past the 264th keep their values
unfoldable pub numbers_after : List ℕ → List ℕ → List ℕ
numbers_after ticket numbers =
    cond (ltb (length numbers) numbers_needed) numbers (numbers_shown ticket ++ drop numbers_needed numbers)

-- what is known of a ticket that is read, as its numbers are put
pub record Showable (t : Ticket) : Type 0 where
  pub dx_to : nat_abs t.dx ≤ 255
  pub dy_to : nat_abs t.dy ≤ 255
  pub count_to : t.count ≤ 64
  pub places : length t.boxes ≡ 64
