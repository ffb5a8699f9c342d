-- Document 01, 'Refusals and what they return': "Fields are judged one by one: head complete (1), tag (2), 65th box
-- (5), length (3), value complete (1), value (4, 6, 7, 8, 9)." The place of every refusal of a ticket is the head of
-- the field at fault: "The place of a head is its byte index; where bytes end before a head, it is the index where
-- the head would start." A judgement that finds nothing to refuse is done, with no work.
-- Assumes nothing.
use Rattle.std.specs.Prelude.{ℕ, zero, suc, ◌+◌, Bool, ◌&&◌, cond, List, length, ltb, leb, eqb}
use Rattle.refusal.specs.Answer.{Answer, done_with}
use Rattle.refusal.specs.Chain.{unless, ◌then◌}
use Rattle.refusal.specs.declared.Refusal.TheVariants.{TicketEnds, WrongTag, WrongLength, Unknown, TooManyBoxes}
use Rattle.refusal.specs.declared.Refusal.TheVariants.{BadVector, BadLength, BadOrigin, BadPhase}
use Rattle.fields.specs.Fields.{head_bytes, byte_at, number_at, operation_head, line_head, vector_head, length_head}
use Rattle.fields.specs.Fields.{origin_head, phase_head, first_box, field_end, most_boxes, operation_in, line_in}
use Rattle.fields.specs.Fields.{dx_in, dy_in, length_in, origin_in, phase_in}
use Rattle.fields.specs.Vectors.{vector_allowed, phase_allowed}

-- | 1 | ticket ends in a field, or before one of tags 1 to 6 |, | 2 | a tag other than the one due |
unfoldable pub judge_head : List ℕ → ℕ → ℕ → Answer
judge_head s at tag =
    unless (leb (at + head_bytes) (length s)) TicketEnds at
    then unless (eqb (byte_at s at) tag) WrongTag at

-- | 3 | wrong field length |, | 1 | ticket ends in a field |
unfoldable pub judge_size : List ℕ → ℕ → ℕ → Answer
judge_size s at size =
    unless (eqb (number_at s (at + 1)) size) WrongLength at
    then unless (leb (at + head_bytes + size) (length s)) TicketEnds at

unfoldable pub judge_field : List ℕ → ℕ → ℕ → ℕ → Answer
judge_field s at tag size = judge_head s at tag then judge_size s at size

-- | 4 | unknown operation or line |
unfoldable pub operation_known : ℕ → Bool
operation_known n = leb 1 n && leb n 4

unfoldable pub line_known : ℕ → Bool
line_known n = leb 1 n && leb n 2

-- a line of kind 2 is periodic
unfoldable pub is_periodic : ℕ → Bool
is_periodic n = eqb n 2

-- | 7 | L is 0 or above 8192 |
unfoldable pub length_allowed : ℕ → Bool
length_allowed l = leb 1 l && leb l 8192

-- | 8 | o not below L |
unfoldable pub origin_allowed : ℕ → ℕ → Bool
origin_allowed l o = ltb o l

-- the six fields that stand once
unfoldable pub judge_operation : List ℕ → Answer
judge_operation s =
    judge_field s operation_head 1 1
    then unless (operation_known (operation_in s)) Unknown operation_head

unfoldable pub judge_line : List ℕ → Answer
judge_line s = judge_field s line_head 2 1 then unless (line_known (line_in s)) Unknown line_head

unfoldable pub judge_vector : List ℕ → Answer
judge_vector s =
    judge_field s vector_head 3 4
    then unless (vector_allowed (is_periodic (line_in s)) (dx_in s) (dy_in s)) BadVector vector_head

unfoldable pub judge_length : List ℕ → Answer
judge_length s = judge_field s length_head 4 2 then unless (length_allowed (length_in s)) BadLength length_head

unfoldable pub judge_origin : List ℕ → Answer
judge_origin s =
    judge_field s origin_head 5 2
    then unless (origin_allowed (length_in s) (origin_in s)) BadOrigin origin_head

unfoldable pub judge_phase : List ℕ → Answer
judge_phase s =
    judge_field s phase_head 6 2
    then unless (phase_allowed (is_periodic (line_in s)) (dx_in s) (dy_in s) (phase_in s)) BadPhase phase_head

-- | 5 | a 65th box |, judged behind the tag and before the length; a box's numbers are judged with the page
unfoldable pub judge_box : List ℕ → ℕ → ℕ → Answer
judge_box s head k =
    judge_head s head 7 then unless (ltb k most_boxes) TooManyBoxes head then judge_size s head 8

-- the boxes from the k-th on, whose head is due at `head`, until the ticket ends before a head; n is how many more
-- may be judged
unfoldable pub judge_boxes : List ℕ → ℕ → ℕ → ℕ → Answer
judge_boxes s head k zero = done_with 0
judge_boxes s head k (suc n) =
    cond (eqb (length s) head) (done_with 0) (judge_box s head k then judge_boxes s (field_end s head) (suc k) n)

-- the whole ticket: the 65th box is refused by its judgement, so 65 may be judged
unfoldable pub judged : List ℕ → Answer
judged s =
    judge_operation s
    then judge_line s
    then judge_vector s
    then judge_length s
    then judge_origin s
    then judge_phase s
    then judge_boxes s first_box 0 65
