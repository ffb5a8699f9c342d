-- Document 01, 'Small pages to check against', cases 10, 14 and 15, as far as the ticket alone decides them, the
-- limits that stand in 'The ticket', and boxes found from head to head.
-- Assumes nothing.
use Rattle.std.specs.Prelude.{◌≡◌, refl, ℕ, zero, suc, List, [], ◌∷◌, ◌++◌, map}
use Rattle.refusal.specs.Answer.{Answer, done_with, refused_at}
use Rattle.vectors.specs.Vector.{shallow, steep}
use Rattle.fields.specs.Fields.{byte_at, number_at, signed16, signed_at, operation_in, line_in, dx_in, dy_in, length_in}
use Rattle.fields.specs.Fields.{origin_in, phase_in, field_end}
use Rattle.ticket.specs.Boxes.{box_at, boxes_from, boxes_in}
use Rattle.fields.specs.Vectors.{divided, coprime, vector_allowed, phase_allowed}
use Rattle.ticket.specs.Judging.{judge_head, judge_size, judge_field, operation_known, line_known, is_periodic}
use Rattle.ticket.specs.Judging.{length_allowed, origin_allowed, judge_operation, judge_line, judge_vector}
use Rattle.ticket.specs.Judging.{judge_length, judge_origin, judge_phase, judge_box, judge_boxes, judged}
use Rattle.ticket.specs.declared.HiddenBox.{HiddenBox}
use Rattle.refusal.specs.Chain.{unless, ◌then◌}
use Rattle.refusal.specs.declared.Refusal.TheVariants.{TicketEnds, TooManyBoxes, WrongLength, BadVector, BadLength}
use Rattle.refusal.specs.declared.Refusal.TheVariants.{BadOrigin, BadPhase}

record Case : Type 0 where
  ticket : List ℕ
  answer : Answer

-- a ticket without boxes: line, then dx, dy, L, o and phase as two bytes each
abbrev plain : ℕ → List ℕ → List ℕ → List ℕ → List ℕ → List ℕ → List ℕ
plain line dx dy l o i =
    1 ∷ 0 ∷ 1 ∷ 1 ∷ 2 ∷ 0 ∷ 1 ∷ line ∷ 3 ∷ 0 ∷ 4 ∷ dx
    ++ dy
    ++ (4 ∷ 0 ∷ 2 ∷ l)
    ++ (5 ∷ 0 ∷ 2 ∷ o)
    ++ (6 ∷ 0 ∷ 2 ∷ i)

abbrev two : ℕ → ℕ → List ℕ
two a b = a ∷ b ∷ []

-- a field of tag 7 whose numbers are all one; the same with a byte behind them; so many boxes
abbrev box : ℕ → List ℕ
box n = 7 ∷ 0 ∷ 8 ∷ 0 ∷ n ∷ 0 ∷ n ∷ 0 ∷ n ∷ 0 ∷ n ∷ []

abbrev longer : ℕ → List ℕ
longer n = 7 ∷ 0 ∷ 9 ∷ 0 ∷ n ∷ 0 ∷ n ∷ 0 ∷ n ∷ 0 ∷ n ∷ 1 ∷ []

abbrev boxes : ℕ → List ℕ
boxes zero = []
boxes (suc n) = box 1 ++ boxes n

abbrev with_boxes : List ℕ → List ℕ
with_boxes fields = plain 1 (two 0 1) (two 0 0) (two 0 2) (two 0 0) (two 0 0) ++ fields

abbrev cases : List Case
cases =
    record { ticket = []; answer = refused_at TicketEnds 0 }
    ∷ record { ticket = plain 1 (two 0 2) (two 0 2) (two 0 2) (two 0 0) (two 0 0); answer = refused_at BadVector 8 }
    ∷ record { ticket = plain 2 (two 0 2) (two 0 2) (two 0 2) (two 0 0) (two 0 0); answer = done_with 0 }
    ∷ record { ticket = plain 1 (two 0 0) (two 0 0) (two 0 2) (two 0 0) (two 0 0); answer = refused_at BadVector 8 }
    ∷ record { ticket = plain 1 (two 0 1) (two 0 0) (two 32 0) (two 0 0) (two 0 0); answer = done_with 0 }
    ∷ record { ticket = plain 1 (two 0 1) (two 0 0) (two 32 1) (two 0 0) (two 0 0); answer = refused_at BadLength 15 }
    ∷ record { ticket = plain 1 (two 0 1) (two 0 0) (two 0 2) (two 0 2) (two 0 0); answer = refused_at BadOrigin 20 }
    ∷ record { ticket = plain 1 (two 0 3) (two 255 254) (two 0 2) (two 0 1) (two 0 2); answer = done_with 0 }
    ∷ record { ticket = plain 1 (two 0 3) (two 255 254) (two 0 2) (two 0 1) (two 0 3); answer = refused_at BadPhase 25 }
    ∷ record { ticket = with_boxes (box 1 ++ box 2); answer = done_with 0 }
    ∷ record { ticket = with_boxes (box 1 ++ two 7 0); answer = refused_at TicketEnds 41 }
    ∷ record { ticket = with_boxes (box 1 ++ longer 2); answer = refused_at WrongLength 41 }
    ∷ record { ticket = with_boxes (boxes 64); answer = done_with 0 }
    ∷ record { ticket = with_boxes (boxes 65); answer = refused_at TooManyBoxes 734 }
    ∷ []

worked : map (λ (c : Case). judged c.ticket) cases ≡ map (λ (c : Case). c.answer) cases
unfolding shallow steep byte_at number_at signed16 signed_at operation_in line_in dx_in dy_in length_in origin_in phase_in field_end unless ◌then◌ judge_head judge_size judge_field operation_known line_known is_periodic divided coprime vector_allowed length_allowed origin_allowed phase_allowed judge_operation judge_line judge_vector judge_length judge_origin judge_phase judge_box judge_boxes judged
worked = refl

abbrev square : ℕ → HiddenBox
square n = record { left = n; top = n; width = n; height = n }

-- the walk goes by each field's own length
walked : boxes_in (with_boxes (box 1 ++ longer 2 ++ box 3)) ≡ square 1 ∷ square 2 ∷ square 3 ∷ []
unfolding byte_at number_at field_end box_at boxes_from boxes_in
walked = refl
