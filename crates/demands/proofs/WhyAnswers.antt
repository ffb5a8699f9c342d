-- What a question is answered, and the box that is told of a hidden pixel. No job is refused with a number above 14, so
-- 19 is the question's own.
-- Assumes nothing.
use mathlib.Core.Path.{◌≡◌, refl, sym, ap, ◌∙◌, subst}
use Rattle.std.specs.Prelude.{Result, Err, Ok}
use mathlib.Core.Bool.{Bool, true, false, cond, true≢false}
use mathlib.Core.Logic.{inl, inr, by_cases}
use mathlib.Core.List.{List, [], ◌∷◌}
use Prim.Native.Nat.{ℕ, zero, suc, ◌≤◌, ◌<◌}
use native.Mathlib.Decide.{dec_lt}
use native.Mathlib.Omega.{arith}
use borrow.Author.Tests.{ltb-true}
use lib.Dec.{eqb}
use lib.ListN.{length}
use Rattle.refusal.specs.Refusal.{refusal_number}
use Rattle.refusal.specs.Answer.{number_of, is_done, Answer, done_with, giving, answer_in}
use Rattle.refusal.specs.Chain.{unless, ◌then◌}
use Rattle.refusal.specs.declared.Later.TheVariants.{PixelOffPage}
use Rattle.refusal.specs.declared.Refusal.{Refusal}
use Rattle.refusal.specs.declared.Refused.{Refused}
use Rattle.refusal.specs.declared.Refusal.TheVariants.{Later}
use Rattle.fields.specs.Fields.{field_end, first_box}
use Rattle.ticket.specs.Judging.{judge_head, judge_size, judge_field, judge_operation, judge_line, judge_vector}
use Rattle.ticket.specs.Judging.{judge_length, judge_origin, judge_phase, judge_box, judge_boxes, judged}
use Rattle.ticket.specs.Reading.{shown}
use Rattle.ticket.specs.declared.HiddenBox.{HiddenBox}
use Rattle.ticket.specs.declared.Ticket.{Ticket}
use Rattle.boxes.specs.Boxes.{covers, hidden, boxes_of}
use Rattle.boxes.specs.First.{first_of, hidden_first, first_answers, none_before}
use Rattle.boxes.specs.Laws.{covers_inside, inside_covers}
use Rattle.placement.specs.declared.Placements.{Placements}
use Rattle.judging.specs.Judging.{judge_sides, judge_source, judge_output, judge_scratch, judge_page_boxes_from}
use Rattle.judging.specs.Judging.{judge_page_boxes, judge_places}
use Rattle.judging.specs.declared.Lengths.{Lengths}
use Rattle.job.specs.Job.{answer, lengths}
use Rattle.nearby.specs.declared.Pixel.{Pixel}
use Rattle.why.proofs.Laws as laws
use Rattle.why.specs.Reason.{no_reason, by_box}
use Rattle.why.specs.Told.{why_answer, lengths_of}
use Rattle.why.specs.declared.Reason.{Reason}
use Rattle.demands.specs.Why.{WhyRefused, WhyOffPage, WhyNineteen, WhyDone, ByBox, WhyBox, WhySame}
use Rattle.demands.specs.Why.{WhySameRefused, PixelOff}
use Rattle.demands.proofs.Same.{same_lengths}

-- ---- refusals

pub why_refused : WhyRefused
why_refused ticket p source out scratch at refusal place e =
    laws.told_refusal ticket p source (length out) (length scratch) at refusal place
    (laws.why_refused ticket p (lengths source out scratch) at refusal place e)

pub why_off_page : WhyOffPage
why_off_page ticket p source out scratch work at done off =
    laws.told_refusal ticket p source (length out) (length scratch) at (Later PixelOffPage) 0
    (laws.why_judged ticket p (lengths source out scratch) at work done ∙ laws.pixel_off p at off)

pub why_done : WhyDone
why_done ticket p source out scratch work at done on =
    laws.told_answer ticket p source (length out) (length scratch) at
    ∙ laws.why_judged ticket p (lengths source out scratch) at work done
    ∙ laws.pixel_on p at on.column on.row

-- ---- no job is refused with a number above 14

small_then : (a b : Answer) → number_of a ≤ 14 → number_of b ≤ 14 → number_of (a then b) ≤ 14
unfolding ◌then◌ number_of
small_then (Ok work) b h k = k
small_then (Err refused) b h k = h

small_unless : (test : Bool) (refusal : Refusal) (place : ℕ) → refusal_number refusal ≤ 14
    → number_of (unless test refusal place) ≤ 14
unfolding unless number_of
small_unless true refusal place h = omega arith
small_unless false refusal place h = h

small_done : (work : ℕ) → number_of (done_with work) ≤ 14
unfolding number_of
small_done work = omega arith

small_case : (b : Bool) (a : Answer) → number_of a ≤ 14 → number_of (cond b (done_with 0) a) ≤ 14
small_case true a h = small_done 0
small_case false a h = h

module _ (s : List ℕ) where
  small_head : (at tag : ℕ) → number_of (judge_head s at tag) ≤ 14
  unfolding judge_head
  small_head at tag =
      small_then _ _ (small_unless _ _ at (omega arith)) (small_unless _ _ at (omega arith))

  small_size : (at size : ℕ) → number_of (judge_size s at size) ≤ 14
  unfolding judge_size
  small_size at size =
      small_then _ _ (small_unless _ _ at (omega arith)) (small_unless _ _ at (omega arith))

  small_field : (at tag size : ℕ) (test : Bool) (refusal : Refusal) → refusal_number refusal ≤ 14
      → number_of (judge_field s at tag size then unless test refusal at) ≤ 14
  unfolding judge_field
  small_field at tag size test refusal h =
      small_then _ _ (small_then _ _ (small_head at tag) (small_size at size)) (small_unless test refusal at h)

  small_boxes : (head k n : ℕ) → number_of (judge_boxes s head k n) ≤ 14
  unfolding judge_boxes judge_box
  small_boxes head k zero = small_done 0
  small_boxes head k (suc n) =
      small_case (eqb (length s) head) _
      (small_then _ _
      (small_then _ _ (small_head head 7)
      (small_then _ _ (small_unless _ _ head (omega arith)) (small_size head 8)))
      (small_boxes (field_end s head) (suc k) n))

  small_ticket : number_of (judged s) ≤ 14
  unfolding judged judge_operation judge_line judge_vector judge_length judge_origin judge_phase
  small_ticket =
      small_then _ _ (small_field _ _ _ _ _ (omega arith))
      (small_then _ _ (small_field _ _ _ _ _ (omega arith))
      (small_then _ _ (small_field _ _ _ _ _ (omega arith))
      (small_then _ _ (small_field _ _ _ _ _ (omega arith))
      (small_then _ _ (small_field _ _ _ _ _ (omega arith))
      (small_then _ _ (small_field _ _ _ _ _ (omega arith)) (small_boxes first_box 0 65))))))

small_page_boxes : (w h k : ℕ) (boxes : List HiddenBox) → number_of (judge_page_boxes_from w h k boxes) ≤ 14
unfolding judge_page_boxes_from
small_page_boxes w h k [] = small_done 0
small_page_boxes w h k (b ∷ boxes) =
    small_then _ _ (small_unless _ _ k (omega arith)) (small_page_boxes w h (suc k) boxes)

small_places : (t : Ticket) (p : Placements) (n : Lengths) → number_of (judge_places t p n) ≤ 14
unfolding judge_places judge_sides judge_source judge_output judge_scratch judge_page_boxes
small_places t p n =
    small_then _ _ (small_unless _ _ 0 (omega arith))
    (small_then _ _ (small_unless _ _ 0 (omega arith))
    (small_then _ _ (small_unless _ _ 0 (omega arith))
    (small_then _ _ (small_unless _ _ 0 (omega arith)) (small_page_boxes p.width p.height 0 (boxes_of t)))))

small_answer : (ticket : List ℕ) (p : Placements) (n : Lengths) → number_of (answer ticket p n) ≤ 14
unfolding answer
small_answer ticket p n =
    small_then _ _ (small_ticket ticket) (small_then _ _ (small_places (shown ticket) p n) (small_done _))

pub why_nineteen : WhyNineteen
unfolding number_of is_done answer_in
why_nineteen ticket p source out scratch at given = by_answer (answer ticket p (lengths source out scratch)) refl
  where
    by_answer : (a : Answer) → answer ticket p (lengths source out scratch) ≡ a
        → (is_done (answer ticket p (lengths source out scratch)) ≡ true) × PixelOff p at
    by_answer (Ok work) e = (
      ap is_done e,
      by_cases (dec_lt at.column p.width)
          (λ column.
          by_cases (dec_lt at.row p.height)
          (λ row.
          let told = why_done ticket p source out scratch work at e (record { column = column; row = row }) in
          absurd (omega (arith, given, ap number_of told)))
          (λ low. inr (omega arith)))
          (λ wide. inl (omega arith)),
    )
    by_answer (Err refused) e =
        let told = why_refused ticket p source out scratch at refused.refusal refused.at e in
        absurd
        (omega (
          arith,
          given,
          ap (λ (x : Result Reason Refused). number_of (answer_in x)) told,
          ap number_of e,
          small_answer ticket p (lengths source out scratch),
        ))

-- ---- a hidden pixel

by_box_lem : (t : Ticket) (at : Pixel) → hidden (boxes_of t) at.column at.row ≡ true → ByBox t at (by_box t at)
by_box_lem t at hid =
    let asked : HiddenBox → Bool = λ b. covers b at.column at.row in
    let boxes : List HiddenBox = boxes_of t in
    let low : first_of asked boxes < length boxes =
    ltb-true _ _ (sym (hidden_first boxes at.column at.row) ∙ hid) in
    record {
      is_box = laws.box_is t at;
      below = rw (laws.box_number t at) low;
      holds = λ d. rw (laws.box_number t at) (covers_inside _ _ _ (first_answers asked boxes d low));
      first =
          λ k d earlier inside.
          true≢false
          (sym (inside_covers _ _ _ inside) ∙ none_before asked boxes d k (omega (arith, laws.box_number t at)));
    }

pub why_box : WhyBox
unfolding is_done
why_box ticket p source out scratch work at done on hid =
    let answered =
    laws.why_judged ticket p (lengths source out scratch) at work done
    ∙ laws.pixel_on p at on.column on.row in
    let reason =
    laws.told_done ticket p source (length out) (length scratch) at (ap is_done answered)
    ∙ laws.reason_box (shown ticket) _ source at hid in
    subst (λ (x : Reason). ByBox (shown ticket) at x) (sym reason) (by_box_lem (shown ticket) at hid)

-- ---- what the answer depends on

module _ (ticket : List ℕ) (p : Placements) (source source' : List ℕ) (output scratch : ℕ) (at : Pixel)
    (same : length source ≡ length source') where
  pub answers_same :
      why_answer ticket p (lengths_of source output scratch) at ≡ why_answer ticket p (lengths_of source' output scratch) at
  answers_same =
      ap (λ (n : Lengths). why_answer ticket p n at)
      (same_lengths (lengths_of source output scratch) (lengths_of source' output scratch) same refl refl)

pub why_same : WhySame
why_same ticket p source source' output scratch at same =
    laws.told_answer ticket p source output scratch at
    ∙ answers_same ticket p source source' output scratch at same
    ∙ sym (laws.told_answer ticket p source' output scratch at)

pub why_same_refused : WhySameRefused
why_same_refused ticket p source source' output scratch at same refused =
    let answers = answers_same ticket p source source' output scratch at same in
    let first = sym (ap is_done (laws.told_answer ticket p source output scratch at)) ∙ refused in
    laws.told_refused ticket p source output scratch at first
    ∙ ap (λ (a : Answer). giving a no_reason) answers
    ∙ sym (laws.told_refused ticket p source' output scratch at (sym (ap is_done answers) ∙ first))
