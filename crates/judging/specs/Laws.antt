-- What a job that is not refused for its places may rely on, in plain facts: nobody above unfolds the judging.
-- Assumes nothing.
use Rattle.std.specs.Prelude.{◌≡◌, refl, Bool, true, ◌&&◌, List, [], ◌∷◌, ℕ, zero, suc, ◌≤◌, ◌<◌, leb, length, get_or}
use Rattle.std.proofs.Common.{sym, ap, ap₂, ◌∙◌, arith, leb-true}
use Rattle.std.proofs.Math.Bool.{and-eq-true_iff}
use Rattle.refusal.specs.Answer.{is_done, Answer, done_with}
use Rattle.refusal.specs.Chain.{unless, ◌then◌, then_done, unless_done}
use Rattle.refusal.specs.declared.Refusal.TheVariants.{BadSides, SourceTooShort, OutputTooShort, ScratchTooShort}
use Rattle.refusal.specs.declared.Refusal.TheVariants.{BadBox}
use Rattle.ticket.specs.declared.HiddenBox.{HiddenBox}
use Rattle.ticket.specs.declared.Ticket.{Ticket}
use Rattle.boxes.specs.Boxes.{boxes_of, box_allowed}
use Rattle.placement.specs.Placement.{allowed, fits, Placed, source_page, output_page, scratch_needed}
use Rattle.placement.proofs.Laws as placement
use Rattle.placement.specs.declared.Placements.{Placements}
use Rattle.judging.specs.Pages.{pages_of, job_scratch}
use Rattle.judging.specs.Judging.{judge_sides, judge_source, judge_output, judge_scratch, judge_page_boxes_from}
use Rattle.judging.specs.Judging.{judge_page_boxes, judge_places}
use Rattle.judging.specs.declared.Lengths.{Lengths}

-- ---- the pages in the scratch

pub pages_least : (t : Ticket) → 2 ≤ pages_of t
unfolding pages_of
pages_least t = omega arith

pub pages_most : (t : Ticket) → pages_of t ≤ 3
unfolding pages_of
pages_most t = omega arith

-- the operation alone says how many
pub pages_by_operation : (t t' : Ticket) → t'.operation ≡ t.operation → pages_of t' ≡ pages_of t
unfolding pages_of
pages_by_operation t t' same = refl

-- ---- every box lies on the page

pub boxes_allowed :
    (w h k : ℕ) (boxes : List HiddenBox) → is_done (judge_page_boxes_from w h k boxes) ≡ true
    → (i : ℕ) (d : HiddenBox) → i < length boxes → box_allowed w h (get_or boxes i d) ≡ true
unfolding judge_page_boxes_from
boxes_allowed w h k [] done i d below = absurd (omega arith)
boxes_allowed w h k (b ∷ boxes) done zero d below =
    unless_done (box_allowed w h b) BadBox k
    (then_done (unless (box_allowed w h b) BadBox k) (judge_page_boxes_from w h (suc k) boxes) done).0
boxes_allowed w h k (b ∷ boxes) done (suc i) d below =
    boxes_allowed w h (suc k) boxes
    (then_done (unless (box_allowed w h b) BadBox k) (judge_page_boxes_from w h (suc k) boxes) done).1
    i
    d
    (omega arith)

pub boxes_done :
    (w h k : ℕ) (boxes : List HiddenBox)
    → ((i : ℕ) (d : HiddenBox) → i < length boxes → box_allowed w h (get_or boxes i d) ≡ true)
    → judge_page_boxes_from w h k boxes ≡ done_with 0
unfolding judge_page_boxes_from unless ◌then◌
boxes_done w h k [] ok = refl
boxes_done w h k (b ∷ boxes) ok =
    ap (λ (test : Bool). unless test BadBox k then judge_page_boxes_from w h (suc k) boxes) (ok 0 b (omega arith))
    ∙ boxes_done w h (suc k) boxes (λ i d below. ok (suc i) d (omega arith))

-- two tickets that keep as many pages, with boxes that the page allows, are judged alike
pub places_alike :
    (t t' : Ticket) (p : Placements) (n : Lengths) → pages_of t' ≡ pages_of t
    → ((i : ℕ) (d : HiddenBox) → i < length (boxes_of t)
    → box_allowed p.width p.height (get_or (boxes_of t) i d) ≡ true)
    → ((i : ℕ) (d : HiddenBox) → i < length (boxes_of t')
    → box_allowed p.width p.height (get_or (boxes_of t') i d) ≡ true)
    → judge_places t' p n ≡ judge_places t p n
unfolding judge_places judge_page_boxes
places_alike t t' p n pages ok ok' =
    ap₂ (λ (k : ℕ) (boxes : Answer).
    judge_sides p
    then judge_source p n.source
    then judge_output p n.output
    then judge_scratch k p.width p.height n.scratch
    then boxes)
    pages
    (boxes_done p.width p.height 0 (boxes_of t') ok' ∙ sym (boxes_done p.width p.height 0 (boxes_of t) ok))

-- ---- where the pages stand

pub record Stands (t : Ticket) (p : Placements) (n : Lengths) : Type 0 where
  pub from : Placed (source_page p) n.source
  pub to : Placed (output_page p) n.output
  pub room : job_scratch t p ≤ n.scratch
  pub boxes : (i : ℕ) (d : HiddenBox) → i < length (boxes_of t)
      → box_allowed p.width p.height (get_or (boxes_of t) i d) ≡ true

pub stands : (t : Ticket) (p : Placements) (n : Lengths) → is_done (judge_places t p n) ≡ true → Stands t p n
unfolding judge_places judge_sides judge_source judge_output judge_scratch judge_page_boxes job_scratch
stands t p n done =
    let boxes : Answer = judge_page_boxes_from p.width p.height 0 (boxes_of t) in
    let scratch : Answer = judge_scratch (pages_of t) p.width p.height n.scratch in
    let output : Answer = judge_output p n.output in
    let source : Answer = judge_source p n.source in
    let from-sides = then_done (judge_sides p) (source then output then scratch then boxes) done in
    let from-source = then_done source (output then scratch then boxes) from-sides.1 in
    let from-output = then_done output (scratch then boxes) from-source.1 in
    let from-scratch = then_done scratch boxes from-output.1 in
    let sides = unless_done (allowed (source_page p) && allowed (output_page p)) BadSides 0 from-sides.0 in
    let both = (and-eq-true_iff (allowed (source_page p)) (allowed (output_page p))).0 sides in
    record {
      from =
          placement.placed (source_page p) n.source both.0
          (unless_done (fits (source_page p) n.source) SourceTooShort 0 from-source.0);
      to =
          placement.placed (output_page p) n.output both.1
          (unless_done (fits (output_page p) n.output) OutputTooShort 0 from-output.0);
      room =
          leb-true _ _
          (unless_done (leb (scratch_needed (pages_of t) p.width p.height) n.scratch) ScratchTooShort 0 from-scratch.0);
      boxes = boxes_allowed p.width p.height 0 (boxes_of t) from-scratch.1;
    }
