-- Sides that are not refused are within their limits, and the judgements in pairs are those in order. Assumes nothing.
use mathlib.Core.Path.{◌≡◌, refl, ap}
use mathlib.Core.Bool.{true, ◌&&◌, and-eq-true_iff}
use mathlib.Core.List.{List}
use Prim.Native.Nat.{◌≤◌}
use Rattle.std.specs.Prelude.{Ok, Err}
use Rattle.refusal.specs.Answer.{Answer, is_done}
use Rattle.refusal.specs.Chain.{◌then◌, unless_done}
use Rattle.refusal.specs.declared.Refusal.TheVariants.{BadSides}
use Rattle.ticket.specs.declared.HiddenBox.{HiddenBox}
use Rattle.ticket.specs.declared.Ticket.{Ticket}
use Rattle.boxes.specs.Boxes.{boxes_of}
use Rattle.placement.specs.Placement.{allowed, source_page, output_page}
use Rattle.placement.proofs.Laws as placement
use Rattle.placement.specs.declared.Placements.{Placements}
use Rattle.judging.specs.Pages.{pages_of}
use Rattle.judging.specs.Judging.{judge_sides, judge_source, judge_output, judge_scratch, judge_page_boxes}
use Rattle.judging.specs.Judging.{judge_places}
use Rattle.judging.specs.declared.Lengths.{Lengths}

pub sides_most : (p : Placements) → is_done (judge_sides p) ≡ true → (p.width ≤ 8192) × (p.height ≤ 8192)
unfolding judge_sides source_page
sides_most p done =
    let both = unless_done (allowed (source_page p) && allowed (output_page p)) BadSides 0 done in
    let each = (and-eq-true_iff (allowed (source_page p)) (allowed (output_page p))).0 both in
    placement.sides_most (source_page p) each.0

then_assoc : (a b c : Answer) → ((a then b) then c) ≡ (a then b then c)
unfolding ◌then◌
then_assoc (Ok work) b c = refl
then_assoc (Err refused) b c = refl

pub in_pairs :
    (t : Ticket) (p : Placements) (n : Lengths) (boxes : List HiddenBox) → boxes_of t ≡ boxes
    → (judge_sides p
    then (judge_source p n.source then judge_output p n.output)
    then judge_scratch (pages_of t) p.width p.height n.scratch
    then judge_page_boxes p.width p.height boxes)
    ≡ judge_places t p n
unfolding judge_places
in_pairs t p n boxes is =
    rw (← is)
    (ap (λ (rest : Answer). judge_sides p then rest)
    (then_assoc (judge_source p n.source) (judge_output p n.output)
    (judge_scratch (pages_of t) p.width p.height n.scratch then judge_page_boxes p.width p.height (boxes_of t))))
