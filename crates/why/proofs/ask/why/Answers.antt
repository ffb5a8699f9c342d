-- `ask::why` meets its contract: read, judged, and then the reason. Assumes nothing.
use mathlib.Core.Path.{refl, sym, ◌∙◌}
use native.Mathlib.Omega.{arith}
use Rattle.refusal.specs.Chain.{handed_on}
use Rattle.ticket.specs.Laws.{read_allowed}
use Rattle.boxes.specs.Boxes.{boxes_of}
use Rattle.why.proofs.Asking.{ticket_refused, job_refused, asked, reason_told}
use Rattle.why.proofs.ask.why.Goals as goal

pub returns-in_err-read : goal.returns-in_err-read
returns-in_err-read c =
    ticket_refused _ _ _ _ _ _ (sym c.read.ensures ∙ c.in_err-read.was) (handed_on c.from_residual.ensures.1)

pub slice_bounds-boxes-end : goal.slice_bounds-boxes-end
slice_bounds-boxes-end c =
    let ok = read_allowed _ _ (λ k. omega (arith, c.type_inv.ticket k)) (sym c.read.ensures ∙ c.in_ok-read.was) in
    omega (arith, ok.count_to, ok.places)

pub shared_ref_as_front-boxes : goal.shared_ref_as_front-boxes
shared_ref_as_front-boxes c =
    let ok = read_allowed _ _ (λ k. omega (arith, c.type_inv.ticket k)) (sym c.read.ensures ∙ c.in_ok-read.was) in
    ok.count_to

pub returns-in_err-first_refusal : goal.returns-in_err-first_refusal
unfolding boxes_of
returns-in_err-first_refusal c =
    job_refused _ _ _ _ _ _ (sym c.read.ensures ∙ c.in_ok-read.was) (c.judge-places.ensures c.in_ok-read.read refl)
    c.judge_pixel.ensures c.first_refusal.ensures c.in_err-first_refusal.was
    (handed_on c.from_residual-in_err-first_refusal.ensures.1)

pub reason_of-requires : goal.reason_of-requires
unfolding boxes_of
reason_of-requires c =
    asked _ _ c.args.source.now c.args.output c.args.scratch _ (sym c.read.ensures ∙ c.in_ok-read.was)
    (c.judge-places.ensures c.in_ok-read.read refl) c.judge_pixel.ensures c.first_refusal.ensures
    c.in_ok-first_refusal.was c.source_page.ensures
    (λ k. omega (arith, c.type_inv.ticket k))

pub returns : goal.returns
unfolding boxes_of
returns c =
    reason_told _ _ _ _ _ _ (sym c.read.ensures ∙ c.in_ok-read.was) (c.judge-places.ensures c.in_ok-read.read refl)
    c.judge_pixel.ensures c.first_refusal.ensures c.in_ok-first_refusal.was c.source_page.ensures c.reason_of.ensures
