-- `sotrugla::sotrugla_is_hidden` meets its contract: what hides of a ticket that is read, nothing of one that is refused.
-- Assumes nothing.
use mathlib.Core.Path.{◌≡◌, sym, ap, ◌∙◌}
use mathlib.Core.Bool.{Bool, cond}
use mathlib.Core.List.{List}
use Prim.Native.Nat.{ℕ}
use native.Mathlib.Omega.{arith}
use Rattle.std.specs.Prelude.{Ok}
use Rattle.refusal.specs.Answer.{is_done}
use Rattle.refusal.specs.Chain.{when_done_lem}
use Rattle.ticket.specs.Judging.{judged}
use Rattle.ticket.specs.Laws.{read_good, read_refused}
use Rattle.ticket.specs.Reading.{reading, shown}
use Rattle.ticket.specs.declared.Ticket.{Ticket}
use Rattle.boxes.specs.Boxes.{hidden, boxes_of}
use Rattle.showing.specs.Laws.{read_showable}
use Rattle.sotrugla.specs.Hiding.{hidden_by, refused_hides_nothing}
use Rattle.sotrugla.proofs.sotrugla_is_hidden.Goals as goal

pub slice_bounds-hides-end : goal.slice_bounds-hides-end
slice_bounds-hides-end c =
    let shows =
    read_showable c.args.ticket.now _ (λ k. omega (arith, c.type_inv.ticket k)) (sym c.read.ensures ∙ c.in-Ok.is) in
    omega (arith, shows.count_to)

pub shared_ref_as_front-hides : goal.shared_ref_as_front-hides
shared_ref_as_front-hides c =
    let shows =
    read_showable c.args.ticket.now _ (λ k. omega (arith, c.type_inv.ticket k)) (sym c.read.ensures ∙ c.in-Ok.is) in
    shows.count_to

-- what was asked of the ticket as read, and how it was answered
answered : (s : List ℕ) (t : Ticket) (column row : ℕ) {asked found : Bool} → reading s ≡ Ok t
    → asked ≡ hidden (boxes_of t) column row
    → asked ≡ found
    → cond found 1 0 ≡ hidden_by s column row
answered s t column row {asked} {found} is hides answer =
    let good = read_good s t is in
    ap (λ (b : Bool). cond b 1 0)
    (sym answer ∙ hides ∙ ap (λ (q : Ticket). hidden (boxes_of q) column row) (sym good.1))
    ∙ sym (when_done_lem (judged s) (cond (hidden (boxes_of (shown s)) column row) 1 0) 0 good.0)

pub returns-then-hides : goal.returns-then-hides
unfolding boxes_of
returns-then-hides c =
    answered _ _ _ _ (sym c.read.ensures ∙ c.in-Ok.is) c.hides.ensures c.if-hides.true

pub returns-else-hides : goal.returns-else-hides
unfolding boxes_of
returns-else-hides c =
    answered _ _ _ _ (sym c.read.ensures ∙ c.in-Ok.is) c.hides.ensures c.if-hides.false

pub returns-in-Err : goal.returns-in-Err
unfolding is_done
returns-in-Err c =
    let refused = read_refused c.args.ticket.now _ (sym c.read.ensures ∙ c.in-Err.is) in
    sym (refused_hides_nothing c.args.ticket.now c.args.column c.args.row (ap is_done refused))
