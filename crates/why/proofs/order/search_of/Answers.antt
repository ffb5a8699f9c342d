-- `order::search_of` meets its contract. Assumes nothing.
use mathlib.Core.Path.{◌≡◌, refl, ap, ap₂, ◌∙◌}
use mathlib.Core.Bool.{Bool, true, false, cond}
use Prim.Native.Nat.{ℕ, ◌-◌}
use Rattle.ticket.specs.declared.Ticket.{Ticket}
use Rattle.filter.specs.Engine.{back_of}
use Rattle.filter.specs.Filters.{dilation_back}
use Rattle.job.specs.Order.{segment_of}
use Rattle.finding.specs.declared.Search.{Search}
use Rattle.why.specs.Reason.{starts_low, passes_twice}
use Rattle.why.specs.Promises.{search_of}
use Rattle.why.proofs.Ordered.{then_is, else_is}
use Rattle.why.proofs.order.search_of.Goals.{then-low, else-low}
use Rattle.why.proofs.order.search_of.Goals as goal

-- the back of a segment, as the code chooses it
back_as : (t : Ticket) (low : Bool) → cond low t.origin (t.length - 1 - t.origin) ≡ back_of (segment_of t) low
unfolding back_of dilation_back segment_of
back_as t true = refl
back_as t false = refl

search_as :
    (t : Ticket) (low twice : Bool) (back from steps : ℕ) → low ≡ starts_low t.operation
    → twice ≡ passes_twice t.operation → back ≡ cond low t.origin (t.length - 1 - t.origin)
    → from ≡ cond twice back (t.length - 1) → steps ≡ cond twice t.length 1
    → ◌≡◌ {A = Search} (record { low = low; back = back; length = t.length; from = from; steps = steps }) (search_of t)
unfolding search_of
search_as t low twice back from steps low-is twice_is back_is from_is steps-is =
    let b : back ≡ back_of (segment_of t) (starts_low t.operation) =
    back_is ∙ back_as t low ∙ ap (back_of (segment_of t)) low-is in
    let f : from ≡ cond (passes_twice t.operation) (back_of (segment_of t) (starts_low t.operation)) (t.length - 1) =
    from_is ∙ ap₂ (λ (w : Bool) (q : ℕ). cond w q (t.length - 1)) twice_is b in
    let n : steps ≡ cond (passes_twice t.operation) t.length 1 =
    steps-is ∙ ap (λ (w : Bool). cond w t.length 1) twice_is in
    cc

pub returns-then-twice : goal.returns-then-twice
returns-then-twice c =
    let back_is : c.if-low.back ≡ cond c.starts_low-low.result c.args.t.origin (c.args.t.length - 1 - c.args.t.origin) =
    elim c.if-low.branch [
      | then-low w ↦ w.back-is ∙ then_is _ _ _ w.if-low.true
      | else-low w ↦ w.back-is ∙ else_is _ _ _ w.if-low.false
    ]
    in
    search_as c.args.t _ _ _ _ _ c.starts_low-low.ensures c.passes_twice-twice.ensures back_is
    (then_is _ _ _ c.if-twice.true) (then_is _ _ _ c.if-twice.true)

pub returns-else-twice : goal.returns-else-twice
returns-else-twice c =
    let back_is : c.if-low.back ≡ cond c.starts_low-low.result c.args.t.origin (c.args.t.length - 1 - c.args.t.origin) =
    elim c.if-low.branch [
      | then-low w ↦ w.back-is ∙ then_is _ _ _ w.if-low.true
      | else-low w ↦ w.back-is ∙ else_is _ _ _ w.if-low.false
    ]
    in
    search_as c.args.t _ _ _ _ _ c.starts_low-low.ensures c.passes_twice-twice.ensures back_is
    (else_is _ _ _ c.if-twice.false) (else_is _ _ _ c.if-twice.false)
