-- `order::passes_twice` meets its contract. Assumes nothing.
use mathlib.Core.Path.{◌≡◌, refl}
use mathlib.Core.Bool.{true, false}
use mathlib.Core.Logic.{◌⊎◌, inl, inr}
use Rattle.ticket.specs.declared.Operation.{Operation}
use Rattle.ticket.specs.declared.Operation.TheVariants.{Erode, Dilate, Open, Close}
use Rattle.why.specs.Reason.{passes_twice}
use Rattle.why.proofs.order.passes_twice.Goals as goal

one : (o : Operation) → (o ≡ Open) ⊎ (o ≡ Close) → true ≡ passes_twice o
unfolding passes_twice
one o (inl e) = rw e refl
one o (inr e) = rw e refl

none : (o : Operation) → (o ≡ Open → ⊥) → (o ≡ Close → ⊥) → false ≡ passes_twice o
unfolding passes_twice
none Erode a b = refl
none Dilate a b = refl
none Open a b = absurd (a refl)
none Close a b = absurd (b refl)

pub returns-in-Open : goal.returns-in-Open
returns-in-Open c = one c.args.operation c.in-Open.is

pub returns-in_default : goal.returns-in_default
returns-in_default c = none c.args.operation c.in_default.not-Open c.in_default.not-Close
