-- `order::starts_low` meets its contract. Assumes nothing.
use mathlib.Core.Path.{◌≡◌, refl}
use mathlib.Core.Bool.{true, false}
use mathlib.Core.Logic.{◌⊎◌, inl, inr}
use Rattle.ticket.specs.declared.Operation.{Operation}
use Rattle.ticket.specs.declared.Operation.TheVariants.{Erode, Dilate, Open, Close}
use Rattle.why.specs.Reason.{starts_low}
use Rattle.why.proofs.order.starts_low.Goals as goal

one : (o : Operation) → (o ≡ Erode) ⊎ (o ≡ Open) → true ≡ starts_low o
unfolding starts_low
one o (inl e) = rw e refl
one o (inr e) = rw e refl

none : (o : Operation) → (o ≡ Erode → ⊥) → (o ≡ Open → ⊥) → false ≡ starts_low o
unfolding starts_low
none Erode a b = absurd (a refl)
none Dilate a b = refl
none Open a b = absurd (b refl)
none Close a b = refl

pub returns-in-Erode : goal.returns-in-Erode
returns-in-Erode c = one c.args.operation c.in-Erode.is

pub returns-in_default : goal.returns-in_default
returns-in_default c = none c.args.operation c.in_default.not-Erode c.in_default.not-Open
