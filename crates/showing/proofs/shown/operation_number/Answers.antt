-- `showing::shown::operation_number` meets its contract, case by case. Assumes nothing.
use mathlib.Core.Path.{◌≡◌, refl}
use Prim.Native.Nat.{◌+◌}
use denote.Enum.Declared.{tag_of}
use Rattle.ticket.specs.Reading.{operation_number}
use Rattle.ticket.specs.contracts.Operation as contracts
use Rattle.ticket.specs.declared.Operation.{Operation}
use Rattle.ticket.specs.declared.Operation.TheVariants.{Erode, Dilate, Open, Close}
use Rattle.showing.proofs.shown.operation_number.Goals as goal

by : (x : Operation) → tag_of contracts.the_type x + 1 ≡ operation_number x
unfolding operation_number
by Erode = refl
by Dilate = refl
by Open = refl
by Close = refl

pub returns : goal.returns
returns c = by c.args.o
