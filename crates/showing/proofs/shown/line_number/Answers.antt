-- `showing::shown::line_number` meets its contract, case by case. Assumes nothing.
use mathlib.Core.Path.{◌≡◌, refl}
use Prim.Native.Nat.{◌+◌}
use denote.Enum.Declared.{tag_of}
use Rattle.ticket.specs.Reading.{line_number}
use Rattle.ticket.specs.contracts.LineKind as contracts
use Rattle.ticket.specs.declared.LineKind.{LineKind}
use Rattle.ticket.specs.declared.LineKind.TheVariants.{Connected, Periodic}
use Rattle.showing.proofs.shown.line_number.Goals as goal

by : (x : LineKind) → tag_of contracts.the_type x + 1 ≡ line_number x
unfolding line_number
by Connected = refl
by Periodic = refl

pub returns : goal.returns
returns c = by c.args.k
