-- `fields::vector::share_divisor` meets its contract: each turn keeps the common divisors. Assumes nothing.
use mathlib.Core.Path.{◌≡◌}
use Prim.Native.Nat.{◌≤◌}
use Rattle.fields.specs.Vectors.{divided}
use Rattle.fields.proofs.vector.share_divisor.Given as goal

abbrev pub invariant-loop-y : goal.invariant-loop-y
invariant-loop-y l = (l.x ≤ 255) × (l.y ≤ 255) × (divided l.x l.y 2 254 ≡ divided l.a l.b 2 254)

abbrev pub decreases-loop-y : goal.decreases-loop-y
decreases-loop-y l = l.y
