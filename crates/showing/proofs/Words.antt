-- Signed numbers of 32 bits as words of 64. Assumes nothing.
use mathlib.Core.Path.{◌≡◌, refl}
use native.Mathlib.Omega.{arith}
use lib.IntN.{ℤ, pos, negsuc}
use mir.Syntax.{w64}
use mir.Val.{of_z}
use Rattle.std.proofs.lemmas.Int.{ints, to_z-of_z}
use Rattle.showing.specs.Shown.{word_of}

-- two's complement is what the bits of a number are
pub word_is : (y : ℤ) → of_z w64 y ≡ word_of y
unfolding word_of
word_is (pos k) = refl
word_is (negsuc k) = omega arith

-- for `grind`: a number that is read back from its bits is itself
pub ruleset words = (ints, to_z-of_z, word_is)
