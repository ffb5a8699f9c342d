-- A signed number, handed on. Assumes nothing.
use Rattle.std.proofs.Common.{◌≡◌, ◌∙◌, ◌<◌, to_z, of_z}
use Rattle.std.specs.Prelude.{ℤ}
use Rattle.std.specs.Int.{w32}
use Rattle.std.specs.Int.Signed.{mag}
use Rattle.std.proofs.lemmas.Int.{to_z-of_z}

-- a value handed on through a 32-bit place is kept
pub kept : {z y : ℤ} → z ≡ y → mag z < 2147483648 → to_z w32 (of_z w32 z) ≡ y
kept {z} e h = to_z-of_z w32 z (record { sfits = h }) ∙ e
