-- Document 01, 'The ticket': which way a vector (dx, dy) runs.
-- Assumes nothing.
use Rattle.std.specs.Prelude.{ℕ, ◌≤◌, ◌<◌, ◌≡◌, Bool, ◌&&◌, cond, ℤ, pos, nat_abs}
use Rattle.std.specs.Int.Signed.{le_z, lt_z}

-- "The vector is shallow (dx at least 1, abs dy at most dx)"
unfoldable pub shallow : ℤ → ℤ → Bool
shallow dx dy = le_z (pos 1) dx && le_z (pos (nat_abs dy)) dx

-- "or steep (dy at least 1, abs dx below dy)"
unfoldable pub steep : ℤ → ℤ → Bool
steep dx dy = le_z (pos 1) dy && lt_z (pos (nat_abs dx)) dy

-- What each of them says, as facts: the component along the major axis is positive, and the other is no larger, or
-- smaller.
pub record Shallow (dx dy : ℤ) : Type 0 where
  pub forward : dx ≡ pos (nat_abs dx)
  pub least : 1 ≤ nat_abs dx
  pub slope : nat_abs dy ≤ nat_abs dx

pub record Steep (dx dy : ℤ) : Type 0 where
  pub forward : dy ≡ pos (nat_abs dy)
  pub least : 1 ≤ nat_abs dy
  pub slope : nat_abs dx < nat_abs dy

-- Along the major axis each step goes forward: the columns of a shallow vector, the rows of a steep one ("Steep: the
-- same with columns and rows, dx and dy exchanged"). Of an allowed vector the major component is positive, so its size
-- is taken.
unfoldable pub major_of : ℤ → ℤ → ℕ
major_of dx dy = cond (steep dx dy) (nat_abs dy) (nat_abs dx)

-- Along the minor axis a line rises or falls.
unfoldable pub minor_of : ℤ → ℤ → ℤ
minor_of dx dy = cond (steep dx dy) dx dy
