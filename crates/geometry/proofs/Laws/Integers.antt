-- Differences of natural numbers among the integers.
-- Assumes nothing.
use Rattle.std.specs.Prelude.{◌≡◌, refl, Bool, true, false, ℕ, zero, suc, ◌+◌, ◌-◌, ◌≤◌, ◌<◌, ℤ, pos, negsuc, neg_ℤ, nat_abs, ◌+ℤ◌, ◌-ℤ◌}
use Rattle.std.proofs.Common.{sym, ap, ◌∙◌, add-zero, arith, lt-ltb, le-ltb}
use Rattle.std.proofs.Math.Nat.{sub-zero}
use Rattle.std.proofs.Math.IntN.{sub_ℕ, +ℤ_comm, +ℤ_assoc, neg_ℤ-neg_ℤ, neg_ℤ-+ℤ}
use Rattle.geometry.specs.Drift.{signed}

pub below : (a b : ℕ) → a < b → sub_ℕ a b ≡ negsuc (b - suc a)
below a b h = rw (lt-ltb a b h)

pub above : (a b : ℕ) → b ≤ a → sub_ℕ a b ≡ pos (a - b)
above a b h = rw (le-ltb a b h)

-- the library's difference by its cases is the sum with the negated number
pub minus : (a b : ℕ) → pos a -ℤ pos b ≡ sub_ℕ a b
minus a zero = rw (above a zero (omega arith), add-zero, sub-zero)
minus a (suc b) = refl

pub size_signed : (falling : Bool) (n : ℕ) → nat_abs (signed falling n) ≡ n
unfolding signed
size_signed true zero = refl
size_signed true (suc n) = refl
size_signed false n = refl

-- the difference of two drifts the same way, the larger first
pub signed_minus : (falling : Bool) (a b : ℕ) → b ≤ a → signed falling a -ℤ signed falling b ≡ signed falling (a - b)
unfolding signed
signed_minus true a b h = sym (neg_ℤ-+ℤ (pos a) (neg_ℤ (pos b))) ∙ ap neg_ℤ (minus a b ∙ above a b h)
signed_minus false a b h = minus a b ∙ above a b h

-- a place moved from drift b to drift a: to larger places where the line rises, to smaller ones where it falls
pub moved_up : (m a b : ℕ) → pos m +ℤ (signed false a -ℤ signed false b) ≡ sub_ℕ (m + a) b
unfolding signed
moved_up m a b = sym (+ℤ_assoc (pos m) (pos a) (neg_ℤ (pos b))) ∙ minus (m + a) b

pub moved_down : (m a b : ℕ) → pos m +ℤ (signed true a -ℤ signed true b) ≡ sub_ℕ (m + b) a
unfolding signed
moved_down m a b =
    ap (λ (z : ℤ). pos m +ℤ (neg_ℤ (pos a) +ℤ z)) (neg_ℤ-neg_ℤ (pos b))
    ∙ ap (λ (z : ℤ). pos m +ℤ z) (+ℤ_comm (neg_ℤ (pos a)) (pos b))
    ∙ sym (+ℤ_assoc (pos m) (pos b) (neg_ℤ (pos a)))
    ∙ minus (m + b) a
