-- D: which whole number its size is, how it goes from column to column, and its sign. Only this file and the worked
-- values open D; Error opens the size, `nearest`, too.
-- Assumes nothing.
use Rattle.std.specs.Prelude.{◌≡◌, refl, not, ℕ, zero, suc, ◌+◌, ◌*◌, ◌/◌, ◌≤◌, ◌<◌, ℤ, pos, negsuc, neg_ℤ, nat_abs, ◌-ℤ◌}
use Rattle.std.proofs.Common.{sym, ap₂, ◌∙◌, le_trans, mul-le-mul_left, mul-le-mul_right, div-mul-le_self, le-div_iff_mul-le, arith}
use Rattle.std.proofs.Math.Nat.{div-eq_of_lt, add-div_right, lt-div-mul-add}
use Rattle.std.proofs.Math.IntN.{neg_ℤ-neg_ℤ, neg_ℤ-+ℤ}
use Rattle.std.specs.Int.Signed.{non_neg}
use Rattle.geometry.specs.Line.{nearest, D, shift}
use Rattle.geometry.specs.Drift.{signed}

-- ---- the size

pub nearest_low : (a b c : ℕ) → nearest a b c * (2 * a) ≤ 2 * c * b + a
unfolding nearest
nearest_low a b c = div-mul-le_self (2 * c * b + a) (2 * a)

pub nearest_high : (a b c : ℕ) → 1 ≤ a → 2 * c * b + a < suc (nearest a b c) * (2 * a)
unfolding nearest
nearest_high a b c h = omega (arith, lt-div-mul-add {a = 2 * c * b + a} {b = 2 * a} (omega arith))

-- a larger number has no smaller quotient
quotient_rises : (n : ℕ) {a b : ℕ} → 0 < n → a ≤ b → a / n ≤ b / n
quotient_rises n {a} {b} h k = (le-div_iff_mul-le h).1 (le_trans (div-mul-le_self a n) k)

pub nearest_rises : (a b : ℕ) {c d : ℕ} → 1 ≤ a → c ≤ d → nearest a b c ≤ nearest a b d
unfolding nearest
nearest_rises a b {c} {d} h k =
    quotient_rises (2 * a) (omega arith) (omega (arith, mul-le-mul_right b (mul-le-mul_left 2 k)))

pub nearest_step : (a b c : ℕ) → 1 ≤ a → b ≤ a → nearest a b (suc c) ≤ suc (nearest a b c)
unfolding nearest
nearest_step a b c h k =
    let one_more : (2 * c * b + a + 2 * a) / (2 * a) ≡ (2 * c * b + a) / (2 * a) + 1 =
    add-div_right (2 * c * b + a) (omega arith) in
    let raised : (2 * suc c * b + a) / (2 * a) ≤ (2 * c * b + a + 2 * a) / (2 * a) =
    quotient_rises (2 * a) (omega arith) (omega arith) in
    omega arith

nearest_level : (a c : ℕ) → 1 ≤ a → nearest a 0 c ≡ 0
unfolding nearest
nearest_level a c h = div-eq_of_lt (omega arith)

-- ---- the sign

pub D_signed : (a : ℕ) (z : ℤ) (c : ℕ) → D a z c ≡ signed (not (non_neg z)) (nearest a (nat_abs z) c)
unfolding D signed
D_signed a (pos b) c = refl
D_signed a (negsuc b) c = refl

pub D_negated : (a : ℕ) (z : ℤ) (c : ℕ) → 1 ≤ a → D a (neg_ℤ z) c ≡ neg_ℤ (D a z c)
unfolding D
D_negated a (pos zero) c h = rw (nearest_level a c h)
D_negated a (pos (suc b)) c h = refl
D_negated a (negsuc b) c h = sym (neg_ℤ-neg_ℤ (pos (nearest a (suc b) c)))

pub shift_negated : (a : ℕ) (z : ℤ) (i c : ℕ) → 1 ≤ a → shift a (neg_ℤ z) i c ≡ neg_ℤ (shift a z i c)
unfolding shift
shift_negated a z i c h =
    ap₂ (λ (x y : ℤ). x -ℤ y) (D_negated a z (c + i) h) (D_negated a z i h)
    ∙ sym (neg_ℤ-+ℤ (D a z (c + i)) (neg_ℤ (D a z i)))
