-- The drift: the profile as a direction and a size. What is said here of D is said by the laws of Nearest.
-- Assumes nothing.
use Rattle.std.specs.Prelude.{◌≡◌, refl, Bool, true, false, not, cond, ℤ, pos, negsuc, ◌-ℤ◌, ◌*ℤ◌}
use Rattle.std.proofs.Common.{sym, ap₂, ◌∙◌, le_trans, mul-le-mul_right, zero-mul, zero-add, suc-add, le_of_eq, arith}
use Rattle.std.proofs.Math.Path.{ap}
use Prim.Native.Nat.{ℕ, zero, suc, ◌+◌, ◌*◌, ◌-◌, ◌≤◌}
use Rattle.std.proofs.Math.Nat.{mul-le-mul_left, sub_self}
use Rattle.std.proofs.Math.IntN.{nat_abs}
use Rattle.std.specs.Int.Signed.{non_neg}
use Rattle.vectors.specs.Vector.{major_of, minor_of}
use Rattle.geometry.specs.Line.{nearest, shift, period, profile}
use Rattle.geometry.specs.Drift.{Sound, falls, drift, signed}
use Rattle.geometry.proofs.Laws.Integers.{size_signed, signed_minus}
use Rattle.geometry.proofs.Laws.Nearest.{D_signed, nearest_rises, nearest_step}
use Rattle.geometry.specs.declared.Line.{Line}

shift_signed : (a : ℕ) (z : ℤ) (i c : ℕ) → 1 ≤ a
    → shift a z i c ≡ signed (not (non_neg z)) (nearest a (nat_abs z) (c + i) - nearest a (nat_abs z) i)
unfolding shift
shift_signed a z i c h =
    ap₂ (λ (x y : ℤ). x -ℤ y) (D_signed a z (c + i)) (D_signed a z i)
    ∙ signed_minus (not (non_neg z)) _ _ (nearest_rises a (nat_abs z) h (omega arith))

-- t times a vector's component
times_signed : (t : ℕ) (z : ℤ) → pos t *ℤ z ≡ signed (not (non_neg z)) (t * nat_abs z)
unfolding signed
times_signed t (pos b) = refl
times_signed t (negsuc b) = refl

-- the drift in plain numbers: of a major component a and a minor one of size b, with phase i
amount : (periodic : Bool) (a b i t : ℕ) → ℕ
amount true a b i t = t * b
amount false a b i t = nearest a b (t + i) - nearest a b i

amount_zero : (periodic : Bool) (a b i : ℕ) → amount periodic a b i 0 ≡ 0
unfolding amount
amount_zero true a b i = zero-mul b
amount_zero false a b i = rw (zero-add, sub_self)

amount_rises : (periodic : Bool) (a b i : ℕ) {s t : ℕ} → 1 ≤ a → s ≤ t
    → amount periodic a b i s ≤ amount periodic a b i t
unfolding amount
amount_rises true a b i h k = mul-le-mul_right b k
amount_rises false a b i {s} {t} h k =
    let more : nearest a b (s + i) ≤ nearest a b (t + i) = nearest_rises a b h (omega arith) in
    omega arith

connected_step : (a b i t : ℕ) → 1 ≤ a → b ≤ a → amount false a b i (suc t) ≤ suc (amount false a b i t)
unfolding amount
connected_step a b i t h k =
    let more : nearest a b (suc t + i) ≤ suc (nearest a b (t + i)) = rw suc-add (nearest_step a b (t + i) h k) in
    let room : nearest a b i ≤ nearest a b (t + i) = nearest_rises a b h (omega arith) in
    omega arith

amount_bound : (periodic : Bool) (a b i t : ℕ) → 1 ≤ a → b ≤ a → amount periodic a b i t ≤ t * cond periodic a 1
amount_bound true a b i t h k = unfold amount in mul-le-mul_left t k
amount_bound false a b i zero h k = le_trans (le_of_eq (amount_zero false a b i)) (omega arith)
amount_bound false a b i (suc t) h k =
    let one_more : amount false a b i (suc t) ≤ suc (amount false a b i t) = connected_step a b i t h k in
    let before : amount false a b i t ≤ t * 1 = amount_bound false a b i t h k in
    omega arith

module _ (l : Line) (h : Sound l) where
  abbrev amount_of : ℕ → ℕ
  amount_of t =
      amount l.periodic (major_of l.dx l.dy) (nat_abs (minor_of l.dx l.dy)) l.phase t

  profile_amount : (t : ℕ) → profile l t ≡ signed (falls l) (amount_of t)
  unfolding profile falls amount
  profile_amount t = go l.periodic
    where
      a : ℕ
      a = major_of l.dx l.dy

      z : ℤ
      z = minor_of l.dx l.dy

      f : Bool
      f = not (non_neg z)

      go : (periodic : Bool)
          → cond periodic (pos t *ℤ z) (shift a z l.phase t) ≡ signed f (amount periodic a (nat_abs z) l.phase t)
      go true = times_signed t z
      go false = shift_signed a z l.phase t h.forward

  drift_amount : (t : ℕ) → drift l t ≡ amount_of t
  unfolding drift
  drift_amount t = ap nat_abs (profile_amount t) ∙ size_signed (falls l) _

  -- by the two kinds of line
  pub drift_periodic : (t : ℕ) → l.periodic ≡ true → drift l t ≡ t * nat_abs (minor_of l.dx l.dy)
  unfolding amount
  drift_periodic t e = drift_amount t ∙ (rw e)

  pub drift_connected : (t : ℕ) → l.periodic ≡ false
      → drift l t
      ≡ nearest (major_of l.dx l.dy) (nat_abs (minor_of l.dx l.dy)) (t + l.phase)
      - nearest (major_of l.dx l.dy) (nat_abs (minor_of l.dx l.dy)) l.phase
  unfolding amount
  drift_connected t e = drift_amount t ∙ (rw e)

  pub profile_signed : (t : ℕ) → profile l t ≡ signed (falls l) (drift l t)
  profile_signed t = profile_amount t ∙ ap (signed (falls l)) (sym (drift_amount t))

  pub drift_zero : drift l 0 ≡ 0
  drift_zero = drift_amount 0 ∙ amount_zero l.periodic _ _ l.phase

  pub drift_rises : {s t : ℕ} → s ≤ t → drift l s ≤ drift l t
  drift_rises {s} {t} k =
      rw (drift_amount s, drift_amount t) (amount_rises l.periodic _ _ l.phase h.forward k)

  pub drift_step : (t : ℕ) → l.periodic ≡ false → drift l (suc t) ≤ suc (drift l t)
  drift_step t e =
      rw (drift_amount (suc t), drift_amount t, e) (connected_step _ _ l.phase t h.forward h.slope)

  pub drift_bound : (t : ℕ) → drift l t ≤ t * period l
  unfolding period
  drift_bound t = rw drift_amount (amount_bound l.periodic _ _ l.phase t h.forward h.slope)
