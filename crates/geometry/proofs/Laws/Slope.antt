-- A vector that is shallow or steep goes forward along its major axis, and no faster along the minor one.
-- Assumes nothing.
use Rattle.std.specs.Prelude.{◌≡◌, refl, Bool, true, false, cond, ◌||◌, ℕ, ◌≤◌, max, leb, ltb, ℤ, pos, negsuc, nat_abs}
use Rattle.std.proofs.Common.{sym, arith, ltb-true, leb-true}
use Rattle.std.proofs.lemmas.Bool.{false≢true}
use Rattle.std.proofs.Math.Bool.{and-eq-true_iff}
use Rattle.std.proofs.Math.Nat.{max-eq_left, max-eq_right}
use Rattle.vectors.specs.Vector.{shallow, steep, Shallow, Steep, major_of, minor_of}

pub shallow_is : (dx dy : ℤ) → shallow dx dy ≡ true → Shallow dx dy
unfolding shallow
shallow_is (pos a) dy e =
    let both = (and-eq-true_iff (leb 1 a) (leb (nat_abs dy) a)).0 e in
    record { forward = refl; least = leb-true 1 a both.0; slope = leb-true (nat_abs dy) a both.1 }
shallow_is (negsuc a) dy e = absurd (false≢true e)

pub steep_is : (dx dy : ℤ) → steep dx dy ≡ true → Steep dx dy
unfolding steep
steep_is dx (pos a) e =
    let both = (and-eq-true_iff (leb 1 a) (ltb (nat_abs dx) a)).0 e in
    record { forward = refl; least = leb-true 1 a both.0; slope = ltb-true (nat_abs dx) a both.1 }
steep_is dx (negsuc a) e = absurd (false≢true e)

-- by which of the two a vector is
pub record Runs (dx dy : ℤ) (major : ℕ) (minor : ℤ) : Type 0 where
  pub forward : 1 ≤ major
  pub slope : nat_abs minor ≤ major
  pub larger : major ≡ max (nat_abs dx) (nat_abs dy)

pub runs : (dx dy : ℤ) → shallow dx dy || steep dx dy ≡ true → Runs dx dy (major_of dx dy) (minor_of dx dy)
unfolding major_of minor_of
runs dx dy e = go (steep dx dy) refl (shallow dx dy) refl e
  where
    go : (b : Bool) → steep dx dy ≡ b → (a : Bool) → shallow dx dy ≡ a → a || b ≡ true
        → Runs dx dy (cond b (nat_abs dy) (nat_abs dx)) (cond b dx dy)
    go true f a g i =
        let s = steep_is dx dy f in
        let below : nat_abs dx ≤ nat_abs dy = omega (arith, s.slope) in
        record { forward = s.least; slope = below; larger = sym (max-eq_right below) }
    go false f true g i =
        let s = shallow_is dx dy g in
        record { forward = s.least; slope = s.slope; larger = sym (max-eq_left s.slope) }
    go false f false g i = absurd (false≢true i)

pub major_near : (dx dy : ℤ) (n : ℕ) → nat_abs dx ≤ n → nat_abs dy ≤ n → major_of dx dy ≤ n
unfolding major_of
major_near dx dy n h k = go (steep dx dy)
  where
    go : (b : Bool) → cond b (nat_abs dy) (nat_abs dx) ≤ n
    go true = k
    go false = h
