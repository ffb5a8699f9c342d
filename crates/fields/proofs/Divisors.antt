-- Common divisors: Euclid's step keeps them, and at its end they are plain to see. Assumes nothing.
use mathlib.Core.Path.{◌≡◌, refl, sym, ap, ◌∙◌}
use mathlib.Core.Logic.{by_cases}
use Prim.Native.Nat.{ℕ, zero, suc, ◌+◌, ◌%◌, ◌<◌, ◌≤◌}
use native.Mathlib.Nat.{mod_self, zero-mod, mod-mod_of_dvd, dvd_of_mod-eq-zero}
use native.Mathlib.Decide.{dec_lt}
use native.Mathlib.Omega.{arith}
use borrow.Author.Tests.{eqb-true, ne_eqb}
use mathlib.Core.Bool.{Bool, true, false, not, ◌&&◌, and-true, and-false, or-true}
use lib.Dec.{eqb}
use Rattle.fields.specs.Vectors.{divided}

-- d divides a and b just when it divides b and the rest of a by b
same_divisor : (a b d : ℕ) (t : Bool) → eqb (b % d) 0 ≡ t → (eqb (a % d) 0 && t) ≡ (t && eqb (a % b % d) 0)
same_divisor a b d false e = and-false (eqb (a % d) 0)
same_divisor a b d true e =
    and-true (eqb (a % d) 0)
    ∙ ap (λ (n : ℕ). eqb n 0) (sym (mod-mod_of_dvd d a (dvd_of_mod-eq-zero d (eqb-true (b % d) 0 e))))

pub euclid : (a b d n : ℕ) → divided b (a % b) d n ≡ divided a b d n
unfolding divided
euclid a b d zero = refl
euclid a b d (suc n) = rw (← same_divisor a b d (eqb (b % d) 0) refl, euclid a b (suc d) n)

-- a number from d on divides itself and 0
itself : (a d n : ℕ) → d ≤ a → a < d + n → divided a 0 d n ≡ true
unfolding divided
itself a d zero h k = let z : ⊥ = omega arith in absurd z
itself a d (suc n) h k =
    by_cases (dec_lt d a) (λ l. rw (itself a (suc d) n l (omega arith), or-true))
    (λ l. let e : d ≡ a = omega arith in rw (e, mod_self a, zero-mod a))

alone : (a : ℕ) → a ≤ 255 → not (eqb a 1) ≡ divided a 0 2 254
unfolding divided
alone zero h = refl
alone (suc zero) h = refl
alone (suc (suc a)) h =
    ap not (ne_eqb (suc (suc a)) 1 (λ e. omega arith)) ∙ sym (itself (suc (suc a)) 2 254 (omega arith) (omega arith))

pub at_end : (a b : ℕ) → a ≤ 255 → b ≡ 0 → not (eqb a 1) ≡ divided a b 2 254
at_end a b h e = rw e (alone a h)
