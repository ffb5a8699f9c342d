-- Which vectors and phases a ticket may order. Document 01, 'The ticket'.
-- Assumes nothing.
use Rattle.std.specs.Prelude.{ℕ, zero, suc, ◌%◌, max, Bool, false, not, ◌&&◌, ◌||◌, cond, ltb, leb, eqb, ℤ, nat_abs}
use Rattle.vectors.specs.Vector.{shallow, steep}

-- whether one of the n numbers from d on divides both sizes
unfoldable pub divided : ℕ → ℕ → ℕ → ℕ → Bool
divided a b d zero = false
divided a b d (suc n) = (eqb (a % d) 0 && eqb (b % d) 0) || divided a b (suc d) n

-- "without a common divisor above 1": no component is above 255, so the divisors 2 to 255 are all there are
unfoldable pub coprime : ℤ → ℤ → Bool
coprime dx dy = not (divided (nat_abs dx) (nat_abs dy) 2 254)

-- | 6 | vector not allowed |: "The vector is shallow .. or steep .., each component within -255 to 255. A connected
-- line also needs dx and dy without a common divisor above 1; 0/1 and 1/0 are allowed."
unfoldable pub vector_allowed : Bool → ℤ → ℤ → Bool
vector_allowed periodic dx dy =
    (shallow dx dy || steep dx dy) && (leb (nat_abs dx) 255 && leb (nat_abs dy) 255) && (periodic || coprime dx dy)

-- | 9 | phase not allowed |: "connected, below max(abs dx, abs dy); periodic, 0"
unfoldable pub phase_allowed : Bool → ℤ → ℤ → ℕ → Bool
phase_allowed periodic dx dy i = cond periodic (eqb i 0) (ltb i (max (nat_abs dx) (nat_abs dy)))
