-- A page with absent pixels as a page of plain numbers: an absent pixel holds the neutral value, 255 where the lowest
-- is sought and 0 where the highest is, which no byte loses against. What is found among a window's values is then
-- found among the plain numbers.
-- Assumes nothing.
use mathlib.Core.Path.{◌≡◌, refl, sym, ap, ◌∙◌}
use mathlib.Core.Bool.{Bool, true, false}
use mathlib.Core.Option.{Option, none, some, some-injective, none-ne-some}
use Prim.Native.Nat.{ℕ, zero, suc, ◌≤◌}
use native.Mathlib.Omega.{arith}
use Rattle.runs.specs.Span.{chosen, best}
use Rattle.filter.specs.Filters.{joined, extreme}
use Rattle.filter.specs.Engine.{neutral, or_neutral}

-- ---- one value

-- a value that is absent or a byte
unfoldable pub Small : Option ℕ → Type 0
Small o = (v : ℕ) → o ≡ some v → v ≤ 255

pub small_none : Small none
unfolding Small
small_none v e = absurd (none-ne-some v e)

pub small_some : (v : ℕ) → v ≤ 255 → Small (some v)
unfolding Small
small_some v h w e = let same : v ≡ w = some-injective v w e in omega arith

small_in : (v : ℕ) → Small (some v) → v ≤ 255
unfolding Small
small_in v h = h v refl

pub chosen_small : (low : Bool) (x y : ℕ) → x ≤ 255 → y ≤ 255 → chosen low x y ≤ 255
unfolding chosen
chosen_small true x y h k = omega arith
chosen_small false x y h k = omega arith

-- the neutral value loses against every byte
pub neutral_first : (low : Bool) (v : ℕ) → v ≤ 255 → chosen low (neutral low) v ≡ v
unfolding chosen neutral
neutral_first true v h = omega arith
neutral_first false v h = omega arith

pub neutral_last : (low : Bool) (v : ℕ) → v ≤ 255 → chosen low v (neutral low) ≡ v
unfolding chosen neutral
neutral_last true v h = omega arith
neutral_last false v h = omega arith

neutral_small : (low : Bool) → neutral low ≤ 255
unfolding neutral
neutral_small true = omega arith
neutral_small false = omega arith

pub or_neutral_small : (low : Bool) (o : Option ℕ) → Small o → or_neutral low o ≤ 255
unfolding or_neutral
or_neutral_small low none h = neutral_small low
or_neutral_small low (some v) h = small_in v h

-- ---- two values, and a window of them

pub joined_small : (low : Bool) (x y : Option ℕ) → Small x → Small y → Small (joined low x y)
unfolding joined
joined_small low none y h k = k
joined_small low (some x) none h k = h
joined_small low (some x) (some y) h k =
    small_some (chosen low x y) (chosen_small low x y (small_in x h) (small_in y k))

pub joined_chosen : (low : Bool) (x y : Option ℕ) → Small x → Small y
    → or_neutral low (joined low x y) ≡ chosen low (or_neutral low x) (or_neutral low y)
unfolding joined or_neutral
joined_chosen low none none h k = sym (neutral_first low (neutral low) (neutral_small low))
joined_chosen low none (some y) h k = sym (neutral_first low y (small_in y k))
joined_chosen low (some x) none h k = sym (neutral_last low x (small_in x h))
joined_chosen low (some x) (some y) h k = refl

module _ (low : Bool) (value : ℕ → Option ℕ) (bytes : (k : ℕ) → Small (value k)) where
  pub extreme_small : (k n : ℕ) → Small (extreme low value k n)
  unfolding extreme
  extreme_small k zero = small_none
  extreme_small k (suc n) = joined_small low (value k) (extreme low value (suc k) n) (bytes k) (extreme_small (suc k) n)

  -- the extreme of n + 1 values is the best of the plain numbers
  pub extreme_best : (k n : ℕ)
      → or_neutral low (extreme low value k (suc n)) ≡ best low (λ (q : ℕ). or_neutral low (value q)) k n
  unfolding extreme best or_neutral
  extreme_best k zero =
      joined_chosen low (value k) none (bytes k) small_none
      ∙ neutral_last low (or_neutral low (value k)) (or_neutral_small low (value k) (bytes k))
  extreme_best k (suc n) =
      joined_chosen low (value k) (extreme low value (suc k) (suc n)) (bytes k) (extreme_small (suc k) (suc n))
      ∙ ap (chosen low (or_neutral low (value k))) (extreme_best (suc k) n)

-- a value that is there is what stands for it
pub there_is : (low : Bool) (o : Option ℕ) (w : ℕ) → o ≡ some w → o ≡ some (or_neutral low o)
unfolding or_neutral
there_is low o w e = e ∙ ap {B = Option ℕ} some (sym (ap (or_neutral low) e))
