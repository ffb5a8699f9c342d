-- The lowest, or highest, of the values between two steps of a line: one notion for minimum and maximum.
-- Assumes nothing.
use Rattle.std.specs.Prelude.{◌≡◌, Bool, true, false, ℕ, zero, suc, ◌+◌, ◌-◌, ◌≤◌, ◌<◌, min, max}
use Rattle.std.proofs.Common.{sym, ap, ◌∙◌, zero-add, suc-add, add-suc, add-zero, arith}
use Rattle.std.proofs.Math.Nat.{sub_self}

-- of two values the lower, or the higher
unfoldable pub chosen : Bool → ℕ → ℕ → ℕ
chosen true x y = min x y
chosen false x y = max x y

-- of the values at k and the n steps after it
unfoldable pub best : Bool → (ℕ → ℕ) → ℕ → ℕ → ℕ
best low f k zero = f k
best low f k (suc n) = chosen low (f k) (best low f (suc k) n)

-- of the values from step i to step j
unfoldable pub span : Bool → (ℕ → ℕ) → ℕ → ℕ → ℕ
span low f i j = best low f i (j - i)

pub chosen_assoc : (low : Bool) (x y z : ℕ) → chosen low (chosen low x y) z ≡ chosen low x (chosen low y z)
unfolding chosen
chosen_assoc true x y z = omega arith
chosen_assoc false x y z = omega arith

pub chosen_comm : (low : Bool) (x y : ℕ) → chosen low x y ≡ chosen low y x
unfolding chosen
chosen_comm true x y = omega arith
chosen_comm false x y = omega arith

-- ---- laws

best_join : (low : Bool) (f : ℕ → ℕ) (k m n : ℕ) → best low f k (suc (m + n)) ≡ chosen low (best low f k m) (best low f (suc (k + m)) n)
unfolding best
best_join low f k zero n = ap (λ (q : ℕ). chosen low (f k) (best low f (suc k) q)) (zero-add n) ∙ ap (λ (q : ℕ). chosen low (f k) (best low f (suc q) n)) (sym (add-zero k))
best_join low f k (suc m) n =
    ap (λ (q : ℕ). chosen low (f k) (best low f (suc k) q)) (suc-add m n)
    ∙ ap (chosen low (f k)) (best_join low f (suc k) m n)
    ∙ sym (chosen_assoc low (f k) (best low f (suc k) m) (best low f (suc (suc k + m)) n))
    ∙ ap (λ (q : ℕ). chosen low (chosen low (f k) (best low f (suc k) m)) (best low f (suc q) n)) (suc-add k m ∙ sym (add-suc k m))

-- one step alone
pub span_one : (low : Bool) (f : ℕ → ℕ) (i : ℕ) → span low f i i ≡ f i
unfolding span best
span_one low f i = rw sub_self

-- cut after step j
pub span_join : (low : Bool) (f : ℕ → ℕ) (i j k : ℕ) → i ≤ j → j < k → span low f i k ≡ chosen low (span low f i j) (span low f (suc j) k)
unfolding span
span_join low f i j k h g =
    let e : k - i ≡ suc (j - i + (k - suc j)) = omega arith in
    let e' : i + (j - i) ≡ j = omega arith in
    ap (best low f i) e
    ∙ best_join low f i (j - i) (k - suc j)
    ∙ ap (λ (q : ℕ). chosen low (best low f i (j - i)) (best low f (suc q) (k - suc j))) e'

-- the first step taken off, and the last
pub span_first : (low : Bool) (f : ℕ → ℕ) (i k : ℕ) → i < k → span low f i k ≡ chosen low (f i) (span low f (suc i) k)
span_first low f i k h = span_join low f i i k (omega arith) h ∙ ap (λ (v : ℕ). chosen low v (span low f (suc i) k)) (span_one low f i)

pub span_last : (low : Bool) (f : ℕ → ℕ) (i j : ℕ) → i ≤ j → span low f i (suc j) ≡ chosen low (span low f i j) (f (suc j))
span_last low f i j h = span_join low f i j (suc j) h (omega arith) ∙ ap (chosen low (span low f i j)) (span_one low f (suc j))

-- it looks only at the steps between its ends
best_same : (low : Bool) (f g : ℕ → ℕ) (k n : ℕ) → ((q : ℕ) → k ≤ q → q ≤ k + n → f q ≡ g q) → best low f k n ≡ best low g k n
unfolding best
best_same low f g k zero h = h k (omega arith) (omega arith)
best_same low f g k (suc n) h =
    let here : f k ≡ g k = h k (omega arith) (omega arith) in
    let rest : best low f (suc k) n ≡ best low g (suc k) n = best_same low f g (suc k) n (λ q a b. h q (omega arith) (omega arith)) in
    cc

pub span_same : (low : Bool) (f g : ℕ → ℕ) (i j : ℕ) → i ≤ j → ((q : ℕ) → i ≤ q → q ≤ j → f q ≡ g q) → span low f i j ≡ span low g i j
unfolding span
span_same low f g i j le h = best_same low f g i (j - i) (λ q a b. h q a (omega arith))
