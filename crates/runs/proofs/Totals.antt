-- Sums of numbers one after the other. Assumes nothing.
use mathlib.Core.Path.{◌≡◌, refl, sym, ap, ap₂, ◌∙◌}
use mathlib.Core.Bool.{Bool, true, false, cond}
use Prim.Native.Nat.{ℕ, zero, suc, ◌+◌, ◌*◌, ◌≤◌, ◌<◌}
use native.Mathlib.Nat.{suc-mul, suc-add, zero-mul, zero-add, add-zero}
use native.Mathlib.Numerals.{add-one}
use native.Mathlib.Omega.{arith}
use Rattle.runs.specs.Scratch.{total}

pub total_more : (cost : ℕ → ℕ) (k n : ℕ) → total cost k (n + 1) ≡ total cost k n + cost (k + n)
unfolding total
total_more cost k zero = omega (arith, ap cost (add-zero k))
total_more cost k (suc n) =
    let ih : total cost (suc k) (n + 1) ≡ total cost (suc k) n + cost (suc k + n) = total_more cost (suc k) n in
    let at : cost (suc k + n) ≡ cost (k + suc n) = ap cost (omega arith) in
    ap (total cost k) (add-one (suc n)) ∙ ap (λ (i : ℕ). cost k + total cost (suc k) i) (sym (add-one n)) ∙ omega arith

pub total_first : (cost : ℕ → ℕ) (k n : ℕ) → total cost k (suc n) ≡ cost k + total cost (suc k) n
unfolding total
total_first cost k n = refl

pub total_most : (cost : ℕ → ℕ) → ((k : ℕ) → cost k ≤ 1) → (k n : ℕ) → total cost k n ≤ n
unfolding total
total_most cost one k zero = omega arith
total_most cost one k (suc n) = omega (arith, one k, total_most cost one (suc k) n)

pub cond_most : (b : Bool) → cond b 0 1 ≤ 1
cond_most true = omega arith
cond_most false = omega arith

-- a sum in two parts
pub total_join : (cost : ℕ → ℕ) (k m n : ℕ) → total cost k (m + n) ≡ total cost k m + total cost (k + m) n
unfolding total
total_join cost k zero n = ap₂ (total cost) (sym (add-zero k)) (zero-add n) ∙ sym (zero-add (total cost (k + 0) n))
total_join cost k (suc m) n =
    let ih : total cost (suc k) (m + n) ≡ total cost (suc k) m + total cost (suc k + m) n = total_join cost (suc k) m n in
    let at : total cost (suc k + m) n ≡ total cost (k + suc m) n = ap (λ (i : ℕ). total cost i n) (omega arith) in
    ap (total cost k) (suc-add m n) ∙ omega arith

-- a sum of equal numbers
pub total_same : (cost : ℕ → ℕ) (v k n : ℕ) → ((i : ℕ) → k ≤ i → i < k + n → cost i ≡ v) → total cost k n ≡ n * v
unfolding total
total_same cost v k zero same = sym (zero-mul v)
total_same cost v k (suc n) same =
    let here : cost k ≡ v = same k (omega arith) (omega arith) in
    let rest : total cost (suc k) n ≡ n * v = total_same cost v (suc k) n (λ i lo hi. same i (omega arith) (omega arith)) in
    omega (arith, suc-mul n v)

-- two sums of the same numbers, from two places
pub total_shift : (cost cost' : ℕ → ℕ) (i j n : ℕ) → ((k : ℕ) → k < n → cost (i + k) ≡ cost' (j + k)) → total cost i n ≡ total cost' j n
unfolding total
total_shift cost cost' i j zero same = refl
total_shift cost cost' i j (suc n) same =
    let at : cost i ≡ cost' j = ap cost (sym (add-zero i)) ∙ same 0 (omega arith) ∙ ap cost' (add-zero j) in
    let rest : total cost (suc i) n ≡ total cost' (suc j) n =
    total_shift cost cost' (suc i) (suc j) n (λ k h.
    let one : suc i + k ≡ i + suc k = omega arith in
    let two : j + suc k ≡ suc j + k = omega arith in
    ap cost one ∙ same (suc k) (omega arith) ∙ ap cost' two) in
    omega arith

-- a sum looks only at its own numbers
pub total_alike : (cost cost' : ℕ → ℕ) (k n : ℕ) → ((i : ℕ) → k ≤ i → i < k + n → cost i ≡ cost' i) → total cost k n ≡ total cost' k n
unfolding total
total_alike cost cost' k zero same = refl
total_alike cost cost' k (suc n) same =
    let here : cost k ≡ cost' k = same k (omega arith) (omega arith) in
    let rest : total cost (suc k) n ≡ total cost' (suc k) n = total_alike cost cost' (suc k) n (λ i lo hi. same i (omega arith) (omega arith)) in
    omega arith
