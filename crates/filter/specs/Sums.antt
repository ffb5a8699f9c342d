-- Sums over a side of a page: what those may use who add up what pixels are charged (Work).
-- Assumes nothing.
use Rattle.std.specs.Prelude.{◌≡◌, Bool, true, false}
use Rattle.std.proofs.Math.Path.{refl}
use Rattle.std.proofs.Common.{sym, ap, ap₂, ◌∙◌, add-zero, suc-add, add-suc, zero-add}
use Prim.Native.Nat.{ℕ, zero, suc, ◌+◌, ◌-◌, ◌≤◌, ◌<◌}
use native.Mathlib.Omega.{arith}
use Rattle.geometry.specs.Drift.{mirrored}
use Rattle.geometry.proofs.Laws.{mirrored_falling, mirrored_none}
use Rattle.runs.specs.Scratch.{total}

-- a sum looks only at the numbers between its ends
pub total_same : (c d : ℕ → ℕ) (k n : ℕ) → ((q : ℕ) → k ≤ q → q < k + n → c q ≡ d q) → total c k n ≡ total d k n
unfolding total
total_same c d k zero h = refl
total_same c d k (suc n) h =
    ap₂ ◌+◌ (h k (omega arith) (omega arith)) (total_same c d (suc k) n (λ q a b. h q (omega arith) (omega arith)))

-- number by number, two sums make one
pub total_plus : (c d : ℕ → ℕ) (k n : ℕ) → total (λ (q : ℕ). c q + d q) k n ≡ total c k n + total d k n
unfolding total
total_plus c d k zero = refl
total_plus c d k (suc n) =
    let rest : total (λ (q : ℕ). c q + d q) (suc k) n ≡ total c (suc k) n + total d (suc k) n =
    total_plus c d (suc k) n in
    omega arith

-- the last number taken off
total_last : (c : ℕ → ℕ) (k n : ℕ) → total c k (suc n) ≡ total c k n + c (k + n)
unfolding total
total_last c k zero = omega (arith, ap c (add-zero k))
total_last c k (suc n) =
    let rest : total c (suc k) (suc n) ≡ total c (suc k) n + c (suc k + n) = total_last c (suc k) n in
    let same : c (suc k + n) ≡ c (k + suc n) = ap c (suc-add k n ∙ sym (add-suc k n)) in
    omega arith

-- a sum read backwards: its numbers from k on are those from k' + n down
total_back : (c : ℕ → ℕ) (d : ℕ → ℕ) (k k' n : ℕ) → ((i : ℕ) → i < n → d (k + i) ≡ c (k' + (n - 1 - i)))
    → total d k n ≡ total c k' n
total_back c d k k' zero h = unfold total in refl
total_back c d k k' (suc n) h =
    let first : d k ≡ c (k' + n) =
    ap d (sym (add-zero k)) ∙ h 0 (omega arith) ∙ ap (λ (q : ℕ). c (k' + q)) (whole n) in
    let rest : total d (suc k) n ≡ total c k' n =
    total_back c d (suc k) k' n
    (λ i b. ap d (suc-add k i ∙ sym (add-suc k i)) ∙ h (suc i) (omega arith) ∙ ap (λ (q : ℕ). c (k' + q)) (less n i)) in
    let one : total d k (suc n) ≡ d k + total d (suc k) n = unfold total in refl in
    let last : total c k' (suc n) ≡ total c k' n + c (k' + n) = total_last c k' n in
    omega arith
  where
    whole : (n : ℕ) → suc n - 1 - 0 ≡ n
    whole n = omega arith

    less : (n i : ℕ) → suc n - 1 - suc i ≡ n - 1 - i
    less n i = omega arith

-- a sum over a side is the same, counted from its other end
pub total_mirrored : (falling : Bool) (c : ℕ → ℕ) (W : ℕ)
    → total (λ (m : ℕ). c (mirrored falling W m)) 0 W ≡ total c 0 W
total_mirrored true c W =
    total_back c (λ (m : ℕ). c (mirrored true W m)) 0 0 W
    (λ i h. ap c (ap (mirrored true W) (zero-add i) ∙ mirrored_falling W i ∙ sym (zero-add (W - 1 - i))))
total_mirrored false c W = ap (λ (f : ℕ → ℕ). total (λ (m : ℕ). c (f m)) 0 W) (mirrored_none W)
