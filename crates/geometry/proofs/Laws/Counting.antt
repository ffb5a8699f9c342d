-- The first number that passes a test, and how many of a range pass one: proofs for the laws of reach and of numbering.
-- Assumes nothing.
use Rattle.std.specs.Prelude.{◌≡◌, refl, Bool, true, false, cond, ℕ, zero, suc, ◌+◌, ◌≤◌, ◌<◌}
use Rattle.std.proofs.Common.{sym, ap, ◌∙◌, arith}
use Rattle.std.proofs.lemmas.Bool.{false≢true}
use Rattle.std.proofs.Math.Logic.{by_cases}
use Rattle.std.proofs.Math.Decide.{dec_lt}
use Rattle.geometry.specs.Number.{count}
use Rattle.geometry.specs.Drift.{First, first}

pub first_is_first : (test : ℕ → Bool) (k n : ℕ) → First test k n (first test k n)
unfolding first
first_is_first test k zero =
    record {
      from = omega arith;
      to = omega arith;
      before = λ s h i. absurd (omega arith);
      passes = λ h. absurd (omega arith);
    }
first_is_first test k (suc n) = go (test k) refl (first_is_first test (suc k) n)
  where
    go : (b : Bool) → test k ≡ b → First test (suc k) n (first test (suc k) n)
        → First test k (suc n) (cond (test k) k (first test (suc k) n))
    go true e f =
        rw e
        (record { from = omega arith; to = omega arith; before = λ s h i. absurd (omega arith); passes = λ h. e })
    go false e f =
        rw e
        (record {
          from = omega (arith, f.from);
          to = omega (arith, f.to);
          before = λ s h i. by_cases (dec_lt k s) (λ j. f.before s j i) (λ j. ap test (sym (at s h j)) ∙ e);
          passes = λ h. f.passes (omega arith);
        })
      where
        at : (s : ℕ) → k ≤ s → ¬ (k < s) → k ≡ s
        at s h j = omega arith

-- only one number is the first
pub first_unique : (test : ℕ → Bool) (k n p q : ℕ) → First test k n p → First test k n q → p ≡ q
first_unique test k n p q f g =
    by_cases
    (dec_lt p q)
    (λ h. absurd (false≢true (sym (g.before p f.from h) ∙ f.passes (omega (arith, g.to)))))
    (λ h. by_cases
    (dec_lt q p)
    (λ i. absurd (false≢true (sym (f.before q g.from i) ∙ g.passes (omega (arith, f.to)))))
    (λ i. omega arith))

-- a test that passes from lo up to hi and nowhere else passes hi - lo times
pub record Run (test : ℕ → Bool) (k n lo hi : ℕ) : Type 0 where
  pub from : k ≤ lo
  pub up : lo ≤ hi
  pub to : hi ≤ k + n
  pub before : (s : ℕ) → k ≤ s → s < lo → test s ≡ false
  pub passes : (s : ℕ) → lo ≤ s → s < hi → test s ≡ true
  pub after : (s : ℕ) → hi ≤ s → s < k + n → test s ≡ false

pub count_run : (test : ℕ → Bool) (k n lo hi : ℕ) → Run test k n lo hi → count test k n + lo ≡ hi
unfolding count
count_run test k zero lo hi r = omega (arith, r)
count_run test k (suc n) lo hi r =
    by_cases
    (dec_lt k lo)
    (λ h.
    let e : test k ≡ false = r.before k (omega arith) h in
    let rest : count test (suc k) n + lo ≡ hi =
    count_run test (suc k) n lo hi
    (record {
      from = h;
      up = r.up;
      to = omega (arith, r.to);
      before = λ s i j. r.before s (omega arith) j;
      passes = r.passes;
      after = λ s i j. r.after s i (omega arith);
    }) in
    rw e (omega arith))
    (λ h. by_cases
    (dec_lt lo hi)
    (λ i.
    let e : test k ≡ true = r.passes k (omega arith) (omega (arith, r.from)) in
    let rest : count test (suc k) n + suc lo ≡ hi =
    count_run test (suc k) n (suc lo) hi
    (record {
      from = omega (arith, r.from);
      up = i;
      to = omega (arith, r.to);
      before = λ s j m. absurd (omega (arith, r.from));
      passes = λ s j m. r.passes s (omega arith) m;
      after = λ s j m. r.after s j (omega arith);
    }) in
    rw e (omega arith))
    (λ i.
    let e : test k ≡ false = r.after k (omega (arith, r.from)) (omega arith) in
    let rest : count test (suc k) n + suc k ≡ suc k =
    count_run test (suc k) n (suc k) (suc k)
    (record {
      from = omega arith;
      up = omega arith;
      to = omega arith;
      before = λ s j m. absurd (omega arith);
      passes = λ s j m. absurd (omega arith);
      after = λ s j m. r.after s (omega (arith, r.from)) (omega arith);
    }) in
    rw e (omega (arith, r.from, r.up))))
