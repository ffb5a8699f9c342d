-- Two passes over numbers that are 0 or 1: a run of one value on a line of the other comes through if it is as long as
-- the window, and is wiped out where one of its numbers is changed.
-- Assumes nothing.
use mathlib.Core.Path.{◌≡◌, refl, ap, ap₂, ◌∙◌}
use mathlib.Core.Bool.{Bool, true, false, not, ◌&&◌, cond}
use mathlib.Core.Logic.{by_cases}
use Prim.Native.Nat.{ℕ, zero, suc, ◌+◌, ◌-◌, ◌≤◌, ◌<◌}
use native.Mathlib.Decide.{dec_lt}
use native.Mathlib.Omega.{arith}
use borrow.Author.Tests.{le-leb, lt-leb, eq-eqb, ne_eqb}
use lib.Dec.{leb, eqb}
use Rattle.runs.specs.Span.{chosen, best}

-- of 0 and 1 the one that is lowest, or highest
unfoldable pub winner : Bool → ℕ
winner true = 0
winner false = 1

pub winner_small : (low : Bool) → winner low ≤ 1
unfolding winner
winner_small true = omega arith
winner_small false = omega arith

pub winners_differ : (low : Bool) → winner low ≡ winner (not low) → ⊥
unfolding winner
winners_differ true e = omega arith
winners_differ false e = omega arith

chosen_small : (low : Bool) (x y : ℕ) → x ≤ 1 → y ≤ 1 → chosen low x y ≤ 1
unfolding chosen
chosen_small true x y h k = omega arith
chosen_small false x y h k = omega arith

chosen_first : (low : Bool) (x y : ℕ) → x ≡ winner low → y ≤ 1 → chosen low x y ≡ winner low
unfolding chosen winner
chosen_first true x y h k = omega arith
chosen_first false x y h k = omega arith

chosen_last : (low : Bool) (x y : ℕ) → x ≤ 1 → y ≡ winner low → chosen low x y ≡ winner low
unfolding chosen winner
chosen_last true x y h k = omega arith
chosen_last false x y h k = omega arith

chosen_same : (low : Bool) (x y v : ℕ) → x ≡ v → y ≡ v → chosen low x y ≡ v
unfolding chosen
chosen_same true x y v h k = omega arith
chosen_same false x y v h k = omega arith

module _ (low : Bool) (f : ℕ → ℕ) where
  -- where all are the same
  pub best_all : (v k n : ℕ) → ((q : ℕ) → k ≤ q → q ≤ k + n → f q ≡ v) → best low f k n ≡ v
  unfolding best
  best_all v k zero all = all k (omega arith) (omega arith)
  best_all v k (suc n) all =
      chosen_same low (f k) (best low f (suc k) n) v (all k (omega arith) (omega arith))
      (best_all v (suc k) n (λ q h i. all q (omega arith) (omega arith)))

  pub best_small : (k n : ℕ) → ((q : ℕ) → k ≤ q → q ≤ k + n → f q ≤ 1) → best low f k n ≤ 1
  unfolding best
  best_small k zero small = small k (omega arith) (omega arith)
  best_small k (suc n) small =
      chosen_small low (f k) (best low f (suc k) n) (small k (omega arith) (omega arith))
      (best_small (suc k) n (λ q h i. small q (omega arith) (omega arith)))

  -- where one is the winner
  pub best_wins : (j k n : ℕ) → ((q : ℕ) → f q ≤ 1) → k ≤ j → j ≤ k + n → f j ≡ winner low → best low f k n ≡ winner low
  unfolding best
  best_wins j k zero small from to e =
      let here : k ≡ j = omega arith in
      ap f here ∙ e
  best_wins j k (suc n) small from to e =
      by_cases
      (dec_lt k j)
      (λ h. chosen_last low (f k) (best low f (suc k) n) (small k) (best_wins j (suc k) n small h (omega arith) e))
      (λ h.
      let here : k ≡ j = omega arith in
      chosen_first low (f k) (best low f (suc k) n) (ap f here ∙ e) (best_small (suc k) n (λ q i i'. small q)))

-- the two passes at number x: the first window begins a before its number, the second one b before
unfoldable pub twice : Bool → ℕ → ℕ → (ℕ → ℕ) → ℕ → ℕ
twice low a b f x = best (not low) (λ (y : ℕ). best low f (y - a) (a + b)) (x - b) (a + b)

module _ (low : Bool) (a b x q : ℕ) (f : ℕ → ℕ) (small : (k : ℕ) → f k ≤ 1) (room : a + b ≤ x) (from : q ≤ x)
    (to : x ≤ q + (a + b)) where
  -- a run of a + b + 1 losers from q on, and x is one of them
  pub run_stays : ((k : ℕ) → q ≤ k → k ≤ q + (a + b) → f k ≡ winner (not low)) → twice low a b f x ≡ winner (not low)
  unfolding twice
  run_stays run =
      best_wins (not low) (λ (y : ℕ). best low f (y - a) (a + b)) (q + a) (x - b) (a + b)
      (λ y. best_small low f (y - a) (a + b) (λ k i j. small k))
      (omega arith) (omega arith)
      (best_all low f (winner (not low)) (q + a - a) (a + b) (λ k i j. run k (omega arith) (omega arith)))

  -- the same with a winner at s of the run, and winners before and behind the run
  pub run_goes :
      (s : ℕ) → q ≤ s → s ≤ q + (a + b) → f s ≡ winner low → ((k : ℕ) → k < q → f k ≡ winner low)
      → ((k : ℕ) → q + (a + b) < k → f k ≡ winner low) → twice low a b f x ≡ winner low
  unfolding twice
  run_goes s s-from s-to at before behind =
      best_all (not low) (λ (y : ℕ). best low f (y - a) (a + b)) (winner low) (x - b) (a + b) each
    where
      each : (y : ℕ) → x - b ≤ y → y ≤ x - b + (a + b) → best low f (y - a) (a + b) ≡ winner low
      each y h i =
          by_cases (dec_lt (y - a) q)
          (λ l. best_wins low f (y - a) (y - a) (a + b) small (omega arith) (omega arith) (before (y - a) l))
          (λ l.
          by_cases (dec_lt q (y - a))
          (λ g. best_wins low f (y - a + (a + b)) (y - a) (a + b) small (omega arith) (omega arith)
          (behind (y - a + (a + b)) (omega arith)))
          (λ g.
          let same : q ≡ y - a = omega arith in
          best_wins low f s (y - a) (a + b) small (omega arith) (omega arith) at))

-- ---- a run of n + 1 losers from q on among winners, and the same with a winner at s

unfoldable pub run : Bool → ℕ → ℕ → ℕ → ℕ
run low q n k = cond (leb q k && leb k (q + n)) (winner (not low)) (winner low)

unfoldable pub changed : Bool → ℕ → ℕ → ℕ → ℕ → ℕ
changed low q n s k = cond (eqb k s) (winner low) (run low q n k)

pub picked_small : (test : Bool) (x y : ℕ) → x ≤ 1 → y ≤ 1 → cond test x y ≤ 1
picked_small true x y h k = h
picked_small false x y h k = k

module _ (low : Bool) (q n : ℕ) where
  pub run_small : (k : ℕ) → run low q n k ≤ 1
  unfolding run
  run_small k =
      picked_small (leb q k && leb k (q + n)) (winner (not low)) (winner low) (winner_small (not low))
      (winner_small low)

  run_by :
      (one two : Bool) (k : ℕ) → leb q k ≡ one → leb k (q + n) ≡ two
      → run low q n k ≡ cond (one && two) (winner (not low)) (winner low)
  unfolding run
  run_by one two k h i = ap₂ (λ (one two : Bool). cond (one && two) (winner (not low)) (winner low)) h i

  run_in : (k : ℕ) → q ≤ k → k ≤ q + n → run low q n k ≡ winner (not low)
  run_in k h i = run_by true true k (le-leb q k h) (le-leb k (q + n) i)

  run_before : (k : ℕ) → k < q → run low q n k ≡ winner low
  run_before k h = run_by false (leb k (q + n)) k (lt-leb q k h) refl

  run_behind : (k : ℕ) → q + n < k → run low q n k ≡ winner low
  run_behind k h = run_by true false k (le-leb q k (omega arith)) (lt-leb k (q + n) h)

  module _ (s : ℕ) where
    pub changed_at : changed low q n s s ≡ winner low
    unfolding changed
    changed_at = ap (λ (test : Bool). cond test (winner low) (run low q n s)) (eq-eqb s s refl)

    pub changed_else : (k : ℕ) → (k ≡ s → ⊥) → changed low q n s k ≡ run low q n k
    unfolding changed
    changed_else k h = ap (λ (test : Bool). cond test (winner low) (run low q n k)) (ne_eqb k s h)

    changed_small : (k : ℕ) → changed low q n s k ≤ 1
    unfolding changed
    changed_small k = picked_small (eqb k s) (winner low) (run low q n k) (winner_small low) (run_small k)

-- x and s are two of the run: the two passes tell it from the changed one
pub twice_run :
    (low : Bool) (a b x q : ℕ) → a + b ≤ x → q ≤ x → x ≤ q + (a + b)
    → twice low a b (run low q (a + b)) x ≡ winner (not low)
twice_run low a b x q room from to =
    run_stays low a b x q (run low q (a + b)) (run_small low q (a + b)) room from to (run_in low q (a + b))

pub twice_changed :
    (low : Bool) (a b x q s : ℕ) → a + b ≤ x → q ≤ x → x ≤ q + (a + b) → q ≤ s → s ≤ q + (a + b)
    → twice low a b (changed low q (a + b) s) x ≡ winner low
twice_changed low a b x q s room from to s-from s-to =
    run_goes low a b x q (changed low q (a + b) s) (changed_small low q (a + b) s) room from to s s-from s-to
    (changed_at low q (a + b) s)
    (λ k h. changed_else low q (a + b) s k (λ e. omega arith) ∙ run_before low q (a + b) k h)
    (λ k h. changed_else low q (a + b) s k (λ e. omega arith) ∙ run_behind low q (a + b) k h)
