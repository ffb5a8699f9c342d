-- The best of a window's plain numbers when the neutral value stands before and behind the part of it that lies on the
-- line: it is the best of that part, and so the window of the line's own numbers.
-- Assumes nothing.
use mathlib.Core.Path.{◌≡◌, sym, ap, ap₂, ◌∙◌}
use mathlib.Core.Bool.{Bool}
use mathlib.Core.Logic.{by_cases}
use Prim.Native.Nat.{ℕ, zero, suc, ◌+◌, ◌-◌, ◌≤◌, ◌<◌, min}
use native.Mathlib.Nat.{add-zero, suc-add, add-suc, zero-add}
use native.Mathlib.Decide.{dec_lt}
use native.Mathlib.Omega.{arith}
use Rattle.runs.specs.Span.{chosen, best, span, span_first, span_last}
use Rattle.runs.specs.Block.{windowed}
use Rattle.filter.specs.Engine.{neutral}
use Rattle.filter.proofs.Neutral.{neutral_first, neutral_last, chosen_small}

-- the numbers of one place, read at another
best_moved : (low : Bool) (h w : ℕ → ℕ) (i k n : ℕ) → ((q : ℕ) → q ≤ n → h (i + q) ≡ w (k + q))
    → best low h i n ≡ best low w k n
unfolding best
best_moved low h w i k zero same = ap h (sym (add-zero i)) ∙ same 0 (omega arith) ∙ ap w (add-zero k)
best_moved low h w i k (suc n) same =
    ap₂ (chosen low) (ap h (sym (add-zero i)) ∙ same 0 (omega arith) ∙ ap w (add-zero k))
    (best_moved low h w (suc i) (suc k) n
    (λ q b. ap h (suc-add i q ∙ sym (add-suc i q)) ∙ same (suc q) (omega arith)
    ∙ ap w (add-suc k q ∙ sym (suc-add k q))))

module _ (low : Bool) (h : ℕ → ℕ) (bytes : (q : ℕ) → h q ≤ 255) where
  best_small : (k n : ℕ) → best low h k n ≤ 255
  unfolding best
  best_small k zero = bytes k
  best_small k (suc n) = chosen_small low (h k) (best low h (suc k) n) (bytes k) (best_small (suc k) n)

  span_small : (i k : ℕ) → span low h i k ≤ 255
  unfolding span
  span_small i k = best_small i (k - i)

  -- neutral values in front, and behind
  drop_front : (k i d : ℕ) → i + d ≤ k → ((q : ℕ) → i ≤ q → q < i + d → h q ≡ neutral low)
      → span low h i k ≡ span low h (i + d) k
  drop_front k i zero room absent = ap (λ (i : ℕ). span low h i k) (sym (add-zero i))
  drop_front k i (suc d) room absent =
      span_first low h i k (omega arith)
      ∙ ap (λ (v : ℕ). chosen low v (span low h (suc i) k)) (absent i (omega arith) (omega arith))
      ∙ neutral_first low (span low h (suc i) k) (span_small (suc i) k)
      ∙ drop_front k (suc i) d (omega arith) (λ q a b. absent q (omega arith) (omega arith))
      ∙ ap (λ (i : ℕ). span low h i k) (suc-add i d ∙ sym (add-suc i d))

  drop_back : (i k d : ℕ) → i ≤ k → ((q : ℕ) → k < q → q ≤ k + d → h q ≡ neutral low)
      → span low h i (k + d) ≡ span low h i k
  drop_back i k zero room absent = ap (span low h i) (add-zero k)
  drop_back i k (suc d) room absent =
      ap (span low h i) (add-suc k d)
      ∙ span_last low h i (k + d) (omega arith)
      ∙ ap (chosen low (span low h i (k + d))) (absent (suc (k + d)) (omega arith) (omega arith))
      ∙ neutral_last low (span low h i (k + d)) (span_small i (k + d))
      ∙ drop_back i k d room (λ q a b. absent q a (omega arith))

  -- A window of a + 1 + b numbers around number j of a line of n: its q-th is the line's number j + q - a. The line
  -- goes on for c more of the b.
  module _ (w : ℕ → ℕ) (a b n j : ℕ) (before : (q : ℕ) → j + q < a → h q ≡ neutral low)
      (on : (q : ℕ) → a ≤ j + q → j + q < n + a → h q ≡ w (j + q - a))
      (after : (q : ℕ) → n + a ≤ j + q → h q ≡ neutral low) where
    moved : (c : ℕ) → j + c < n → span low h (a - j) (a + c) ≡ span low w (j - a) (j + c)
    unfolding span
    moved c room =
        best_moved low h w (a - j) (j - a) (a + c - (a - j))
        (λ q b. on (a - j + q) (omega arith) (inside a j c n q room b) ∙ ap w (shift a j q))
        ∙ ap (best low w (j - a)) (as_long a j c)
      where
        inside : (a j c n q : ℕ) → j + c < n → q ≤ a + c - (a - j) → j + (a - j + q) < n + a
        inside a j c n q room b = omega arith

        shift : (a j q : ℕ) → j + (a - j + q) - a ≡ j - a + q
        shift a j q = omega arith

        as_long : (a j c : ℕ) → a + c - (a - j) ≡ j + c - (j - a)
        as_long a j c = omega arith

    on_line_lem : (c d : ℕ) → j + c < n → c + d ≡ b → (0 < d → n ≡ suc (j + c))
        → span low h 0 (a + b) ≡ span low w (j - a) (j + c)
    on_line_lem c d room parts cut =
        drop_front (a + b) 0 (a - j) (omega arith) (λ q from to. before q (omega arith))
        ∙ ap₂ (span low h) (zero-add (a - j)) (sum a b c d parts)
        ∙ drop_back (a - j) (a + c) d (omega arith)
        (λ q from to. let e : n ≡ suc (j + c) = cut (omega arith) in after q (omega arith))
        ∙ moved c room
      where
        sum : (a b c d : ℕ) → c + d ≡ b → a + b ≡ a + c + d
        sum a b c d e = omega arith

    pub window_is : j < n → span low h 0 (a + b) ≡ windowed low n a b w j
    unfolding windowed
    window_is below =
        by_cases
        (dec_lt (j + b) n)
        (λ k. on_line_lem b 0 k (omega arith) (λ z. absurd (omega arith)) ∙ ap (span low w (j - a)) (whole j b n k))
        (λ k. on_line_lem (n - 1 - j) (j + b - (n - 1)) (omega arith) (omega arith) (λ z. omega arith)
        ∙ ap (span low w (j - a)) (short j b n below k))
      where
        whole : (j b n : ℕ) → j + b < n → j + b ≡ min (j + b) (n - 1)
        whole j b n k = omega arith

        short : (j b n : ℕ) → j < n → ¬ (j + b < n) → j + (n - 1 - j) ≡ min (j + b) (n - 1)
        short j b n below k = omega arith
