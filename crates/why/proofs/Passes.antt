-- The windows of two passes end to end, in the row of the values near a pixel: L = a + 1 + b, the windows of the first
-- pass begin a steps before their pixels and that of the second b steps before its own, and the row begins a + b steps
-- before the pixel. What a window has is then a part of the row, and the first pass along the line is a pass along the
-- row.
-- Assumes nothing.
use mathlib.Core.Path.{◌≡◌, refl, sym, ap, ◌∙◌}
use mathlib.Core.Bool.{Bool, cond}
use mathlib.Core.Logic.{by_cases}
use mathlib.Core.Option.{Option, none, some}
use Prim.Native.Nat.{ℕ, ◌+◌, ◌-◌, ◌≤◌, ◌<◌}
use native.Mathlib.Decide.{dec_le}
use native.Mathlib.Nat.{add-zero}
use native.Mathlib.Omega.{arith}
use borrow.Author.Tests.{le-leb, lt-leb}
use lib.Dec.{leb}
use Rattle.geometry.specs.Line.{landing, step_of, major_at}
use Rattle.geometry.specs.Drift.{Sound}
use Rattle.geometry.proofs.Laws.{step_of_major}
use Rattle.geometry.specs.declared.Line.{Line}
use Rattle.filter.specs.Seen.{View}
use Rattle.filter.specs.Filters.{extreme, value_at, on_line, in_window, pass_at, pass}
use Rattle.filter.proofs.Laws.{extreme_shifted, same_line}
use Rattle.finding.specs.Row.{pass_at_place, pass_in}

-- the steps of a window of the pixel itself, in a row that begins further before it
pub window_at : (l : Line) (page : View) (reach M m i a k : ℕ) → a + i ≡ reach + k → a ≤ reach
    → in_window l page a M m k ≡ in_window l page reach M m i
unfolding in_window
window_at l page reach M m i a k same low =
    let t : ℕ = step_of l M in
    by_cases (dec_le a (t + k))
    (λ h.
    let step : t + k - a ≡ t + i - reach = omega arith in
    ap (λ (b : Bool). cond b (on_line l page M m (t + k - a)) none) (le-leb a (t + k) h)
    ∙ ap (on_line l page M m) step
    ∙ sym (ap (λ (b : Bool). cond b (on_line l page M m (t + i - reach)) none) (le-leb reach (t + i) (omega arith))))
    (λ h.
    ap (λ (b : Bool). cond b (on_line l page M m (t + k - a)) none) (lt-leb a (t + k) (omega arith))
    ∙ sym
    (ap (λ (b : Bool). cond b (on_line l page M m (t + i - reach)) none) (lt-leb reach (t + i) (omega arith))))

module _ (l : Line) (sound : Sound l) (page : View) (reach M m : ℕ) where
  abbrev row : ℕ → Option ℕ
  row i = in_window l page reach M m i

  -- the pixel at place i of the row: a step of the line
  module _ (i m' : ℕ) (after : reach ≤ step_of l M + i)
      (there : landing l m (step_of l M) (step_of l M + i - reach) ≡ some m') where
    abbrev x : ℕ
    x = step_of l M + i - reach

    -- the window of that pixel is a part of the row
    pub window_of : (a k : ℕ) → a ≤ i → in_window l page a (major_at l M x) m' k ≡ row (i - a + k)
    unfolding in_window
    window_of a k low =
        let t : ℕ = step_of l M in
        let own : step_of l (major_at l M x) ≡ x = step_of_major l sound M x in
        ap (λ (q : ℕ). cond (leb a (q + k)) (on_line l page (major_at l M x) m' (q + k - a)) none) own
        ∙ ap (λ (o : Option ℕ). cond (leb a (x + k)) o none) (same_line l sound page M m x m' (x + k - a) there)
        ∙ by_cases (dec_le a (x + k))
        (λ h.
        let step : x + k - a ≡ t + (i - a + k) - reach = omega arith in
        ap (λ (b : Bool). cond b (on_line l page M m (x + k - a)) none) (le-leb a (x + k) h)
        ∙ ap (on_line l page M m) step
        ∙ sym
        (ap (λ (b : Bool). cond b (on_line l page M m (t + (i - a + k) - reach)) none)
        (le-leb reach (t + (i - a + k)) (omega arith))))
        (λ h.
        ap (λ (b : Bool). cond b (on_line l page M m (x + k - a)) none) (lt-leb a (x + k) (omega arith))
        ∙ sym
        (ap (λ (b : Bool). cond b (on_line l page M m (t + (i - a + k) - reach)) none)
        (lt-leb reach (t + (i - a + k)) (omega arith))))

    -- and the row has there what the page has at the pixel
    pub row_there : row i ≡ page (major_at l M x) m'
    unfolding in_window on_line value_at
    row_there =
        ap (λ (b : Bool). cond b (on_line l page M m x) none) (le-leb reach (step_of l M + i) after)
        ∙ ap (value_at page (major_at l M x)) there

  -- it has nothing where the line lands nowhere, and before the line's first step
  row_off :
      (i : ℕ) → reach ≤ step_of l M + i → landing l m (step_of l M) (step_of l M + i - reach) ≡ none → row i ≡ none
  unfolding in_window on_line value_at
  row_off i after there =
      ap (λ (b : Bool). cond b (on_line l page M m (step_of l M + i - reach)) none) (le-leb reach (step_of l M + i) after)
      ∙ ap (value_at page (major_at l M (step_of l M + i - reach))) there

  row_before : (i : ℕ) → step_of l M + i < reach → row i ≡ none
  unfolding in_window
  row_before i before =
      ap (λ (b : Bool). cond b (on_line l page M m (step_of l M + i - reach)) none)
      (lt-leb reach (step_of l M + i) before)

  -- ---- the first pass

  module _ (low : Bool) (a n : ℕ) where
    abbrev first : View
    first = pass low l a n page

    by_value :
        (i m' : ℕ) → reach ≤ step_of l M + i → landing l m (step_of l M) (step_of l M + i - reach) ≡ some m' → a ≤ i
        → (o : Option ℕ)
        → pass_at low l a n page (major_at l M (step_of l M + i - reach)) m' o ≡ pass_at_place low a n row i o
    unfolding pass_at pass_at_place
    by_value i m' after there inside none = refl
    by_value i m' after there inside (some v) =
        extreme_shifted low (in_window l page a (major_at l M (step_of l M + i - reach)) m') row (i - a) 0 n
        (λ k from to. window_of i m' after there a k inside)
        ∙ ap (λ (q : ℕ). extreme low row q n) (add-zero (i - a))

    absent_place : (i : ℕ) → row i ≡ none → none ≡ pass_in low a n row i
    unfolding pass_in pass_at_place
    absent_place i e = sym (ap (pass_at_place low a n row i) e)

    by_landing :
        (i : ℕ) → reach ≤ step_of l M + i → a ≤ i → (o : Option ℕ)
        → landing l m (step_of l M) (step_of l M + i - reach) ≡ o
        → value_at first (major_at l M (step_of l M + i - reach)) o ≡ pass_in low a n row i
    unfolding value_at pass pass_in
    by_landing i after inside none there = absent_place i (row_off i after there)
    by_landing i after inside (some m') there =
        by_value i m' after there inside (page (major_at l M (step_of l M + i - reach)) m')
        ∙ sym (ap (pass_at_place low a n row i) (row_there i m' after there))

    -- the first pass along the line is a pass along the row
    pub first_row : (i : ℕ) → a ≤ i → in_window l first reach M m i ≡ pass_in low a n row i
    unfolding in_window on_line
    first_row i inside =
        let value : Option ℕ = on_line l first M m (step_of l M + i - reach) in
        by_cases (dec_le reach (step_of l M + i))
        (λ h.
        ap (λ (b : Bool). cond b value none) (le-leb reach (step_of l M + i) h)
        ∙ by_landing i h inside (landing l m (step_of l M) (step_of l M + i - reach)) refl)
        (λ h.
        ap (λ (b : Bool). cond b value none) (lt-leb reach (step_of l M + i) (omega arith))
        ∙ absent_place i (row_before i (omega arith)))
