-- Two passes at a pixel whose line is there for as far as they look are the two passes over the numbers of its line.
-- Assumes nothing.
use mathlib.Core.Path.{◌≡◌, refl, sym, ap, ap₂, ◌∙◌}
use mathlib.Core.Bool.{Bool, not, cond}
use mathlib.Core.Option.{Option, none, some, none-ne-some}
use Prim.Native.Nat.{ℕ, zero, suc, ◌+◌, ◌-◌, ◌≤◌}
use native.Mathlib.Nat.{add-zero, zero-add, suc-add, add-suc}
use native.Mathlib.Omega.{arith}
use borrow.Author.Tests.{le-leb}
use lib.Dec.{leb}
use Rattle.geometry.specs.Line.{landing, step_of, major_at}
use Rattle.geometry.specs.Drift.{Sound}
use Rattle.geometry.proofs.Laws.{step_of_major}
use Rattle.geometry.specs.declared.Line.{Line}
use Rattle.runs.specs.Span.{best}
use Rattle.filter.specs.Seen.{View}
use Rattle.filter.specs.Filters.{joined, extreme, value_at, on_line, in_window, pass_at, pass}
use Rattle.filter.proofs.Laws.{own_on_line, same_line}
use Rattle.demands.proofs.ExactNumbers.{twice}

-- where all values are there, the extreme is the best of their numbers
extreme_is :
    (low : Bool) (value : ℕ → Option ℕ) (f : ℕ → ℕ) (k i n : ℕ) → ((q : ℕ) → q ≤ n → value (k + q) ≡ some (f (i + q)))
    → extreme low value k (suc n) ≡ some (best low f i n)
unfolding extreme best joined
extreme_is low value f k i zero same =
    ap (λ (o : Option ℕ). joined low o none)
    (ap value (sym (add-zero k)) ∙ same 0 (omega arith) ∙ ap (λ (j : ℕ). some (f j)) (add-zero i))
extreme_is low value f k i (suc n) same =
    ap₂ (joined low) (ap value (sym (add-zero k)) ∙ same 0 (omega arith) ∙ ap (λ (j : ℕ). some (f j)) (add-zero i))
    (extreme_is low value f (suc k) (suc i) n
    (λ q h.
    ap value (suc-add k q ∙ sym (add-suc k q))
    ∙ same (suc q) (omega arith)
    ∙ ap (λ (j : ℕ). some (f j)) (add-suc i q ∙ sym (suc-add i q))))

-- a value that is there has a place
place_of : (page : View) (M v : ℕ) (o : Option ℕ) → value_at page M o ≡ some v → (m : ℕ) × (o ≡ some m)
unfolding value_at
place_of page M v none e = absurd (none-ne-some v e)
place_of page M v (some m) e = (m, refl)

module _ (l : Line) (sound : Sound l) (M m : ℕ) where
  module _ (page : View) (y m' : ℕ) (there : landing l m (step_of l M) y ≡ some m') where
    window_onward : (a k : ℕ) → a ≤ y + k → in_window l page a (major_at l M y) m' k ≡ on_line l page M m (y + k - a)
    unfolding in_window
    window_onward a k h =
        ap (λ (t : ℕ). cond (leb a (t + k)) (on_line l page (major_at l M y) m' (t + k - a)) none)
        (step_of_major l sound M y)
        ∙ ap (λ (b : Bool). cond b (on_line l page (major_at l M y) m' (y + k - a)) none) (le-leb a (y + k) h)
        ∙ same_line l sound page M m y m' (y + k - a) there

  -- one pass
  pass_on :
      (low : Bool) (a n : ℕ) (page : View) (f : ℕ → ℕ) (y v : ℕ) → on_line l page M m y ≡ some v → a ≤ y
      → ((q : ℕ) → q ≤ n → on_line l page M m (y - a + q) ≡ some (f (y - a + q)))
      → on_line l (pass low l a (suc n) page) M m y ≡ some (best low f (y - a) n)
  unfolding on_line value_at pass pass_at
  pass_on low a n page f y v on room same =
      let found = place_of page (major_at l M y) v (landing l m (step_of l M) y) on in
      ap (value_at (pass low l a (suc n) page) (major_at l M y)) found.1
      ∙ ap (pass_at low l a (suc n) page (major_at l M y) found.0)
      (sym (ap (value_at page (major_at l M y)) found.1) ∙ on)
      ∙ extreme_is low (in_window l page a (major_at l M y) found.0) f 0 (y - a) n
      (λ q h.
      ap (in_window l page a (major_at l M y) found.0) (zero-add q)
      ∙ window_onward page y found.0 found.1 a q (omega arith)
      ∙ ap (on_line l page M m) (shifted q)
      ∙ same q h)
    where
      shifted : (q : ℕ) → y + q - a ≡ y - a + q
      shifted q = omega arith

  module _ (low : Bool) (a b : ℕ) (page : View) (f : ℕ → ℕ) (room : a + b ≤ step_of l M)
      (near : (s : ℕ) → step_of l M ≤ s + (a + b) → s ≤ step_of l M + (a + b) → on_line l page M m s ≡ some (f s)) where
    first_on :
        (y : ℕ) → step_of l M ≤ y + b → y ≤ step_of l M + a
        → on_line l (pass low l a (suc (a + b)) page) M m y ≡ some (best low f (y - a) (a + b))
    first_on y h k =
        pass_on low a (a + b) page f y (f y) (near y (omega arith) (omega arith)) (omega arith)
        (λ q i. near (y - a + q) (omega arith) (omega arith))

    pub twice_on :
        pass (not low) l b (suc (a + b)) (pass low l a (suc (a + b)) page) M m ≡ some (twice low a b f (step_of l M))
    unfolding twice
    twice_on =
        sym (own_on_line l sound (pass (not low) l b (suc (a + b)) (pass low l a (suc (a + b)) page)) M m)
        ∙ pass_on (not low) b (a + b) (pass low l a (suc (a + b)) page) (λ (y : ℕ). best low f (y - a) (a + b))
        (step_of l M)
        (best low f (step_of l M - a) (a + b))
        (first_on (step_of l M) (omega arith) (omega arith))
        (omega arith)
        (λ q i. first_on (step_of l M - b + q) (omega arith) (omega arith))
