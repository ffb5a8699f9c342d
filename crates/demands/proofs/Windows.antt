-- What a filter's windows reach: a pass looks at its window only, and two windows end to end reach L - 1 steps each
-- way.
-- Assumes nothing.
use mathlib.Core.Path.{◌≡◌, refl, sym, ap, ◌∙◌}
use mathlib.Core.Bool.{Bool, true, false, cond}
use mathlib.Core.Option.{Option, none, some}
use Prim.Native.Nat.{ℕ, suc, ◌+◌, ◌-◌, ◌≤◌, ◌<◌}
use native.Mathlib.Omega.{arith}
use borrow.Author.Tests.{leb-true}
use lib.Dec.{leb}
use Rattle.geometry.specs.Line.{landing, step_of, major_at}
use Rattle.geometry.specs.Drift.{Sound}
use Rattle.geometry.proofs.Laws.{step_of_major}
use Rattle.geometry.specs.declared.Line.{Line}
use Rattle.ticket.specs.declared.Operation.{Operation}
use Rattle.ticket.specs.declared.Operation.TheVariants.{Erode, Dilate, Open, Close}
use Rattle.filter.specs.Seen.{View}
use Rattle.filter.specs.Filters.{value_at, on_line, in_window, pass_at, pass, eroded, dilation_back}
use Rattle.filter.specs.Filters.{dilated, opened, closed, operated}
use Rattle.filter.proofs.Laws.{extreme_same, pass_absent, own_on_line, same_line}
use Rattle.filter.specs.declared.Segment.{Segment}

-- ---- one pass

module _ (l : Line) (ok : Sound l) where
  -- two pages that agree on a window's steps, from a steps back to L - 1 - a on
  module _ (page page' : View) (a L M m : ℕ)
      (same :
      (s : ℕ) → step_of l M ≤ s + a → s + a < step_of l M + L → on_line l page M m s ≡ on_line l page' M m s) where
    by_edge :
        (k : ℕ) (b : Bool) → leb a (step_of l M + k) ≡ b → k < L
        → cond b (on_line l page M m (step_of l M + k - a)) none ≡ cond b (on_line l page' M m (step_of l M + k - a)) none
    by_edge k true e h =
        let far : a ≤ step_of l M + k = leb-true _ _ e in
        same (step_of l M + k - a) (omega arith) (omega arith)
    by_edge k false e h = refl

    pub window_same : (k : ℕ) → k < L → in_window l page a M m k ≡ in_window l page' a M m k
    unfolding in_window
    window_same k h = by_edge k _ refl h

    by_value : (low : Bool) (o : Option ℕ) → pass_at low l a L page M m o ≡ pass_at low l a L page' M m o
    unfolding pass_at
    by_value low none = refl
    by_value low (some v) =
        extreme_same low (in_window l page a M m) (in_window l page' a M m) 0 L (λ q h b. window_same q (omega arith))

    pass_same : (low : Bool) → a < L → pass low l a L page M m ≡ pass low l a L page' M m
    unfolding pass
    pass_same low short =
        let own : page M m ≡ page' M m =
        sym (own_on_line l ok page M m) ∙ same (step_of l M) (omega arith) (omega arith) ∙ own_on_line l ok page' M m in
        ap (pass_at low l a L page M m) own ∙ by_value low (page' M m)

-- ---- two passes

-- s is in the window of t that begins b steps back, r in the window of s that begins a steps back, and L = a + 1 + b:
-- r is fewer than L steps from t
not_before : (a b L t s r : ℕ) → suc (a + b) ≡ L → t ≤ s + b → s ≤ r + a → t < r + L
not_before a b L t s r whole h k = omega arith

not_beyond : (a b L t s r : ℕ) → suc (a + b) ≡ L → s + b < t + L → r + a < s + L → r < t + L
not_beyond a b L t s r whole h k = omega arith

-- two pages that agree fewer than L steps from a pixel
module _ (l : Line) (ok : Sound l) (L M m : ℕ) (page page' : View)
    (same : (s : ℕ) → step_of l M < s + L → s < step_of l M + L → on_line l page M m s ≡ on_line l page' M m s) where
  once_same : (low : Bool) (a : ℕ) → a < L → pass low l a L page M m ≡ pass low l a L page' M m
  once_same low a short = pass_same l ok page page' a L M m (λ s h k. same s (omega arith) (omega arith)) low short

  module _ (one two : Bool) (a b : ℕ) (whole : suc (a + b) ≡ L) where
    first_same :
        (s m' : ℕ) → landing l m (step_of l M) s ≡ some m' → step_of l M ≤ s + b → s + b < step_of l M + L
        → pass one l a L page (major_at l M s) m' ≡ pass one l a L page' (major_at l M s) m'
    first_same s m' there h k =
        pass_same l ok page page' a L (major_at l M s) m'
        (λ r lo hi.
        same_line l ok page M m s m' r there
        ∙ same r
        (not_before a b L (step_of l M) s r whole h (omega (arith, step_of_major l ok M s)))
        (not_beyond a b L (step_of l M) s r whole k (omega (arith, step_of_major l ok M s)))
        ∙ sym (same_line l ok page' M m s m' r there))
        one (omega arith)

    by_landing :
        (s : ℕ) (o : Option ℕ) → landing l m (step_of l M) s ≡ o → step_of l M ≤ s + b → s + b < step_of l M + L
        → value_at (pass one l a L page) (major_at l M s) o ≡ value_at (pass one l a L page') (major_at l M s) o
    unfolding value_at
    by_landing s none there h k = refl
    by_landing s (some m') there h k = first_same s m' there h k

    pub line_same :
        (s : ℕ) → step_of l M ≤ s + b → s + b < step_of l M + L
        → on_line l (pass one l a L page) M m s ≡ on_line l (pass one l a L page') M m s
    unfolding on_line
    line_same s h k = by_landing s (landing l m (step_of l M) s) refl h k

    twice_same : pass two l b L (pass one l a L page) M m ≡ pass two l b L (pass one l a L page') M m
    twice_same = pass_same l ok (pass one l a L page) (pass one l a L page') b L M m line_same two (omega arith)

-- ---- the four operations

module _ (segment : Segment) (ok : Sound segment.line) (short : segment.origin < segment.length) where
  -- the two windows are end to end: L - 1 - o and o
  whole_open : suc (segment.origin + dilation_back segment) ≡ segment.length
  unfolding dilation_back
  whole_open = omega arith

  whole_close : suc (dilation_back segment + segment.origin) ≡ segment.length
  whole_close = omega (arith, whole_open)

  module _ (M m : ℕ) (page page' : View)
      (same :
      (s : ℕ) → step_of segment.line M < s + segment.length → s < step_of segment.line M + segment.length
      → on_line segment.line page M m s ≡ on_line segment.line page' M m s) where
    pub operated_same : (n : Operation) → operated n segment page M m ≡ operated n segment page' M m
    unfolding operated eroded dilated opened closed
    operated_same Erode =
        once_same segment.line ok segment.length M m page page' same true segment.origin (omega arith)
    operated_same Dilate =
        once_same segment.line ok segment.length M m page page' same false (dilation_back segment)
        (omega (arith, whole_open))
    operated_same Open =
        twice_same segment.line ok segment.length M m page page' same true false segment.origin
        (dilation_back segment) whole_open
    operated_same Close =
        twice_same segment.line ok segment.length M m page page' same false true (dilation_back segment)
        segment.origin whole_close

-- ---- an absent pixel stays absent

module _ (segment : Segment) (page : View) (M m : ℕ) (absent : page M m ≡ none) where
  eroding : eroded segment page M m ≡ none
  unfolding eroded
  eroding = pass_absent true segment.line segment.origin segment.length page M m absent

  dilating : dilated segment page M m ≡ none
  unfolding dilated
  dilating = pass_absent false segment.line (dilation_back segment) segment.length page M m absent

  pub operated_none : (n : Operation) → operated n segment page M m ≡ none
  unfolding operated eroded dilated opened closed
  operated_none Erode = eroding
  operated_none Dilate = dilating
  operated_none Open =
      pass_absent false segment.line (dilation_back segment) segment.length (eroded segment page) M m eroding
  operated_none Close =
      pass_absent true segment.line segment.origin segment.length (dilated segment page) M m dilating
