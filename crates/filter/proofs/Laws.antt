-- What others may use of the filters, with the definitions left shut: what the extreme of a window is, which steps see
-- each other through a window and through the reflected one, and what becomes of a pixel that is absent or there.
-- Assumes nothing.
use Rattle.std.specs.Prelude.{◌≡◌, refl, Bool, true, false, cond, ◌⊎◌, ℕ, zero, suc, ◌+◌, ◌-◌, ◌≤◌, ◌<◌, leb}
use Rattle.std.proofs.Common.{sym, ap, ap₂, ◌∙◌, inl, inr, ⊎_elim, add-suc, add-sub_cancel, arith, le-leb}
use Rattle.std.proofs.Math.Logic.{by_cases}
use Rattle.std.proofs.Math.Option.{Option, none, some, some-injective, none-ne-some}
use Rattle.std.proofs.Math.Decide.{dec_lt, dec_le}
use Rattle.std.proofs.lemmas.Bool.{lt-leb}
use Rattle.geometry.specs.Line.{landing, step_of, major_at}
use Rattle.geometry.specs.Drift.{Sound}
use Rattle.geometry.proofs.Laws.{own_landing, major_at_step, major_of_major, step_of_major, landing_onward}
use Rattle.geometry.specs.declared.Line.{Line}
use Rattle.runs.specs.Span.{chosen, chosen_assoc}
use Rattle.filter.specs.Seen.{View}
use Rattle.filter.specs.Filters.{joined, extreme, value_at, on_line, in_window, pass_at, pass, dilation_back}
use Rattle.filter.specs.declared.Segment.{Segment}
use Rattle.filter.specs.Windows.{Attained, InWindow, Reads, Found}

-- ---- of two values

chosen_same : (low : Bool) (x : ℕ) → chosen low x x ≡ x
unfolding chosen
chosen_same true x = omega arith
chosen_same false x = omega arith

chosen_again : (low : Bool) (x y : ℕ) → chosen low (chosen low x y) x ≡ chosen low x y
unfolding chosen
chosen_again true x y = omega arith
chosen_again false x y = omega arith

chosen_one : (low : Bool) (x y : ℕ) → (chosen low x y ≡ x) ⊎ (chosen low x y ≡ y)
unfolding chosen
chosen_one true x y = by_cases (dec_le x y) (λ h. inl (omega arith)) (λ h. inr (omega arith))
chosen_one false x y = by_cases (dec_le y x) (λ h. inl (omega arith)) (λ h. inr (omega arith))

joined_first : (low : Bool) (v : ℕ) (y : Option ℕ) → (w : ℕ) × (joined low (some v) y ≡ some w)
unfolding joined
joined_first low v none = (v, refl)
joined_first low v (some y) = (chosen low v y, refl)

joined_last : (low : Bool) (x : Option ℕ) (v : ℕ) → (w : ℕ) × (joined low x (some v) ≡ some w)
unfolding joined
joined_last low none v = (v, refl)
joined_last low (some x) v = (chosen low x v, refl)

first_bound : (low : Bool) (v w : ℕ) (y : Option ℕ) → joined low (some v) y ≡ some w → chosen low w v ≡ w
unfolding joined
first_bound low v w none e =
    let same : v ≡ w = some-injective v w e in
    ap (chosen low w) same ∙ chosen_same low w
first_bound low v w (some y) e =
    let same : chosen low v y ≡ w = some-injective (chosen low v y) w e in
    ap (λ (q : ℕ). chosen low q v) (sym same) ∙ chosen_again low v y ∙ same

last_bound : (low : Bool) (x : Option ℕ) (u v w : ℕ)
    → chosen low u v ≡ u → joined low x (some u) ≡ some w → chosen low w v ≡ w
unfolding joined
last_bound low none u v w bound e =
    let same : u ≡ w = some-injective u w e in
    ap (λ (q : ℕ). chosen low q v) (sym same) ∙ bound ∙ same
last_bound low (some x) u v w bound e =
    let same : chosen low x u ≡ w = some-injective (chosen low x u) w e in
    ap (λ (q : ℕ). chosen low q v) (sym same) ∙ chosen_assoc low x u v ∙ ap (chosen low x) bound ∙ same

joined_one : (low : Bool) (x y : Option ℕ) (w : ℕ) → joined low x y ≡ some w → (x ≡ some w) ⊎ (y ≡ some w)
unfolding joined
joined_one low none y w e = inr e
joined_one low (some x) none w e = inl e
joined_one low (some x) (some y) w e =
    ⊎_elim (λ h. inl (ap {B = Option ℕ} some (sym h) ∙ e)) (λ h. inr (ap {B = Option ℕ} some (sym h) ∙ e))
    (chosen_one low x y)

-- ---- the extreme of a window

-- a window with a value that is there has an extreme
pub extreme_there : (low : Bool) (value : ℕ → Option ℕ) (k n q v : ℕ) → k ≤ q → q < k + n → value q ≡ some v
    → (w : ℕ) × (extreme low value k n ≡ some w)
unfolding extreme
extreme_there low value k zero q v from to e = absurd (omega arith)
extreme_there low value k (suc n) q v from to e =
    by_cases
    (dec_lt k q)
    (λ h.
    let rest = extreme_there low value (suc k) n q v h (omega arith) e in
    let all = joined_last low (value k) rest.0 in
    (all.0, ap (joined low (value k)) rest.1 ∙ all.1))
    (λ h.
    let all = joined_first low v (extreme low value (suc k) n) in
    (all.0, ap (λ (o : Option ℕ). joined low o (extreme low value (suc k) n)) (ap value (same h) ∙ e) ∙ all.1))
  where
    same : ¬ (k < q) → k ≡ q
    same h = omega arith

-- an extreme is a bound of its window: chosen against any value of the window, it is chosen
pub extreme_bound : (low : Bool) (value : ℕ → Option ℕ) (k n q v w : ℕ) → extreme low value k n ≡ some w
    → k ≤ q → q < k + n → value q ≡ some v → chosen low w v ≡ w
unfolding extreme
extreme_bound low value k zero q v w found from to e = absurd (omega arith)
extreme_bound low value k (suc n) q v w found from to e =
    by_cases
    (dec_lt k q)
    (λ h.
    let rest = extreme_there low value (suc k) n q v h (omega arith) e in
    let bound = extreme_bound low value (suc k) n q v rest.0 rest.1 h (omega arith) e in
    last_bound low (value k) rest.0 v w bound (ap (joined low (value k)) (sym rest.1) ∙ found))
    (λ h.
    let here : value k ≡ some v = ap value (same h) ∙ e in
    let rest : Option ℕ = extreme low value (suc k) n in
    first_bound low v w rest (ap (λ (o : Option ℕ). joined low o rest) (sym here) ∙ found))
  where
    same : ¬ (k < q) → k ≡ q
    same h = omega arith

-- windows with the same values have the same extreme
pub extreme_same :
    (low : Bool) (value value' : ℕ → Option ℕ) (k n : ℕ) → ((q : ℕ) → k ≤ q → q < k + n → value q ≡ value' q)
    → extreme low value k n ≡ extreme low value' k n
unfolding extreme
extreme_same low value value' k zero same = refl
extreme_same low value value' k (suc n) same =
    ap₂ (joined low) (same k (omega arith) (omega arith))
    (extreme_same low value value' (suc k) n (λ q h b. same q (omega arith) (omega arith)))

-- also where the values stand d places further on
pub extreme_shifted :
    (low : Bool) (value value' : ℕ → Option ℕ) (d k n : ℕ) → ((q : ℕ) → k ≤ q → q < k + n → value q ≡ value' (d + q))
    → extreme low value k n ≡ extreme low value' (d + k) n
unfolding extreme
extreme_shifted low value value' d k zero same = refl
extreme_shifted low value value' d k (suc n) same =
    ap₂ (joined low) (same k (omega arith) (omega arith))
    (extreme_shifted low value value' d (suc k) n (λ q h b. same q (omega arith) (omega arith))
    ∙ ap (λ (q : ℕ). extreme low value' q n) (add-suc d k))

-- an extreme is attained: it is one of the values of its window
pub extreme_attained : (low : Bool) (value : ℕ → Option ℕ) (k n w : ℕ) → extreme low value k n ≡ some w
    → Attained value k n w
unfolding extreme
extreme_attained low value k zero w found = absurd (none-ne-some w found)
extreme_attained low value k (suc n) w found =
    ⊎_elim
    (λ here. record { at = k; from = omega arith; to = omega arith; there = here })
    (λ later.
    let rest = extreme_attained low value (suc k) n w later in
    record { at = rest.at; from = omega (arith, rest.from); to = omega (arith, rest.to); there = rest.there })
    (joined_one low (value k) (extreme low value (suc k) n) w found)

-- ---- which steps are in a window

-- a step x is in the window of y that has o of its L steps before y, exactly if y is in the window of x that has as
-- many steps behind x
pub window_turned : (L o y x : ℕ) → o < L → InWindow o L y x → InWindow (L - 1 - o) L x y
window_turned L o y x below h = record { from = omega (arith, h.from, h.to); to = omega (arith, h.from, h.to) }

pub window_turned_back : (L o y x : ℕ) → o < L → InWindow (L - 1 - o) L x y → InWindow o L y x
window_turned_back L o y x below h = record { from = omega (arith, h.from, h.to); to = omega (arith, h.from, h.to) }

-- the same of a segment: x is in the erosion window of y exactly if y is in the dilation window of x
pub eroded_dilated : (s : Segment) (y x : ℕ) → s.origin < s.length
    → InWindow s.origin s.length y x → InWindow (dilation_back s) s.length x y
unfolding dilation_back
eroded_dilated s y x below h = window_turned s.length s.origin y x below h

pub dilated_eroded : (s : Segment) (y x : ℕ) → s.origin < s.length
    → InWindow (dilation_back s) s.length x y → InWindow s.origin s.length y x
unfolding dilation_back
dilated_eroded s y x below h = window_turned_back s.length s.origin y x below h

-- a step in the window of (M, m) is one of those that the definition reads
pub window_reads : (l : Line) (page : View) (a n M m s : ℕ) → InWindow a n (step_of l M) s → Reads l page a n M m s
unfolding in_window
window_reads l page a n M m s h =
    let t : ℕ = step_of l M in
    let at : ℕ = s + a - t in
    let whole : t + at ≡ s + a = omega (arith, h.from) in
    record {
      at = at;
      below = omega (arith, h.from, h.to);
      reads =
          ap (λ (q : ℕ). cond (leb a q) (on_line l page M m (q - a)) none) whole
          ∙ ap (λ (b : Bool). cond b (on_line l page M m (s + a - a)) none) (le-leb a (s + a) (omega arith))
          ∙ ap (on_line l page M m) (add-sub_cancel s a);
    }

-- what the definition reads in the window of (M, m) stands at a step of the window
pub reads_window : (l : Line) (page : View) (a n M m k v : ℕ) → k < n → in_window l page a M m k ≡ some v
    → Found l page a n M m v
unfolding in_window
reads_window l page a n M m k v below e =
    let t : ℕ = step_of l M in
    let value : Option ℕ = on_line l page M m (t + k - a) in
    by_cases
    (dec_le a (t + k))
    (λ h.
    record {
      step = t + k - a;
      in_window = record { from = omega arith; to = omega arith };
      there = ap (λ (b : Bool). cond b value none) (sym (le-leb a (t + k) h)) ∙ e;
    })
    (λ h.
    absurd
    (none-ne-some v (ap (λ (b : Bool). cond b value none) (sym (lt-leb a (t + k) (omega arith))) ∙ e)))

-- ---- a pixel that is absent, and one that is there

-- an absent pixel stays absent
pub pass_absent : (low : Bool) (l : Line) (a n : ℕ) (page : View) (M m : ℕ) → page M m ≡ none
    → pass low l a n page M m ≡ none
unfolding pass pass_at
pass_absent low l a n page M m e = ap (pass_at low l a n page M m) e

-- a pixel that is there becomes the extreme of its window
pub pass_there : (low : Bool) (l : Line) (a n : ℕ) (page : View) (M m v : ℕ) → page M m ≡ some v
    → pass low l a n page M m ≡ extreme low (in_window l page a M m) 0 n
unfolding pass pass_at
pass_there low l a n page M m v e = ap (pass_at low l a n page M m) e

-- a line has at a pixel's own step what the page has at the pixel
pub own_on_line : (l : Line) → Sound l → (page : View) (M m : ℕ) → on_line l page M m (step_of l M) ≡ page M m
unfolding on_line value_at
own_on_line l sound page M m =
    ap (value_at page (major_at l M (step_of l M))) (own_landing l M m)
    ∙ ap (λ (R : ℕ). page R m) (major_at_step l sound M)

-- the line through another of its pixels is the same line
pub same_line : (l : Line) → Sound l → (page : View) (M m s m' r : ℕ) → landing l m (step_of l M) s ≡ some m'
    → on_line l page (major_at l M s) m' r ≡ on_line l page M m r
unfolding on_line
same_line l sound page M m s m' r there =
    ap₂ (value_at page) (major_of_major l sound M s r)
    (ap (λ (q : ℕ). landing l m' q r) (step_of_major l sound M s) ∙ landing_onward l m (step_of l M) s r m' there)

-- the pixel itself is in its window, a steps after the first
pub own_value : (l : Line) → Sound l → (page : View) (a M m : ℕ) → in_window l page a M m a ≡ page M m
unfolding in_window
own_value l sound page a M m =
    let t : ℕ = step_of l M in
    ap (λ (b : Bool). cond b (on_line l page M m (t + a - a)) none) (le-leb a (t + a) (omega arith))
    ∙ ap (on_line l page M m) (add-sub_cancel t a)
    ∙ own_on_line l sound page M m

-- so a pixel that is there stays there
pub pass_some : (l : Line) → Sound l → (low : Bool) (a n : ℕ) → a < n → (page : View) (M m v : ℕ) → page M m ≡ some v
    → (w : ℕ) × (pass low l a n page M m ≡ some w)
pass_some l sound low a n short page M m v e =
    let value : ℕ → Option ℕ = in_window l page a M m in
    let found = extreme_there low value 0 n a v (omega arith) (omega arith) (own_value l sound page a M m ∙ e) in
    (found.0, pass_there low l a n page M m v e ∙ found.1)

-- ---- what a pass finds

found_at : (low : Bool) (l : Line) (a n : ℕ) (page : View) (M m : ℕ) (o : Option ℕ) (w : ℕ)
    → pass_at low l a n page M m o ≡ some w → extreme low (in_window l page a M m) 0 n ≡ some w
unfolding pass_at
found_at low l a n page M m none w e = absurd (none-ne-some w e)
found_at low l a n page M m (some v) w e = e

pass_extreme : (low : Bool) (l : Line) (a n : ℕ) (page : View) (M m w : ℕ)
    → pass low l a n page M m ≡ some w → extreme low (in_window l page a M m) 0 n ≡ some w
unfolding pass
pass_extreme low l a n page M m w e = found_at low l a n page M m (page M m) w e

-- it is a bound: no step of the pixel's window has a value beyond it
pub pass_bound : (low : Bool) (l : Line) (a n : ℕ) (page : View) (M m s v w : ℕ) → pass low l a n page M m ≡ some w
    → InWindow a n (step_of l M) s → on_line l page M m s ≡ some v → chosen low w v ≡ w
pass_bound low l a n page M m s v w e within there =
    let read = window_reads l page a n M m s within in
    extreme_bound low (in_window l page a M m) 0 n read.at v w (pass_extreme low l a n page M m w e)
    (omega arith) (omega (arith, read.below)) (read.reads ∙ there)

-- it is attained: a step of the pixel's window has it
pub pass_found : (low : Bool) (l : Line) (a n : ℕ) (page : View) (M m w : ℕ) → pass low l a n page M m ≡ some w
    → Found l page a n M m w
pass_found low l a n page M m w e =
    let one = extreme_attained low (in_window l page a M m) 0 n w (pass_extreme low l a n page M m w e) in
    reads_window l page a n M m one.at w (omega (arith, one.to)) one.there
