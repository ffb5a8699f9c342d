-- One pass as the filter defines it, over a page with absent pixels, is one pass of the sweeps over the plain numbers
-- that show the page.
-- Assumes nothing.
use mathlib.Core.Path.{◌≡◌, refl, sym, ap, ap₂, ◌∙◌}
use mathlib.Core.Bool.{Bool, true, false, cond}
use mathlib.Core.Logic.{⊎_elim, by_cases}
use mathlib.Core.Option.{Option, none, some}
use Prim.Native.Nat.{ℕ, suc, ◌+◌, ◌-◌, ◌≤◌, ◌<◌}
use native.Mathlib.Nat.{sub-zero}
use native.Mathlib.Decide.{dec_le}
use native.Mathlib.Omega.{arith}
use borrow.Author.Tests.{le-leb, lt-leb}
use Rattle.geometry.specs.Line.{step_of, major_at}
use Rattle.geometry.specs.Number.{in_page}
use Rattle.geometry.specs.Drift.{falls, drift, mirrored}
use Rattle.geometry.proofs.Laws.{inside, lands, out_of_page, not_in_page}
use Rattle.runs.specs.Span.{best, span}
use Rattle.runs.specs.Grid.{Page, Sized, start_row, line_name, entry, leave, steps, column_at, along, number}
use Rattle.runs.specs.Grid.{line_steps}
use Rattle.runs.specs.Grid.{windowed_at}
use Rattle.runs.specs.GridLaws.{on_page_lem, page_on, start_small, number_is, number_below}
use Rattle.runs.specs.declared.Grid.{Grid}
use Rattle.filter.specs.Seen.{View}
use Rattle.filter.specs.Filters.{value_at, on_line, in_window, extreme, pass}
use Rattle.filter.specs.Engine.{neutral, or_neutral, Absent, Bytes, Shows}
use Rattle.filter.proofs.Laws.{extreme_there, own_value, pass_there}
use Rattle.filter.proofs.Neutral.{or_neutral_small, extreme_best, there_is}
use Rattle.filter.proofs.Extremes.{window_is}
use Rattle.filter.proofs.Steps.{normal, name_of, place_below, row_of_step, in_page_on, on_in_page, own_on}
use Rattle.filter.proofs.Kept.{window_small}

-- the column of a step, for a pixel at x and the drifts t at its step and s at the other
column_of_step : (W x t s y : ℕ) → x < W → y + t ≡ x + s → W + s - (W + t - x) ≡ y
column_of_step W x t s y h e = omega arith

module _ (g : Grid) (sized : Sized g) (page : View) (off : Absent g.height g.width page) (bytes : Bytes page)
    (f : Page) (shows : Shows g page f) (M m : ℕ) (rows : M < g.height) (columns : m < g.width) where
  -- a step of the line that is in the page, and one that is not
  value_on : (s : ℕ) → entry g (name_of g M m) ≤ s → s < leave g (start_row g M) (name_of g M m)
      → or_neutral g.low (on_line g.line page M m s)
      ≡ along g f (start_row g M) (name_of g M m) (s - entry g (name_of g M m))
  unfolding on_line value_at Shows column_at line_name
  value_on s h k =
      let there : in_page g.line g.height g.width M m s ≡ true = on_in_page g sized M m rows columns s h k in
      let found = lands g.line sized.sound g.height g.width M m s columns there in
      let long : major_at g.line M s < g.height =
      (inside g.line sized.sound g.height g.width M m s columns there).long in
      let column : column_at g (name_of g M m) s ≡ normal g found.at =
      column_of_step g.width (normal g m) (drift g.line (step_of g.line M)) (drift g.line s)
      (normal g found.at) (place_below g sized M m rows columns) found.moved in
      ap (λ (o : Option ℕ). or_neutral g.low (value_at page (major_at g.line M s) o)) found.lands
      ∙ sym (shows (major_at g.line M s) found.at long found.fits)
      ∙ ap₂ f (row_of_step g sized M m rows columns s) (sym column)
      ∙ page_on g sized (start_row g M) (name_of g M m) s
      (start_small g sized M (normal g m) rows (place_below g sized M m rows columns)) (on_page_lem g sized _ _ s h k) f

  value_off : (s : ℕ)
      → ((entry g (name_of g M m) ≤ s) → (s < leave g (start_row g M) (name_of g M m)) → ⊥)
      → on_line g.line page M m s ≡ none
  unfolding on_line value_at
  value_off s out =
      let R : ℕ = major_at g.line M s in
      let outside : in_page g.line g.height g.width M m s ≡ false =
      not_in_page g.line g.height g.width M m s
      (λ e. let on = in_page_on g sized M m rows columns s e in out on.0 on.1) in
      out_of_page g.line g.height g.width M m s outside (λ (o : Option ℕ). value_at page R o ≡ none) refl
      (λ m' side. ⊎_elim (λ h. off.below R m' h) (λ h. off.beside R m' h) side)

  -- the entry and the end of the line, by the pixel's number and the number of pixels
  step_is : entry g (name_of g M m) + number g M (normal g m) ≡ step_of g.line M
  step_is = number_is g sized M (normal g m) rows (place_below g sized M m rows columns)

  leave_is : entry g (name_of g M m) + line_steps g M (normal g m) ≡ leave g (start_row g M) (name_of g M m)
  unfolding line_steps steps
  leave_is =
      let on = own_on g sized M m rows columns in
      omega (arith, on.0, on.1)

  -- a place of the window that is before the line's first pixel, one on the line, and one behind its last
  window_on : (q : ℕ) → g.back ≤ number g M (normal g m) + q
      → number g M (normal g m) + q < line_steps g M (normal g m) + g.back
      → or_neutral g.low (in_window g.line page g.back M m q)
      ≡ along g f (start_row g M) (name_of g M m) (number g M (normal g m) + q - g.back)
  unfolding in_window
  window_on q h k =
      let t : ℕ = step_of g.line M in
      ap (λ (b : Bool). or_neutral g.low (cond b (on_line g.line page M m (t + q - g.back)) none))
      (le-leb g.back (t + q) (omega (arith, step_is)))
      ∙ value_on (t + q - g.back) (omega (arith, step_is)) (omega (arith, step_is, leave_is))
      ∙ ap (along g f (start_row g M) (name_of g M m)) (omega (arith, step_is))

  window_off : (q : ℕ)
      → (g.back ≤ step_of g.line M + q → (entry g (name_of g M m) ≤ step_of g.line M + q - g.back)
      → (step_of g.line M + q - g.back < leave g (start_row g M) (name_of g M m)) → ⊥)
      → or_neutral g.low (in_window g.line page g.back M m q) ≡ neutral g.low
  unfolding in_window or_neutral
  window_off q out =
      let t : ℕ = step_of g.line M in
      by_cases
      (dec_le g.back (t + q))
      (λ h. ap (λ (b : Bool). or_neutral g.low (cond b (on_line g.line page M m (t + q - g.back)) none))
      (le-leb g.back (t + q) h) ∙ ap (or_neutral g.low) (value_off (t + q - g.back) (out h)))
      (λ h. ap (λ (b : Bool). or_neutral g.low (cond b (on_line g.line page M m (t + q - g.back)) none))
      (lt-leb g.back (t + q) (omega arith)))

  window_before : (q : ℕ) → number g M (normal g m) + q < g.back
      → or_neutral g.low (in_window g.line page g.back M m q) ≡ neutral g.low
  window_before q h = window_off q (λ a b c. omega (arith, step_is))

  window_after : (q : ℕ) → line_steps g M (normal g m) + g.back ≤ number g M (normal g m) + q
      → or_neutral g.low (in_window g.line page g.back M m q) ≡ neutral g.low
  window_after q h = window_off q (λ a b c. omega (arith, step_is, leave_is))

  -- the extreme of the window is the sweeps' windowed value
  extreme_windowed : or_neutral g.low
      (extreme g.low (in_window g.line page g.back M m) 0 (suc (g.back + g.on)))
      ≡ windowed_at g f M (normal g m)
  unfolding span windowed_at
  extreme_windowed =
      extreme_best g.low (in_window g.line page g.back M m) (window_small page bytes g.line g.back M m) 0
      (g.back + g.on)
      ∙ ap (best g.low plain 0) (sym (sub-zero (g.back + g.on)))
      ∙ window_is g.low plain
      (λ q. or_neutral_small g.low (in_window g.line page g.back M m q)
      (window_small page bytes g.line g.back M m q))
      (along g f (start_row g M) (name_of g M m)) g.back g.on (line_steps g M (normal g m)) (number g M (normal g m))
      window_before window_on window_after
      (number_below g sized M (normal g m) rows (place_below g sized M m rows columns))
    where
      plain : ℕ → ℕ
      plain q = or_neutral g.low (in_window g.line page g.back M m q)

  found_there : (v : ℕ) → page M m ≡ some v
      → pass g.low g.line g.back g.length page M m ≡ some (windowed_at g f M (normal g m))
  found_there v e =
      let value : ℕ → Option ℕ = in_window g.line page g.back M m in
      let n : ℕ = suc (g.back + g.on) in
      let some_one =
      extreme_there g.low value 0 n g.back v (omega arith) (omega arith)
      (own_value g.line sized.sound page g.back M m ∙ e) in
      pass_there g.low g.line g.back g.length page M m v e
      ∙ ap (extreme g.low value 0) sized.length_is
      ∙ there_is g.low (extreme g.low value 0 n) some_one.0 some_one.1
      ∙ ap {B = Option ℕ} some extreme_windowed

-- what the filter makes at a pixel is what a pass of the sweeps makes there
pub bridge : (g : Grid) → Sized g → (page : View) → Absent g.height g.width page → Bytes page → (f : Page)
    → Shows g page f
    → (M m v : ℕ) → M < g.height → m < g.width → page M m ≡ some v
    → pass g.low g.line g.back g.length page M m
    ≡ some (windowed_at g f M (mirrored (falls g.line) g.width m))
bridge g sized page off bytes f shows M m v rows columns e =
    found_there g sized page off bytes f shows M m rows columns v e
