-- A pixel's line as the filter names it (geometry: the steps of the line through (M, m)) and as the sweeps name it
-- (sweep: start row u, name z): the same steps are in the page, and a pixel has the same number on its line.
-- Assumes nothing.
use mathlib.Core.Path.{◌≡◌, sym, ap₂, ◌∙◌}
use mathlib.Core.Bool.{true, ◌&&◌}
use Prim.Native.Nat.{ℕ, suc, ◌+◌, ◌-◌, ◌≤◌, ◌<◌}
use native.Mathlib.Omega.{arith}
use borrow.Author.Tests.{leb-true, le-leb}
use Rattle.geometry.specs.Line.{step_of, major_at}
use Rattle.geometry.specs.Number.{in_page, behind, ahead}
use Rattle.geometry.specs.Drift.{Inside, falls, mirrored}
use Rattle.geometry.proofs.Laws.{major_is, mirrored_below, inside, inside_in_page, consecutive, behind_low}
use Rattle.filter.proofs.Both.{and-true}
use Rattle.runs.specs.Grid.{Sized, start_row, line_name, entry, leave, steps, row_at, number, line_steps}
use Rattle.runs.specs.GridLaws as grid
use Rattle.runs.specs.GridLaws.{StepOnPage, on_page_lem, on_line}
use Rattle.runs.specs.declared.Grid.{Grid}

-- in plain numbers: a step s is between the edges of a side W, for a pixel at x and the drifts t at its step and s at
-- the other
left_on : (W x t s : ℕ) → x < W → t ≤ x + s → W + t - x ≤ W + s
left_on W x t s h k = omega arith

left_back : (W x t s : ℕ) → x < W → W + t - x ≤ W + s → t ≤ x + s
left_back W x t s h k = omega arith

right_on : (W x t s : ℕ) → x < W → x + s < W + t → s < W + t - x
right_on W x t s h k = omega arith

right_back : (W x t s : ℕ) → x < W → s < W + t - x → x + s < W + t
right_back W x t s h k = omega arith

-- steps from E up to X that are those from t - b to t + a
ends : (t b a E X : ℕ) → b ≤ t → E ≤ t → t < X → t ≤ E + b → X ≤ suc (t + a) → E ≤ t - b → t + a < X
    → (t - E ≡ b) × (X - E ≡ suc (b + a))
ends t b a E X low before beyond p q r s =
    let e : E + b ≡ t = omega arith in
    let v : X ≡ suc (t + a) = omega arith in
    (from_entry e, in_all e v)
  where
    from_entry : E + b ≡ t → t - E ≡ b
    from_entry e = omega arith

    in_all : E + b ≡ t → X ≡ suc (t + a) → X - E ≡ suc (b + a)
    in_all e v = omega arith

-- a pixel's place in normal form, and the name of its line
abbrev pub normal : Grid → ℕ → ℕ
normal g m = mirrored (falls g.line) g.width m

abbrev pub name_of : Grid → ℕ → ℕ → ℕ
name_of g M m = line_name g M (normal g m)

module _ (g : Grid) (sized : Sized g) (M m : ℕ) (rows : M < g.height) (columns : m < g.width) where
  -- its place in normal form
  pub place_below : normal g m < g.width
  place_below = mirrored_below (falls g.line) g.width m columns

  -- the row of a step
  pub row_of_step : (s : ℕ) → major_at g.line M s ≡ row_at g (start_row g M) s
  unfolding row_at start_row
  row_of_step s = major_is g.line M s

  on_of_inside : (s : ℕ) → Inside g.line g.height g.width M (normal g m) s
      → StepOnPage g (start_row g M) (name_of g M m) s
  unfolding line_name start_row
  on_of_inside s i =
      record {
        row =
            omega (arith, major_is g.line M s, i.long);
        left =
            left_on _ _ _ _ place_below i.low;
        right = right_on _ _ _ _ place_below i.high;
      }

  inside_of_on : (s : ℕ) → StepOnPage g (start_row g M) (name_of g M m) s
      → Inside g.line g.height g.width M (normal g m) s
  unfolding line_name start_row
  inside_of_on s o =
      record {
        long =
            omega (arith, major_is g.line M s, o.row);
        low =
            left_back _ _ _ _ place_below o.left;
        high = right_back _ _ _ _ place_below o.right;
      }

  -- the steps in the page are those from the entry up to where the line leaves
  pub in_page_on : (s : ℕ) → in_page g.line g.height g.width M m s ≡ true
      → (entry g (name_of g M m) ≤ s) × (s < leave g (start_row g M) (name_of g M m))
  in_page_on s e =
      on_line g sized _ _ s (on_of_inside s (inside g.line sized.sound g.height g.width M m s columns e))

  pub on_in_page : (s : ℕ) → entry g (name_of g M m) ≤ s → s < leave g (start_row g M) (name_of g M m)
      → in_page g.line g.height g.width M m s ≡ true
  on_in_page s h k =
      inside_in_page g.line sized.sound g.height g.width M m s columns
      (inside_of_on s (on_page_lem g sized _ _ s h k))

  -- its own step is one of them
  pub own_on : (entry g (name_of g M m) ≤ step_of g.line M)
      × (step_of g.line M < leave g (start_row g M) (name_of g M m))
  own_on = on_line g sized _ _ _ (grid.own_step g sized M (normal g m) rows place_below)

  counted_on : (s : ℕ) → step_of g.line M ≤ s + behind g.line g.height g.width M m
      → s ≤ step_of g.line M + ahead g.line g.height g.width M m
      → in_page g.line g.height g.width M m s ≡ true
  counted_on s h k =
      consecutive g.line sized.sound g.height g.width M m rows columns s
      ∙ ap₂ ◌&&◌ (le-leb _ _ h) (le-leb _ _ k)

  on_counted : (s : ℕ) → in_page g.line g.height g.width M m s ≡ true
      → (step_of g.line M ≤ s + behind g.line g.height g.width M m)
      × (s ≤ step_of g.line M + ahead g.line g.height g.width M m)
  on_counted s e =
      let both =
      and-true _ _ (sym (consecutive g.line sized.sound g.height g.width M m rows columns s) ∙ e) in
      (leb-true _ _ both.0, leb-true _ _ both.1)

  numbers : (number g M (normal g m) ≡ behind g.line g.height g.width M m)
      × (line_steps g M (normal g m)
      ≡ suc (behind g.line g.height g.width M m + ahead g.line g.height g.width M m))
  unfolding number line_steps steps
  numbers =
      go (step_of g.line M) (behind g.line g.height g.width M m) (ahead g.line g.height g.width M m)
      (entry g (name_of g M m))
      (leave g (start_row g M) (name_of g M m))
      (behind_low g.line sized.sound g.height g.width M m rows columns)
      own_on.0 own_on.1
      (λ s h k. on_counted s (on_in_page s h k))
      (λ s h k. in_page_on s (counted_on s h k))
    where
      go : (t b a E X : ℕ) → b ≤ t → E ≤ t → t < X
          → ((s : ℕ) → E ≤ s → s < X → (t ≤ s + b) × (s ≤ t + a))
          → ((s : ℕ) → t ≤ s + b → s ≤ t + a → (E ≤ s) × (s < X))
          → (t - E ≡ b) × (X - E ≡ suc (b + a))
      go t b a E X low before beyond there back =
          let first = there E (omega arith) (omega arith) in
          let last = there (X - 1) (omega arith) (omega arith) in
          let first' = back (t - b) (omega arith) (omega arith) in
          let last' = back (t + a) (omega arith) (omega arith) in
          ends t b a E X low before beyond first.0 (omega (arith, last.1)) first'.0 last'.1

  -- a pixel's number on its line, and how many pixels the line has
  pub number_behind : number g M (normal g m) ≡ behind g.line g.height g.width M m
  number_behind = numbers.0

  pub steps_counted : line_steps g M (normal g m)
      ≡ suc (behind g.line g.height g.width M m + ahead g.line g.height g.width M m)
  steps_counted = numbers.1
