-- What the sweeps make at a pixel is what its line's laws say (BlockLaws), with its cost. Assumes nothing.
use mathlib.Core.Path.{◌≡◌, sym, ap, ap₂, ◌∙◌, subst}
use mathlib.Core.List.{List}
use mathlib.Core.Logic.{◌⊎◌, by_cases}
use Prim.Native.Nat.{ℕ, suc, ◌+◌, ◌-◌, ◌%◌, ◌≤◌, ◌<◌}
use native.Mathlib.Nat.{mod-le, mod-lt}
use native.Mathlib.Decide.{dec_lt}
use native.Mathlib.Omega.{arith}
use Rattle.geometry.specs.Line.{period, step_of}
use Rattle.runs.specs.Span.{chosen}
use Rattle.runs.specs.Block.{from_start, to_end, windowed, resulting}
use Rattle.runs.proofs.BlockLaws.{from_start_first, from_start_next, to_end_last, to_end_next, rightward_first}
use Rattle.runs.proofs.BlockLaws.{rightward_next, leftward_last, leftward_next, result_whole, result_block}
use Rattle.runs.proofs.BlockLaws.{result_across, result_cut, result_short, result_within, result_last, result_early}
use Rattle.runs.proofs.BlockLaws.{result_all, result_short_line}
use Rattle.runs.specs.Grid.{Page, Pixel, start_row, line_name, entry, leave, steps, row_at, column_at, along, number}
use Rattle.runs.specs.Grid.{line_steps, to_end_at, from_start_at, windowed_at, rightward_at, leftward_at, resulting_at}
use Rattle.runs.specs.GridLaws.{StepOnPage, on_line, on_page_lem, own_step, start_small, row_again, column_again}
use Rattle.runs.specs.GridLaws.{number_is, number_below, page_on, to_end_on, from_start_on}
use Rattle.runs.specs.declared.Grid.{Grid}
use Rattle.runs.proofs.Bounds.{some_length}

module _ {g : Grid} {profile reaches : List ℕ} {R t x : ℕ} (at : Pixel g profile reaches R t x) where
  abbrev pub u : ℕ
  u = start_row g R

  abbrev pub z : ℕ
  z = line_name g R x

  pub small : u < period g.line
  small = start_small g at.sized R x at.row at.column

  pub long : 0 < g.length
  long = some_length at.sized

  pub own : StepOnPage g u z t
  own = subst (StepOnPage g u z) (sym at.step) (own_step g at.sized R x at.row at.column)

  -- the pixel's step is its number after the entry
  pub numbered : entry g z + number g R x ≡ t
  numbered = number_is g at.sized R x at.row at.column ∙ sym at.step

  pub in_line : number g R x < line_steps g R x
  in_line = number_below g at.sized R x at.row at.column

  -- the page along its line, at its number
  pub here : (f : Page) → along g f u z (number g R x) ≡ f R x
  unfolding number
  here f =
      sym (page_on g at.sized u z (step_of g.line R) small (own_step g at.sized R x at.row at.column) f)
      ∙ ap₂ f (row_again g at.sized R x at.row at.column) (column_again g at.sized R x at.row at.column)

  -- where a step of the line is in the page, its number is in the line
  module _ (s : ℕ) (there : StepOnPage g u z s) where
    pub entered : entry g z ≤ s
    entered = (on_line g at.sized u z s there).0

    pub counted : s - entry g z < line_steps g R x
    unfolding line_steps steps
    counted =
        let low : entry g z ≤ s = (on_line g at.sized u z s there).0 in
        let high : s < leave g u z = (on_line g at.sized u z s there).1 in
        omega arith

  -- past the entry, a step that is not in the page is past the line's last
  pub past : (s : ℕ) → entry g z ≤ s → (StepOnPage g u z s → ⊥) → line_steps g R x ≤ s - entry g z
  unfolding line_steps steps
  past s h off =
      by_cases (dec_lt s (leave g u z)) (λ k. absurd (off (on_page_lem g at.sized u z s h k))) (λ k. omega arith)

  -- the line's last step, b steps on
  last_step : (b : ℕ) → StepOnPage g u z (t + b) → (StepOnPage g u z (t + suc b) → ⊥)
      → line_steps g R x ≡ suc (number g R x + b)
  last_step b there off = omega (arith, numbered, counted (t + b) there, past (t + suc b) (omega (arith, numbered)) off)

  -- ---- backward

  pub back_last : (f : Page) → (suc (number g R x) % g.length ≡ 0) ⊎ (suc (number g R x) ≡ line_steps g R x)
      → f R x ≡ to_end_at g f R x
  unfolding to_end_at
  back_last f ends =
      sym (here f) ∙ sym (to_end_last g.low g.length (line_steps g R x) (along g f u z) (number g R x) long in_line ends)

  pub back_last_cost : (suc (number g R x) % g.length ≡ 0) ⊎ (suc (number g R x) ≡ line_steps g R x)
      → 0 ≡ leftward_at g R x
  unfolding leftward_at
  back_last_cost ends = leftward_last g.length (line_steps g R x) (number g R x) ends

  pub no_next : (StepOnPage g u z (t + 1) → ⊥) → suc (number g R x) ≡ line_steps g R x
  no_next off =
      let far : line_steps g R x ≤ t + 1 - entry g z = past (t + 1) (omega (arith, numbered)) off in
      omega (arith, numbered, in_line)

  module _ (going : 0 < suc (number g R x) % g.length) (next : StepOnPage g u z (t + 1)) where
    pub back_next : (f : Page)
        → chosen g.low (f R x) (to_end_at g f (row_at g u (t + 1)) (column_at g z (t + 1))) ≡ to_end_at g f R x
    unfolding to_end_at line_steps
    back_next f =
        let after : t + 1 - entry g z ≡ suc (number g R x) = omega (arith, numbered) in
        let inside : t + 1 - entry g z < steps g u z = counted (t + 1) next in
        ap₂ (chosen g.low) (sym (here f))
        (to_end_on g at.sized u z (t + 1) small next f ∙ ap (to_end g.low g.length (steps g u z) (along g f u z)) after)
        ∙ sym (to_end_next g.low g.length (steps g u z) (along g f u z) (number g R x) long going (omega arith))

    pub back_next_cost : 1 ≡ leftward_at g R x
    unfolding leftward_at line_steps
    back_next_cost =
        let inside : t + 1 - entry g z < steps g u z = counted (t + 1) next in
        leftward_next g.length (steps g u z) (number g R x) going (omega (arith, numbered))

  -- ---- forward

  pub ahead_first : (f : Page) → number g R x % g.length ≡ 0 → f R x ≡ from_start_at g f R x
  unfolding from_start_at
  ahead_first f e = sym (here f) ∙ sym (from_start_first g.low g.length (along g f u z) (number g R x) e)

  pub ahead_first_cost : number g R x % g.length ≡ 0 → 0 ≡ rightward_at g R x
  unfolding rightward_at
  ahead_first_cost e = rightward_first g.length (number g R x) e

  module _ (going : 0 < number g R x % g.length) where
    pub later : 0 < number g R x
    later = omega (arith, mod-le (number g R x) g.length)

    -- the step before is in the page
    pub before : StepOnPage g u z (t - 1)
    before =
        on_page_lem g at.sized u z (t - 1) (omega (arith, numbered, later)) (omega (arith, line_leaves))
      where
        line_leaves : t < leave g u z
        line_leaves = (on_line g at.sized u z t own).1

    pub ahead_next : (f : Page)
        → chosen g.low (from_start_at g f (row_at g u (t - 1)) (column_at g z (t - 1))) (f R x)
        ≡ from_start_at g f R x
    unfolding from_start_at
    ahead_next f =
        let j : number g R x ≡ suc (number g R x - 1) = omega (arith, later) in
        let was : t - 1 - entry g z ≡ number g R x - 1 = omega (arith, numbered) in
        let on : 0 < suc (number g R x - 1) % g.length = rw j at going in
        ap₂ (chosen g.low) (from_start_on g at.sized u z (t - 1) small before f ∙ ap (from_start g.low g.length (along g f u z)) was) (sym (here f) ∙ ap (along g f u z) j)
        ∙ sym (from_start_next g.low g.length (along g f u z) (number g R x - 1) long on)
        ∙ ap (from_start g.low g.length (along g f u z)) (sym j)

    pub ahead_next_cost : 1 ≡ rightward_at g R x
    unfolding rightward_at
    ahead_next_cost = rightward_next g.length (number g R x) going

  -- ---- results

  -- the window begins in the line, at the step back steps before
  module _ (reached : g.back ≤ number g R x) where
    abbrev first : ℕ
    first = number g R x - g.back

    apart : first + g.back ≡ number g R x
    apart = omega arith

    fits : first + g.back < line_steps g R x
    fits = omega (arith, in_line)

    -- what the line's laws say of the step first + back is said of the pixel
    moved : (f : Page) (v c : ℕ)
        → (windowed g.low (line_steps g R x) g.back g.on (along g f u z) (first + g.back) ≡ v)
        × (resulting g.length (line_steps g R x) g.back g.on (first + g.back) ≡ c)
        → (v ≡ windowed_at g f R x) × (c ≡ resulting_at g R x)
    unfolding windowed_at resulting_at
    moved f v c r = (
      sym r.0 ∙ ap (windowed g.low (line_steps g R x) g.back g.on (along g f u z)) apart,
      sym r.1 ∙ ap (resulting g.length (line_steps g R x) g.back g.on) apart,
    )

    pub start : StepOnPage g u z (t - g.back)
    start =
        on_page_lem g at.sized u z (t - g.back) (omega (arith, numbered))
        (omega (arith, (on_line g at.sized u z t own).1))

    start_is : t - g.back - entry g z ≡ first
    start_is = omega (arith, numbered)

    -- the running extreme from there to its block's end
    rest : (f : Page)
        → to_end g.low g.length (line_steps g R x) (along g f u z) first
        ≡ to_end_at g f (row_at g u (t - g.back)) (column_at g z (t - g.back))
    unfolding line_steps
    rest f =
        ap (to_end g.low g.length (steps g u z) (along g f u z)) (sym start_is)
        ∙ sym (to_end_on g at.sized u z (t - g.back) small start f)

    pub made_whole : (f : Page) → first % g.length ≡ 0
        → (to_end_at g f (row_at g u (t - g.back)) (column_at g z (t - g.back)) ≡ windowed_at g f R x)
        × (0 ≡ resulting_at g R x)
    made_whole f e =
        let r =
        result_whole g.length (line_steps g R x) g.back g.on first at.sized.length_is g.low (along g f u z) fits e in
        moved f _ _ (r.0 ∙ rest f, r.1)

    -- where such a window ends in the line, the extreme from its block's start is all of it
    pub made_block : (f : Page) → first % g.length ≡ 0 → StepOnPage g u z (t + g.on)
        → (from_start_at g f (row_at g u (t + g.on)) (column_at g z (t + g.on)) ≡ windowed_at g f R x)
        × (0 ≡ resulting_at g R x)
    made_block f e ends =
        let far : t + g.on - entry g z < line_steps g R x = counted (t + g.on) ends in
        let last : t + g.on - entry g z ≡ first + g.back + g.on = omega (arith, numbered) in
        let r =
        result_block g.length (line_steps g R x) g.back g.on first at.sized.length_is g.low (along g f u z) fits e
        (omega arith) in
        let whole =
        result_whole g.length (line_steps g R x) g.back g.on first at.sized.length_is g.low (along g f u z) fits e in
        moved f _ _ (r ∙ ap (from_start g.low g.length (along g f u z)) (sym last) ∙ sym (from_start_on g at.sized u z (t + g.on) small ends f), whole.1)

    module _ (inside : 0 < first % g.length) where
      -- where the window ends in the line, the next block gives the rest
      pub made_across : (f : Page) → StepOnPage g u z (t + g.on)
          → (chosen g.low (to_end_at g f (row_at g u (t - g.back)) (column_at g z (t - g.back))) (from_start_at g f (row_at g u (t + g.on)) (column_at g z (t + g.on))) ≡ windowed_at g f R x)
          × (1 ≡ resulting_at g R x)
      made_across f ends =
          let far : t + g.on - entry g z < line_steps g R x = counted (t + g.on) ends in
          let last : t + g.on - entry g z ≡ first + g.back + g.on = omega (arith, numbered) in
          let r =
          result_across g.length (line_steps g R x) g.back g.on first at.sized.length_is g.low
          (along g f u z) fits inside (omega arith) in
          let other : from_start g.low g.length (along g f u z) (first + g.back + g.on) ≡ from_start_at g f (row_at g u (t + g.on)) (column_at g z (t + g.on)) =
          ap (from_start g.low g.length (along g f u z)) (sym last)
          ∙ sym (from_start_on g at.sized u z (t + g.on) small ends f) in
          moved f _ _ (r.0 ∙ ap₂ (chosen g.low) (rest f) other, r.1)

      -- the step at which the next block begins
      abbrev pub following : ℕ
      following = t - g.back + (g.length - first % g.length)

      following_is : following - entry g z + first % g.length ≡ first + g.length
      following_is = omega (arith, numbered, mod-lt first long)

      module _ (ends : StepOnPage g u z (t + g.on) → ⊥) where
        cut : line_steps g R x ≤ first + g.back + g.on
        cut =
            let far : line_steps g R x ≤ t + g.on - entry g z = past (t + g.on) (omega (arith, numbered)) ends in
            omega (arith, numbered)

        pub made_cut : (f : Page) → StepOnPage g u z following
            → (chosen g.low (to_end_at g f (row_at g u (t - g.back)) (column_at g z (t - g.back))) (to_end_at g f (row_at g u following) (column_at g z following)) ≡ windowed_at g f R x)
            × (1 ≡ resulting_at g R x)
        unfolding line_steps
        made_cut f next =
            let r =
            result_cut g.length (line_steps g R x) g.back g.on first at.sized.length_is g.low (along g f u z) fits
            (following - entry g z) following_is inside cut (counted following next) in
            moved f _ _ (r.0 ∙ ap₂ (chosen g.low) (rest f) (sym (to_end_on g at.sized u z following small next f)), r.1)

      pub made_short : (f : Page) → (StepOnPage g u z following → ⊥)
          → (to_end_at g f (row_at g u (t - g.back)) (column_at g z (t - g.back)) ≡ windowed_at g f R x)
          × (0 ≡ resulting_at g R x)
      made_short f next =
          let far : line_steps g R x ≤ following - entry g z = past following (omega (arith, numbered)) next in
          let r =
          result_short g.length (line_steps g R x) g.back g.on first at.sized.length_is g.low (along g f u z) fits
          (following - entry g z) following_is inside far in
          moved f _ _ (r.0 ∙ rest f, r.1)

    -- the window ends past the line's last step, which is b steps on
    module _ (b : ℕ) (cut : b ≤ g.on) (there : StepOnPage g u z (t + b)) (off : StepOnPage g u z (t + suc b) → ⊥) where
      ended : line_steps g R x ≡ suc (first + (g.back + b))
      ended = omega (arith, numbered, last_step b there off)

      last_is : t + b - entry g z ≡ first + (g.back + b)
      last_is = omega (arith, numbered)

      pub made_within : (f : Page) → g.back + b ≤ (t + b - entry g z) % g.length
          → (to_end_at g f (row_at g u (t - g.back)) (column_at g z (t - g.back)) ≡ windowed_at g f R x)
          × (0 ≡ resulting_at g R x)
      made_within f far =
          let r =
          result_within g.length (line_steps g R x) g.back g.on first at.sized.length_is g.low (along g f u z) fits
          (g.back + b) ended (omega arith) (rw last_is at far) in
          moved f _ _ (r.0 ∙ rest f, r.1)

      pub made_last : (f : Page) → (t + b - entry g z) % g.length < g.back + b
          → (chosen g.low (to_end_at g f (row_at g u (t - g.back)) (column_at g z (t - g.back))) (from_start_at g f (row_at g u (t + b)) (column_at g z (t + b))) ≡ windowed_at g f R x)
          × (1 ≡ resulting_at g R x)
      made_last f near =
          let r =
          result_last g.length (line_steps g R x) g.back g.on first at.sized.length_is g.low (along g f u z) fits
          (g.back + b) ended (omega arith) (rw last_is at near) in
          let other : from_start g.low g.length (along g f u z) (first + (g.back + b)) ≡ from_start_at g f (row_at g u (t + b)) (column_at g z (t + b)) =
          ap (from_start g.low g.length (along g f u z)) (sym last_is)
          ∙ sym (from_start_on g at.sized u z (t + b) small there f) in
          moved f _ _ (r.0 ∙ ap₂ (chosen g.low) (rest f) other, r.1)

  -- the window begins before the line
  module _ (early : number g R x < g.back) where
    told : (f : Page) (v c : ℕ)
        → (windowed g.low (line_steps g R x) g.back g.on (along g f u z) (number g R x) ≡ v)
        × (resulting g.length (line_steps g R x) g.back g.on (number g R x) ≡ c)
        → (v ≡ windowed_at g f R x) × (c ≡ resulting_at g R x)
    unfolding windowed_at resulting_at
    told f v c r = (sym r.0, sym r.1)

    pub made_early : (f : Page) → StepOnPage g u z (t + g.on)
        → (from_start_at g f (row_at g u (t + g.on)) (column_at g z (t + g.on)) ≡ windowed_at g f R x)
        × (0 ≡ resulting_at g R x)
    made_early f ends =
        let far : t + g.on - entry g z < line_steps g R x = counted (t + g.on) ends in
        let last : t + g.on - entry g z ≡ number g R x + g.on = omega (arith, numbered) in
        let r =
        result_early g.length (line_steps g R x) g.back g.on (number g R x) at.sized.length_is early in_line g.low
        (along g f u z) (omega arith) in
        told f _ _ (r.0 ∙ ap (from_start g.low g.length (along g f u z)) (sym last) ∙ sym (from_start_on g at.sized u z (t + g.on) small ends f), r.1)

    pub entering : StepOnPage g u z (entry g z)
    entering =
        on_page_lem g at.sized u z (entry g z) (omega arith) (omega (arith, numbered, (on_line g at.sized u z t own).1))

    pub made_all : (f : Page) → (StepOnPage g u z (t + g.on) → ⊥)
        → (to_end_at g f (row_at g u (entry g z)) (column_at g z (entry g z)) ≡ windowed_at g f R x)
        × (0 ≡ resulting_at g R x)
    unfolding line_steps
    made_all f ends =
        let far : line_steps g R x ≤ t + g.on - entry g z = past (t + g.on) (omega (arith, numbered)) ends in
        let none : entry g z - entry g z ≡ 0 = omega arith in
        let r =
        result_all g.length (line_steps g R x) g.back g.on (number g R x) at.sized.length_is early in_line g.low
        (along g f u z) (omega (arith, numbered)) in
        told f _ _ (r.0 ∙ ap (to_end g.low g.length (steps g u z) (along g f u z)) (sym none) ∙ sym (to_end_on g at.sized u z (entry g z) small entering f), r.1)

    pub made_short_line : (f : Page) (b : ℕ) → b ≤ g.on → StepOnPage g u z (t + b) → (StepOnPage g u z (t + suc b) → ⊥)
        → (from_start_at g f (row_at g u (t + b)) (column_at g z (t + b)) ≡ windowed_at g f R x)
        × (0 ≡ resulting_at g R x)
    made_short_line f b cut there off =
        let last : number g R x + b ≡ t + b - entry g z = omega (arith, numbered) in
        let r =
        result_short_line g.length (line_steps g R x) g.back g.on (number g R x) at.sized.length_is early in_line g.low
        (along g f u z) (number g R x + b) (last_step b there off) (omega arith) in
        told f _ _ (r.0 ∙ ap (from_start g.low g.length (along g f u z)) last ∙ sym (from_start_on g at.sized u z (t + b) small there f), r.1)
