-- The results of lines that leave at the page's bottom, where their windows end past the line. Assumes nothing.
use mathlib.Core.Path.{◌≡◌, sym, ap, ap₂, ◌∙◌, subst}
use mathlib.Core.Bool.{Bool, true, false, cond}
use mathlib.Core.List.{List}
use mathlib.Core.Logic.{inl, inr, ⊎_elim, by_cases}
use Prim.Native.Nat.{ℕ, suc, ◌+◌, ◌-◌, ◌*◌, ◌%◌, ◌≤◌, ◌<◌, zero-le}
use native.Mathlib.Nat.{mod-lt, zero-add, mul-le-mul_right}
use native.Mathlib.Decide.{dec_lt}
use native.Mathlib.Omega.{arith}
use lib.Dec.{ltb}
use lib.ListN.{get_or}
use borrow.Author.Tests.{le-leb, lt-leb, lt-ltb, le-ltb}
use Rattle.geometry.specs.Drift.{drift}
use Rattle.runs.specs.Span.{chosen}
use Rattle.runs.specs.Grid.{Page, Pixel, start_row, line_name, row_at, column_at, number, to_end_at, from_start_at}
use Rattle.runs.specs.GridLaws.{StepOnPage, row_fits}
use Rattle.runs.specs.Scratch.{size, total}
use Rattle.sweep.specs.Sweeps.{Ready, PartDone, target, new_at, cost_at, window_rows}
use Rattle.sweep.specs.Bottom.{AtBottom, Begun, WithinAt}
use Rattle.runs.specs.Runs.{Row, EdgeAt, FarEdge, Marked, Copied, ChosenUnless, compared_of, entry_at, place_at}
use Rattle.runs.specs.Runs.{in_one_block}
use Rattle.runs.specs.declared.Grid.{Grid}
use Rattle.sweep.specs.declared.Within.{Within}
use Rattle.sweep.specs.declared.Sweep.TheVariants.{Result}
use Rattle.sweep.proofs.Making.{small, start, made_within, made_last, made_short_line}
use Rattle.sweep.proofs.Reading.{read_B, read_within}
use Rattle.runs.proofs.Bounds.{some_length}
use Rattle.runs.proofs.Planning.{pixel, here, name, row_on, on, target_is}
use Rattle.sweep.proofs.Places.{from_entry, far_rows}
use Rattle.sweep.proofs.Parts.{Free, Charged, Told, copied_part, unless_part}
use Rattle.runs.proofs.Walking.{mod_sum, mark_entered}
use Rattle.sweep.proofs.Resting.{place_is, place_shift, place_fits}

-- ---- what a mark says

-- step T is as far into the block of a line that entered at step e as e's mark says
module _ (L e T d last near far : ℕ) (long : 0 < L) (entered : e ≤ T) (last_is : last ≡ T % L)
    (near_is : near ≡ suc last - d) (far_is : far ≡ suc last + L - d) where
  below : e % L ≤ last → in_one_block last near far (e % L) ≡ ltb (e % L) near
  unfolding in_one_block
  below h = ap (λ (q : Bool). ltb (e % L) (cond q near far)) (le-leb _ _ h)

  above : last < e % L → in_one_block last near far (e % L) ≡ ltb (e % L) far
  unfolding in_one_block
  above h = ap (λ (q : Bool). ltb (e % L) (cond q near far)) (lt-leb _ _ h)

  pub told_within : d ≤ (T - e) % L → in_one_block last near far (e % L) ≡ true
  told_within h =
      ⊎_elim
      (λ w. below (omega arith) ∙ lt-ltb (e % L) near (omega arith))
      (λ w. above (omega (arith, mod-lt (T - e) long)) ∙ lt-ltb (e % L) far (omega arith))
      (mod_sum L e T long entered)

  pub told_beyond : (T - e) % L < d → in_one_block last near far (e % L) ≡ false
  told_beyond h =
      ⊎_elim
      (λ w. below (omega arith) ∙ le-ltb (e % L) near (omega arith))
      (λ w. above (omega (arith, mod-lt (T - e) long)) ∙ le-ltb (e % L) far (omega arith))
      (mod_sum L e T long entered)

-- where windows reach below the page, no column's window ends in it
pub far_zero : (g : Grid) (profile reaches : List ℕ) (R t : ℕ) (at : Row g profile reaches R t) (b hi : ℕ)
    → FarEdge g R t g.on hi → b < g.on → g.height ≤ R + suc b * g.period → hi ≡ 0
far_zero g profile reaches R t at b hi far past bottom =
    by_cases (dec_lt 0 hi)
    (λ some.
    let down : suc b * g.period ≤ g.on * g.period = mul-le-mul_right g.period past in
    absurd (omega (arith, far_rows at g.on hi far some)))
    (λ none. omega arith)

module _ {g : Grid} {profile reaches : List ℕ} {R t : ℕ} (at : Row g profile reaches R t) (b lo hi : ℕ)
    (low : AtBottom g R t b lo hi) where
  pub bottom_row : R - t * g.period + (t + b) * g.period < g.height
  bottom_row = omega (arith, target_is g profile reaches R t at (t + b), row_on g profile reaches R t at b, low.row)

  pub bottom_rises : drift g.line t ≤ drift g.line (t + b)
  bottom_rises = (on g profile reaches R t at b low.row).rises

  pub bottom_below : t + b < g.height
  bottom_below = (on g profile reaches R t at b low.row).below

  -- the last pixels stand in this row or below it
  pub place_after : (x : ℕ) → R * g.width + x ≤ place_at g R t (t + b) x
  unfolding place_at
  place_after x =
      let rows : R ≤ R - t * g.period + (t + b) * g.period =
      omega (arith, target_is g profile reaches R t at (t + b), row_on g profile reaches R t at b) in
      let down : R * g.width ≤ (R - t * g.period + (t + b) * g.period) * g.width = mul-le-mul_right g.width rows in
      omega (arith, bottom_rises)

  -- some of the columns
  pub bottom_some : (x stop : ℕ) → lo ≤ x → stop ≤ hi → AtBottom g R t b x stop
  bottom_some x stop from to =
      record {
        most = omega (arith, low.most);
        side = omega (arith, low.side);
        row = low.row;
        bottom = low.bottom;
        there = λ y l h. low.there y (omega arith) (omega arith);
        past = low.past;
      }

  module _ (old : List ℕ) (y : ℕ) (l : lo ≤ y) (h : y < hi) where
    column : y < g.width
    column = omega (arith, low.most)

    at_y : Pixel g profile reaches R t y
    at_y = pixel g profile reaches R t at y column

    there : StepOnPage g (start_row g R) (line_name g R y) (t + b)
    there = low.there y l h

    off : StepOnPage g (start_row g R) (line_name g R y) (t + suc b) → ⊥
    off o = let r = o.row in omega (arith, row_on g profile reaches R t at (suc b), low.bottom)

    cut : b ≤ g.on
    cut = omega (arith, low.past)

    -- page A at the line's last pixel
    read_last : (f : Page) → Ready Result g old f R y
        → get_or old (place_at g R t (t + b) y) 0
        ≡ from_start_at g f (row_at g (start_row g R) (t + b)) (column_at g (line_name g R y) (t + b))
    unfolding Ready window_rows
    read_last f ready =
        ap (λ (i : ℕ). get_or old i 0) (place_is at y column (t + b) there)
        ∙ read_within at_y old (from_start_at g f) b g.on cut there ready.0 ready.1

    pub short_line_free : number g R y < g.back → Free Result g R old (get_or old (place_at g R t (t + b) y) 0) y
    unfolding new_at cost_at
    short_line_free early = (
      λ f ready. read_last f ready ∙ (made_short_line at_y early f b cut there off).0,
      (made_short_line at_y early (λ R x. 0) b cut there off).1,
    )

    module _ (begun : entry_at g R y + g.back ≤ t) where
      reached : g.back ≤ number g R y
      reached = omega (arith, from_entry at y column)

      pub begins : StepOnPage g (start_row g R) (line_name g R y) (t - g.back)
      begins = start at_y reached

      -- page B at the window's first
      read_first_lem : (f : Page) → Ready Result g old f R y
          → get_or old (size g + place_at g R t (t - g.back) y) 0
          ≡ to_end_at g f (row_at g (start_row g R) (t - g.back)) (column_at g (line_name g R y) (t - g.back))
      unfolding Ready
      read_first_lem f ready =
          ap (λ (i : ℕ). get_or old (size g + i) 0) (place_is at y column (t - g.back) begins)
          ∙ read_B at_y old (to_end_at g f) 0 g.height (t - g.back) begins zero-le
          (row_fits g at.sized _ _ _ (small at_y) begins) ready.2

      pub within_free : g.back + b ≤ (t + b - entry_at g R y) % g.length
          → Free Result g R old (get_or old (size g + place_at g R t (t - g.back) y) 0) y
      unfolding new_at cost_at entry_at
      within_free far = (
        λ f ready. read_first_lem f ready ∙ (made_within at_y reached b cut there off f far).0,
        (made_within at_y reached b cut there off (λ R x. 0) far).1,
      )

      pub last_charged : (t + b - entry_at g R y) % g.length < g.back + b
          → Charged Result g R old (chosen g.low (get_or old (size g + place_at g R t (t - g.back) y) 0) (get_or old (place_at g R t (t + b) y) 0)) y
      unfolding new_at cost_at entry_at
      last_charged near = (
        λ f ready. ap₂ (chosen g.low) (read_first_lem f ready) (read_last f ready)
            ∙ (made_last at_y reached b cut there off f near).0,
        (made_last at_y reached b cut there off (λ R x. 0) near).1,
      )

-- ---- the parts of a row

module _ {g : Grid} {profile reaches : List ℕ} {R t : ℕ} (at : Row g profile reaches R t) (old new : List ℕ) where
  pub early_bottom_made : (b lo hi : ℕ) → AtBottom g R t b 0 hi → EdgeAt g R t t g.back hi lo
      → Copied (R * g.width) (place_at g R t (t + b) 0) lo old new → PartDone Result g R 0 lo old new 0
  unfolding target
  early_bottom_made b lo hi low near copied =
      let all : lo ≡ lo - 0 = omega arith in
      copied_part Result g R old 0 lo (R * g.width) (place_at g R t (t + b) 0) new zero-le (omega arith)
      (subst (λ (n : ℕ). Copied (R * g.width) (place_at g R t (t + b) 0) n old new) all copied) (λ y l h.
      let inside : y < hi = omega (arith, near.most) in
      let late = near.left y h in
      let early : number g R y < g.back = omega (arith, from_entry at y (omega (arith, low.most))) in
      let place : place_at g R t (t + b) 0 + (y - 0) ≡ place_at g R t (t + b) y =
      place_shift at (t + b) 0 y zero-le (omega (arith, bottom_rises at b 0 hi low)) in
      subst (λ (i : ℕ). Free Result g R old (get_or old i 0) y) (sym place)
      (short_line_free at b 0 hi low old y l inside early))

  module _ (b lo hi : ℕ) (low : AtBottom g R t b lo hi) (begun : Begun g R t lo hi) (some : lo < hi) where
    -- the window's first pixels are in the page
    pub first_reached : drift g.line t ≤ lo + drift g.line (t - g.back)
    first_reached =
        let there = begins at b lo hi low old lo (omega arith) some (begun lo (omega arith) some) in
        omega (arith, there.left, name g profile reaches R t at lo (omega (arith, low.most)))

    -- both runs are in their pages
    pub first_fits : place_at g R t (t - g.back) lo + (hi - lo) ≤ size g
    first_fits =
        place_fits at (t - g.back) lo hi some low.most first_reached
        (begins at b lo hi low old (hi - 1) (omega arith) (omega arith) (begun (hi - 1) (omega arith) (omega arith)))

    pub second_fits : place_at g R t (t + b) lo + (hi - lo) ≤ size g
    second_fits =
        place_fits at (t + b) lo hi some low.most (omega (arith, bottom_rises at b lo hi low))
        (low.there (hi - 1) (omega arith) (omega arith))

    module _ (marks : List ℕ) (marked : Marked g marks) (w : Within) (is : WithinAt g t b w)
        (place first second count : ℕ)
        (place_at_lem : place ≡ lo + g.height - drift g.line t)
        (first_at : first ≡ size g + place_at g R t (t - g.back) lo)
        (second_at : second ≡ place_at g R t (t + b) lo) where
      pub block_made : ChosenUnless g.low (λ k. in_one_block w.last w.near w.far (get_or marks (place + k) 0)) (R * g.width + lo) first second (hi - lo) old new
          → count ≡ total (compared_of (λ k. in_one_block w.last w.near w.far (get_or marks (place + k) 0))) 0 (hi - lo)
          → PartDone Result g R lo hi old new count
      unfolding target
      block_made made so-many =
          unless_part Result g R old _ lo hi (R * g.width + lo) first second new count (omega arith)
          (ap (λ (q : ℕ). q + lo) (sym (zero-add (R * g.width)))) made so-many told
        where
          told : (y : ℕ) → lo ≤ y → y < hi → Told Result g R old (λ k. in_one_block w.last w.near w.far (get_or marks (place + k) 0)) lo hi (R * g.width + lo) first second new y
          told y l h =
              let long = some_length at.sized in
              let entered = begun y l h in
              let mark : get_or marks (place + (y - lo)) 0 ≡ entry_at g R y % g.length =
              mark_entered g profile reaches R t at marks y (place + (y - lo)) marked (omega (arith, low.most))
              (omega (arith, low.side)) (omega (arith, (here g profile reaches R t at).drift_below)) in
              let keeps = ap (in_one_block w.last w.near w.far) mark in
              let one : first + (y - lo) ≡ size g + place_at g R t (t - g.back) y =
              let moved = place_shift at (t - g.back) lo y l first_reached in omega arith in
              let two : second + (y - lo) ≡ place_at g R t (t + b) y =
              ap (λ (q : ℕ). q + (y - lo)) second_at
              ∙ place_shift at (t + b) lo y l (omega (arith, bottom_rises at b lo hi low)) in
              by_cases (dec_lt ((t + b - entry_at g R y) % g.length) (g.back + b))
              (λ near. inr (
                keeps ∙ told_beyond g.length (entry_at g R y) (t + b) (g.back + b) _ _ _ long
                    (omega arith) is.last_is is.near_is is.far_is near,
                subst (λ (i : ℕ). Charged Result g R old (chosen g.low (get_or old i 0) (get_or old (second + (y - lo)) 0)) y) (sym one)
                    (subst (λ (i : ℕ). Charged Result g R old (chosen g.low (get_or old (size g + place_at g R t (t - g.back) y) 0) (get_or old i 0)) y) (sym two)
                    (last_charged at b lo hi low old y l h entered near)),
              ))
              (λ far. inl (
                keeps ∙ told_within g.length (entry_at g R y) (t + b) (g.back + b) _ _ _ long
                    (omega arith) is.last_is is.near_is is.far_is (omega arith),
                subst (λ (i : ℕ). Free Result g R old (get_or old i 0) y) (sym one)
                    (within_free at b lo hi low old y l h entered (omega arith)),
              ))
