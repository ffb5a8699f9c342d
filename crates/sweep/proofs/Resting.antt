-- The results of lines that entered in the page's first row, where their windows end past the line. Assumes nothing.
use mathlib.Core.Path.{◌≡◌, sym, ap, ap₂, ◌∙◌, subst}
use mathlib.Core.List.{List}
use Prim.Native.Nat.{ℕ, suc, ◌+◌, ◌-◌, ◌*◌, ◌%◌, ◌≤◌, ◌<◌, max, zero-le}
use native.Mathlib.Nat.{mul-le-mul_right, suc-mul, zero-add}
use native.Mathlib.Omega.{arith}
use lib.ListN.{get_or}
use Rattle.geometry.specs.Drift.{drift}
use Rattle.geometry.proofs.Laws.{drift_rises}
use Rattle.runs.specs.Span.{chosen}
use Rattle.runs.specs.Grid.{Pixel, start_row, line_name, entry, row_at, column_at, number, spot}
use Rattle.runs.specs.GridLaws.{StepOnPage, row_fits, spot_on}
use Rattle.runs.specs.Scratch.{size}
use Rattle.sweep.specs.Sweeps.{Ready, PartDone, target, new_at, cost_at}
use Rattle.runs.specs.Runs.{Row, Copied, Chosen, entry_at, place_at, StepEdge, PastLine}
use Rattle.runs.specs.declared.Grid.{Grid}
use Rattle.sweep.specs.declared.Sweep.TheVariants.{Result}
use Rattle.runs.proofs.Bounds.{entry_zero}
use Rattle.sweep.proofs.Making.{small, start, entering, made_all, made_whole, made_cut, made_short, following}
use Rattle.sweep.proofs.Reading.{read_B}
use Rattle.runs.proofs.Planning.{pixel, here, name, target_is}
use Rattle.sweep.proofs.Places.{from_entry}
use Rattle.sweep.proofs.Parts.{Free, Charged, copied_part, chosen_part}

-- a run under another name of its place
pub copied_at : (to from from' n : ℕ) (old new : List ℕ) → from ≡ from' → Copied to from n old new
    → Copied to from' n old new
copied_at to from from' n old new e copied = subst (λ (q : ℕ). Copied to q n old new) e copied

module _ {g : Grid} {profile reaches : List ℕ} {R t : ℕ} (at : Row g profile reaches R t) where
  pub back_row : (s : ℕ) → s ≤ t → R - t * g.period + s * g.period ≤ R
  back_row s h =
      let less : s * g.period ≤ t * g.period = mul-le-mul_right g.period h in
      omega (arith, (here g profile reaches R t at).rows)

  row_room : (r : ℕ) → r < g.height → r * g.width + g.width ≤ size g
  row_room r h =
      let far : suc r * g.width ≤ g.height * g.width = mul-le-mul_right g.width h in
      omega (arith, suc-mul r g.width)

  pub place_back_fits : (s lo : ℕ) → s ≤ t → lo ≤ g.width → drift g.line t ≤ lo
      → place_at g R t s lo + (g.width - lo) ≤ size g
  unfolding place_at
  place_back_fits s lo h most reached =
      let rises : drift g.line s ≤ drift g.line t = drift_rises g.line at.sized.sound h in
      omega (arith, row_room (R - t * g.period + s * g.period) (omega (arith, back_row s h, at.row)))

  -- the places of a step of columns up to one whose line has it
  pub place_fits : (s lo hi : ℕ) → lo < hi → hi ≤ g.width → drift g.line t ≤ lo + drift g.line s
      → StepOnPage g (start_row g R) (line_name g R (hi - 1)) s → place_at g R t s lo + (hi - lo) ≤ size g
  unfolding place_at
  place_fits s lo hi some most reached last =
      omega (arith, row_room (R - t * g.period + s * g.period) (omega (arith, last.row, target_is g profile reaches R t at s)), last.right, last.left, name g profile reaches R t at (hi - 1) (omega arith))

  -- ---- edges of a step

  module _ (lo s : ℕ) (most : lo ≤ g.width) (reached : drift g.line t ≤ lo) where
    pub edge_past : g.height ≤ R - t * g.period + s * g.period → StepEdge g R t lo s lo
    edge_past far =
        record { least = omega arith; most = most; left = λ y l h. absurd (omega arith); right = λ y l h o. let r = o.row in omega (arith, target_is g profile reaches R t at s) }

    module _ (rows : R - t * g.period + s * g.period < g.height) where
      pub edge_lost : StepEdge g R t lo s (max (g.width - (drift g.line s - drift g.line t)) lo)
      edge_lost =
          record {
            least = omega arith;
            most = omega arith;
            left = λ y l h.
                let n = name g profile reaches R t at y (omega arith) in
                record { row = omega (arith, target_is g profile reaches R t at s); left = omega arith; right = omega arith };
            right = λ y l h o. let r = o.right in omega (arith, name g profile reaches R t at y h);
          }

    module _ (hi : ℕ) (edge : StepEdge g R t lo s hi) (some : lo < hi) where
      last : StepOnPage g (start_row g R) (line_name g R (hi - 1)) s
      last = edge.left (hi - 1) (omega arith) (omega arith)

      pub edge_row : R - t * g.period + s * g.period < g.height
      edge_row = omega (arith, last.row, target_is g profile reaches R t at s)

      pub place_edge_fits : place_at g R t s lo + (hi - lo) ≤ size g
      place_edge_fits = place_fits s lo hi some edge.most (omega arith) last

  pub place_shift : (s lo y : ℕ) → lo ≤ y → drift g.line t ≤ lo + drift g.line s
      → place_at g R t s lo + (y - lo) ≡ place_at g R t s y
  unfolding place_at
  place_shift s lo y on reached = omega arith

  module _ (y : ℕ) (column : y < g.width) where
    pub place_is : (s : ℕ) → StepOnPage g (start_row g R) (line_name g R y) s
        → place_at g R t s y ≡ spot g (start_row g R) (line_name g R y) s
    unfolding place_at row_at column_at
    place_is s there =
        ap₂ (λ (r c : ℕ). r * g.width + c) (target_is g profile reaches R t at s) columns
        ∙ sym (spot_on g at.sized (start_row g R) (line_name g R y) s (small (pixel g profile reaches R t at y column)) there)
      where
        columns : y + drift g.line s - drift g.line t ≡ g.width + drift g.line s - line_name g R y
        columns = omega (arith, name g profile reaches R t at y column)

  module _ (y : ℕ) (column : y < g.width) (reached : drift g.line t ≤ y) where
    pub entered_first : entry_at g R y ≡ 0
    unfolding entry_at
    entered_first = sym (entry_zero g profile reaches R t y (pixel g profile reaches R t at y column) reached)

    pub number_all : number g R y ≡ t
    number_all = omega (arith, from_entry at y column, entered_first)

  module _ (old : List ℕ) (mid : ℕ) (most : mid ≤ g.width) (reached : drift g.line t ≤ mid) (y : ℕ) (on : mid ≤ y)
      (column : y < g.width) (past : StepOnPage g (start_row g R) (line_name g R y) (t + g.on) → ⊥) where
    at_y : Pixel g profile reaches R t y
    at_y = pixel g profile reaches R t at y column

    reached_y : drift g.line t ≤ y
    reached_y = omega arith

    all : number g R y ≡ t
    all = number_all y column reached_y

    -- page B at a step of the line
    read : (s : ℕ) → StepOnPage g (start_row g R) (line_name g R y) s
        → size g + place_at g R t s mid + (y - mid) ≡ size g + spot g (start_row g R) (line_name g R y) s
    read s there =
        let sum : size g + place_at g R t s mid + (y - mid) ≡ size g + (place_at g R t s mid + (y - mid)) =
        omega arith in
        sum ∙ ap (λ (q : ℕ). size g + q) (place_shift s mid y on (omega arith) ∙ place_is y column s there)

    pub early_free : t < g.back → Free Result g R old (get_or old (size g + place_at g R t 0 mid + (y - mid)) 0) y
    unfolding Ready new_at cost_at entry_at
    early_free before =
        let early : number g R y < g.back = omega (arith, all) in
        let first : entry g (line_name g R y) ≡ 0 = entered_first y column reached_y in
        let there = entering at_y early in
        let place : size g + place_at g R t 0 mid + (y - mid) ≡ size g + spot g (start_row g R) (line_name g R y) (entry g (line_name g R y)) =
        ap (λ (q : ℕ). size g + place_at g R t q mid + (y - mid)) (sym first)
        ∙ read (entry g (line_name g R y)) there in (
          λ f ready.
              ap (λ (i : ℕ). get_or old i 0) place
              ∙ read_B at_y old _ 0 g.height _ there zero-le (row_fits g at.sized _ _ _ (small at_y) there) ready.2
              ∙ (made_all at_y early f past).0,
          (made_all at_y early (λ R x. 0) past).1,
        )

    module _ (back : g.back ≤ t) where
      in_line : g.back ≤ number g R y
      in_line = omega (arith, all)

      begins : StepOnPage g (start_row g R) (line_name g R y) (t - g.back)
      begins = start at_y in_line

      first_is : (number g R y - g.back) % g.length ≡ (t - g.back) % g.length
      first_is = ap (λ (q : ℕ). (q - g.back) % g.length) all

      pub whole_free : (t - g.back) % g.length ≡ 0
          → Free Result g R old (get_or old (size g + place_at g R t (t - g.back) mid + (y - mid)) 0) y
      unfolding Ready new_at cost_at
      whole_free e =
          let first : (number g R y - g.back) % g.length ≡ 0 = first_is ∙ e in (
            λ f ready.
                ap (λ (i : ℕ). get_or old i 0) (read (t - g.back) begins)
                ∙ read_B at_y old _ 0 g.height _ begins zero-le (row_fits g at.sized _ _ _ (small at_y) begins) ready.2
                ∙ (made_whole at_y in_line f first).0,
            (made_whole at_y in_line (λ R x. 0) first).1,
          )

      module _ (next : ℕ) (some : 0 < (t - g.back) % g.length)
          (is : next ≡ t - g.back + (g.length - (t - g.back) % g.length)) where
        inside : 0 < (number g R y - g.back) % g.length
        inside = omega (arith, first_is)

        next_is : next ≡ following at_y in_line inside
        next_is = is ∙ ap (λ (q : ℕ). t - g.back + (g.length - q)) (sym first_is)

        pub cut_charged : StepOnPage g (start_row g R) (line_name g R y) next
            → Charged Result g R old (chosen g.low (get_or old (size g + place_at g R t (t - g.back) mid + (y - mid)) 0) (get_or old (size g + place_at g R t next mid + (y - mid)) 0)) y
        unfolding Ready new_at cost_at
        cut_charged there =
            let after = subst (StepOnPage g (start_row g R) (line_name g R y)) next_is there in (
              λ f ready.
                  ap₂ (chosen g.low)
                  (ap (λ (i : ℕ). get_or old i 0) (read (t - g.back) begins)
                  ∙ read_B at_y old _ 0 g.height _ begins zero-le
                  (row_fits g at.sized _ _ _ (small at_y) begins) ready.2)
                  (ap (λ (i : ℕ). get_or old i 0) (ap (λ (q : ℕ). size g + place_at g R t q mid + (y - mid)) next_is ∙ read _ after)
                  ∙ read_B at_y old _ 0 g.height _ after zero-le (row_fits g at.sized _ _ _ (small at_y) after) ready.2)
                  ∙ (made_cut at_y in_line inside past f after).0,
              (made_cut at_y in_line inside past (λ R x. 0) after).1,
            )

        pub short_free : (StepOnPage g (start_row g R) (line_name g R y) next → ⊥)
            → Free Result g R old (get_or old (size g + place_at g R t (t - g.back) mid + (y - mid)) 0) y
        unfolding Ready new_at cost_at
        short_free off =
            let gone : StepOnPage g (start_row g R) (line_name g R y) (following at_y in_line inside) → ⊥ =
            λ there. off (subst (StepOnPage g (start_row g R) (line_name g R y)) (sym next_is) there) in (
              λ f ready.
                  ap (λ (i : ℕ). get_or old i 0) (read (t - g.back) begins)
                  ∙ read_B at_y old _ 0 g.height _ begins zero-le
                  (row_fits g at.sized _ _ _ (small at_y) begins) ready.2
                  ∙ (made_short at_y in_line inside f gone).0,
              (made_short at_y in_line inside (λ R x. 0) gone).1,
            )

-- ---- the parts of a row

module _ {g : Grid} {profile reaches : List ℕ} {R t : ℕ} (at : Row g profile reaches R t) (old : List ℕ) (mid : ℕ)
    (line : PastLine g R t mid) (some : mid < g.width) where
  pub early_top : (new : List ℕ) → t < g.back
      → Copied (R * g.width + mid) (size g + place_at g R t 0 mid) (g.width - mid) old new
      → PartDone Result g R mid g.width old new 0
  unfolding target
  early_top new before copied =
      copied_part Result g R old mid g.width _ _ new line.most
      (ap (λ (q : ℕ). q + mid) (sym (zero-add (R * g.width)))) copied
      (λ y l h. early_free at old mid line.most (line.entered some) y l h (line.past y l h) before)

  pub whole_top : (new : List ℕ) → g.back ≤ t → (t - g.back) % g.length ≡ 0
      → Copied (R * g.width + mid) (size g + place_at g R t (t - g.back) mid) (g.width - mid) old new
      → PartDone Result g R mid g.width old new 0
  unfolding target
  whole_top new back e copied =
      copied_part Result g R old mid g.width _ _ new line.most
      (ap (λ (q : ℕ). q + mid) (sym (zero-add (R * g.width)))) copied
      (λ y l h. whole_free at old mid line.most (line.entered some) y l h (line.past y l h) back e)

  module _ (back : g.back ≤ t) (next end : ℕ) (inside : 0 < (t - g.back) % g.length)
      (is : next ≡ t - g.back + (g.length - (t - g.back) % g.length)) (edge : StepEdge g R t mid next end) where
    pub cut_top : (new : List ℕ) → Chosen g.low (R * g.width + mid) (size g + place_at g R t (t - g.back) mid) (size g + place_at g R t next mid) (end - mid) old new → PartDone Result g R mid end old new (end - mid)
    unfolding target
    cut_top new made =
        chosen_part Result g R old mid end _ _ _ new edge.least
        (ap (λ (q : ℕ). q + mid) (sym (zero-add (R * g.width)))) made
        (λ y l h. cut_charged at old mid line.most (line.entered some) y l (omega (arith, edge.most)) (line.past y l (omega (arith, edge.most))) back next inside is (edge.left y l h))

-- columns past the next block, in a page whose columns up to them are made
module _ {g : Grid} {profile reaches : List ℕ} {R t : ℕ} (at : Row g profile reaches R t) (old : List ℕ) (mid : ℕ)
    (line : PastLine g R t mid) (some : mid < g.width) (back : g.back ≤ t) (next end : ℕ)
    (inside : 0 < (t - g.back) % g.length) (is : next ≡ t - g.back + (g.length - (t - g.back) % g.length))
    (edge : StepEdge g R t mid next end) where
  pub short_top : (new : List ℕ)
      → Copied (R * g.width + end) (size g + place_at g R t (t - g.back) end) (g.width - end) old new
      → PartDone Result g R end g.width old new 0
  unfolding target
  short_top new copied =
      copied_part Result g R old end g.width _ _ new edge.most
      (ap (λ (q : ℕ). q + end) (sym (zero-add (R * g.width)))) copied
      (λ y l h. short_free at old end edge.most (omega (arith, line.entered some, edge.least)) y l h (line.past y (omega (arith, edge.least)) h) back next inside is (edge.right y l h))
