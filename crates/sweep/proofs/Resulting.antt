-- The plan of the results makes the extremes over the windows. Assumes nothing.
use mathlib.Core.Path.{◌≡◌, sym, ap, ap₂, ◌∙◌, subst}
use mathlib.Core.List.{List}
use mathlib.Core.Logic.{inl}
use Prim.Native.Nat.{ℕ, suc, ◌+◌, ◌-◌, ◌*◌, ◌%◌, ◌≤◌, ◌<◌, min, zero-le}
use native.Mathlib.Nat.{mul-le-mul_right, suc-mul}
use native.Mathlib.Omega.{arith}
use lib.ListN.{get_or}
use Rattle.runs.specs.Span.{chosen, chosen_comm}
use Rattle.runs.specs.Grid.{start_row, line_name, number, spot}
use Rattle.runs.specs.GridLaws.{StepOnPage, row_fits}
use Rattle.runs.specs.Scratch.{size}
use Rattle.sweep.specs.Sweeps.{Ready, PartDone, target, new_at, cost_at, window_rows}
use Rattle.runs.specs.Runs.{Row, EdgeAt, FarEdge, Copied, place_on, entry_at, in_block, Planned, Walked}
use Rattle.planning.specs.Plans.{ResultPlan}
use Rattle.runs.specs.declared.Grid.{Grid}
use Rattle.runs.specs.declared.Plan.{Plan}
use Rattle.sweep.specs.declared.Sweep.TheVariants.{Result}
use Rattle.sweep.proofs.Making.{small, start, made_block, made_across, made_early}
use Rattle.sweep.proofs.Reading.{read_B, read_on}
use Rattle.runs.proofs.Planning.{pixel}
use Rattle.sweep.proofs.Places.{from_entry, spot_ahead, spot_behind, row_end, far_fits, far_on}
use Rattle.sweep.proofs.Parts.{Free, Charged, copied_part, walked_part}

module _ {g : Grid} {profile reaches : List ℕ} {R t : ℕ} (at : Row g profile reaches R t) (old : List ℕ) (lo hi : ℕ)
    (near : EdgeAt g R t t g.back g.width lo) (far : FarEdge g R t g.on hi) where
  -- windows that begin before the line
  pub early_made : (to from n : ℕ) (new : List ℕ) → to ≡ R * g.width → from ≡ place_on g R t g.on → n ≡ min lo hi
      → Copied to from n old new → PartDone Result g R 0 (min lo hi) old new 0
  unfolding target Ready new_at cost_at window_rows
  early_made to from n new to_is from_is few copied =
      let all : n ≡ min lo hi - 0 = omega arith in
      copied_part Result g R old 0 (min lo hi) to from new zero-le (omega arith)
      (subst (λ (n : ℕ). Copied to from n old new) all copied) (λ y l h.
      let column : y < g.width = omega (arith, far.most) in
      let here = pixel g profile reaches R t at y column in
      let there = far.left y (omega arith) in
      let late = near.left y (omega arith) in
      let early : number g R y < g.back = omega (arith, from_entry at y column) in
      let place : from + (y - 0) ≡ spot g (start_row g R) (line_name g R y) (t + g.on) =
      let sum : from + (y - 0) ≡ place_on g R t g.on + y = omega arith in
      sum ∙ spot_ahead at y column g.on there in (
        λ f ready.
            ap (λ (i : ℕ). get_or old i 0) place
            ∙ read_on here old _ g.on there ready.0 ready.1
            ∙ (made_early here early f there).0,
        (made_early here early (λ R x. 0) there).1,
      ))

  module _ (inside : lo < hi) (p : Plan) (plan : ResultPlan g R t lo hi p) where
    entered_by : (y : ℕ) → lo ≤ y → y < hi → entry_at g R y + g.back ≤ t
    entered_by y l h = near.right y l (omega (arith, far.most))

    pub back_most : g.back ≤ t
    back_most = omega (arith, entered_by lo (omega arith) inside)

    up_rows : suc (R - g.back * g.period) * g.width ≤ g.height * g.width
    up_rows = mul-le-mul_right g.width (omega (arith, at.row))

    pub result_planned : Planned g R p
    result_planned =
        let fits = row_end at in
        let next = far_fits at g.on hi far (omega arith) in
        let most = far.most in
        let up = up_rows in
        let rows = suc-mul (R - g.back * g.period) g.width in
        record {
          ordered = omega (arith, plan.lo_is, plan.hi_is);
          columns = omega (arith, plan.hi_is);
          to_fits = omega (arith, plan.lo_is, plan.hi_is, plan.to_is);
          first_fits = omega (arith, plan.lo_is, plan.hi_is, plan.first_is);
          second_fits = omega (arith, plan.lo_is, plan.hi_is, plan.second_is);
          first_apart = inl (omega (arith, plan.to_is, plan.first_is, far_on at g.on));
          second_apart = inl (omega (arith, plan.to_is, plan.second_is));
          entered = λ y l h. omega (arith, plan.top_is, entered_by y (omega (arith, plan.lo_is)) (omega (arith, plan.hi_is)));
        }

    module _ (y : ℕ) (l : lo ≤ y) (h : y < hi) where
      column : y < g.width
      column = omega (arith, far.most)

      reached : g.back ≤ number g R y
      reached = omega (arith, entered_by y l h, from_entry at y column)

      in_number : in_block g R p y ≡ (number g R y - g.back) % g.length
      unfolding in_block
      in_number = ap (λ (q : ℕ). q % g.length) (omega (arith, plan.top_is, entered_by y l h, from_entry at y column))

      there : StepOnPage g (start_row g R) (line_name g R y) (t - g.back)
      there = start (pixel g profile reaches R t at y column) reached

      behind : (place : ℕ) → place ≡ size g + (R - g.back * g.period) * g.width
          → place + (y - p.lo) ≡ size g + spot g (start_row g R) (line_name g R y) (t - g.back)
      behind place is =
          let lost = near.exact (omega (arith, far.most)) in
          let sum : place + (y - p.lo) ≡ size g + ((R - g.back * g.period) * g.width + (y - lo)) =
          omega (arith, plan.lo_is) in
          sum ∙ ap (λ (q : ℕ). size g + q) (spot_behind at y column g.back lo back_most lost l there)

      ahead : (place : ℕ) → place ≡ place_on g R t g.on + lo
          → place + (y - p.lo) ≡ spot g (start_row g R) (line_name g R y) (t + g.on)
      ahead place is =
          let sum : place + (y - p.lo) ≡ place_on g R t g.on + y = omega (arith, plan.lo_is) in
          sum ∙ spot_ahead at y column g.on (far.left y h)

      lane : in_block g R p y ≡ 0 → Free Result g R old (get_or old (p.first + (y - p.lo)) 0) y
      unfolding Ready new_at cost_at window_rows
      lane e =
          let here = pixel g profile reaches R t at y column in
          let end = far.left y h in
          let first : (number g R y - g.back) % g.length ≡ 0 = sym in_number ∙ e in (
            λ f ready.
                ap (λ (i : ℕ). get_or old i 0) (ahead p.first plan.first_is)
                ∙ read_on here old _ g.on end ready.0 ready.1
                ∙ (made_block here reached f first end).0,
            (made_block here reached (λ R x. 0) first end).1,
          )

      run : 0 < in_block g R p y → Charged Result g R old (chosen g.low (get_or old (p.first + (y - p.lo)) 0) (get_or old (p.second + (y - p.lo)) 0)) y
      unfolding Ready new_at cost_at window_rows
      run goes =
          let here = pixel g profile reaches R t at y column in
          let going : 0 < (number g R y - g.back) % g.length = omega (arith, in_number) in
          let end = far.left y h in (
            λ f ready.
                chosen_comm g.low (get_or old (p.first + (y - p.lo)) 0) (get_or old (p.second + (y - p.lo)) 0)
                ∙ ap₂ (chosen g.low)
                (ap (λ (i : ℕ). get_or old i 0) (behind p.second plan.second_is)
                ∙ read_B here old _ 0 g.height (t - g.back) there zero-le
                (row_fits g at.sized _ _ _ (small here) there) ready.2)
                (ap (λ (i : ℕ). get_or old i 0) (ahead p.first plan.first_is) ∙ read_on here old _ g.on end ready.0 ready.1)
                ∙ (made_across here reached going f end).0,
            (made_across here reached going (λ R x. 0) end).1,
          )

    pub across_made : (new : List ℕ) (count : ℕ) → Walked g R p p.hi old new count
        → PartDone Result g R (min lo hi) hi old new count
    unfolding target
    across_made new count walked =
        let nearer : p.lo ≡ min lo hi = omega (arith, plan.lo_is) in
        subst (λ (lo : ℕ). PartDone Result g R lo hi old new count) nearer
        (subst (λ (hi : ℕ). PartDone Result g R p.lo hi old new count) plan.hi_is
        (walked_part Result g R old p new count result_planned.ordered (omega (arith, plan.to_is, plan.lo_is)) walked
        (λ y l h e. lane y (omega (arith, plan.lo_is)) (omega (arith, plan.hi_is)) e)
        (λ y l h e. run y (omega (arith, plan.lo_is)) (omega (arith, plan.hi_is)) e)))
