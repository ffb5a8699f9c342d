-- The forward sweep's plan makes the running extremes from the blocks' starts. Assumes nothing.
use mathlib.Core.Path.{◌≡◌, sym, ap, ap₂, ◌∙◌, subst}
use mathlib.Core.List.{List}
use mathlib.Core.Logic.{inl, inr}
use Prim.Native.Nat.{ℕ, suc, ◌+◌, ◌-◌, ◌*◌, ◌%◌, ◌≤◌, ◌<◌, zero-le}
use native.Mathlib.Nat.{mul-le-mul_right, suc-mul, zero-add, mod-eq_of_lt, one-mul}
use native.Mathlib.Omega.{arith}
use lib.ListN.{get_or}
use Rattle.geometry.proofs.Laws.{period_forward}
use Rattle.runs.specs.Span.{chosen, chosen_comm}
use Rattle.runs.specs.Grid.{start_row, line_name, number, spot}
use Rattle.sweep.specs.Sweeps.{Ready, PartDone, RowSwept, target, new_at, cost_at}
use Rattle.runs.specs.Runs.{Row, in_block, Planned, Walked}
use Rattle.planning.specs.Plans.{ForwardPlan}
use Rattle.runs.specs.declared.Grid.{Grid}
use Rattle.runs.specs.declared.Plan.{Plan}
use Rattle.sweep.specs.declared.Sweep.TheVariants.{Forward}
use Rattle.sweep.proofs.Making.{ahead_first, ahead_first_cost, before, ahead_next, ahead_next_cost}
use Rattle.sweep.proofs.Reading.{read_A, row_earlier, row_before}
use Rattle.sweep.proofs.Rowing.{part_join}
use Rattle.runs.proofs.Planning.{pixel, rows_back}
use Rattle.sweep.proofs.Places.{from_entry, spot_behind, row_end}
use Rattle.runs.proofs.Walking.{entry_own}
use Rattle.sweep.proofs.Parts.{Free, Charged, own_part, walked_part}

module _ {g : Grid} {profile reaches : List ℕ} {R t : ℕ} (at : Row g profile reaches R t) (old : List ℕ) where
  -- at a block's first step the value stays
  kept_value : (y : ℕ) → y < g.width → number g R y % g.length ≡ 0
      → Free Forward g R old (get_or old (R * g.width + y) 0) y
  unfolding Ready new_at cost_at
  kept_value y column e =
      let here = pixel g profile reaches R t at y column in (
        λ f ready. ready.0 ∙ ahead_first here f e,
        ahead_first_cost here e,
      )

  -- columns whose lines have only just entered
  pub entering : (n : ℕ) → n ≤ g.width → ((y : ℕ) → y < n → number g R y ≡ 0) → PartDone Forward g R 0 n old old 0
  unfolding target
  entering n wide new =
      own_part Forward g R old 0 n zero-le (λ y l h.
      subst (λ (i : ℕ). Free Forward g R old (get_or old i 0) y) (ap (λ (q : ℕ). q + y) (sym (zero-add (R * g.width))))
      (kept_value y (omega arith) (ap (λ (q : ℕ). q % g.length) (new y h) ∙ mod-eq_of_lt (omega (arith, at.sized.length_is)))))

  module _ (later : 0 < t) (p : Plan) (plan : ForwardPlan g R t p) where
    one_row : suc (R - g.period) * g.width ≤ R * g.width
    one_row =
        let some : 1 ≤ g.period = omega (arith, at.sized.period_is, period_forward g.line at.sized.sound) in
        let back : 1 * g.period ≤ R = rows_back g profile reaches R t at 1 later in
        mul-le-mul_right g.width (omega (arith, one-mul g.period))

    pub forward_planned : Planned g R p
    forward_planned =
        let fits = row_end at in
        let lo-most = plan.lo_is.most in
        record {
          ordered = omega (arith, plan.hi_is);
          columns = omega (arith, plan.hi_is);
          to_fits = omega (arith, plan.hi_is, plan.to_is);
          first_fits = omega (arith, plan.hi_is, plan.first_is);
          second_fits = omega (arith, plan.hi_is, plan.second_is, one_row, suc-mul (R - g.period) g.width);
          first_apart = inl (omega (arith, plan.to_is, plan.first_is));
          second_apart = inr (omega (arith, plan.hi_is, plan.to_is, plan.second_is, one_row, suc-mul (R - g.period) g.width));
          entered = λ y l h. omega (arith, plan.top_is, entry_own g profile reaches R t at y (omega (arith, plan.hi_is)));
        }

    in_number : (y : ℕ) → y < g.width → in_block g R p y ≡ number g R y % g.length
    unfolding in_block
    in_number y column = ap (λ (q : ℕ). q % g.length) (omega (arith, plan.top_is, from_entry at y column))

    module _ (y : ℕ) (inside : p.lo ≤ y) (column : y < g.width) where
      own_place : (place : ℕ) → place ≡ R * g.width + p.lo → place + (y - p.lo) ≡ R * g.width + y
      own_place place is = omega arith

      lane : in_block g R p y ≡ 0 → Free Forward g R old (get_or old (p.first + (y - p.lo)) 0) y
      lane e =
          subst (λ (i : ℕ). Free Forward g R old (get_or old i 0) y) (sym (own_place p.first plan.first_is))
          (kept_value y column (sym (in_number y column) ∙ e))

      run : 0 < in_block g R p y → Charged Forward g R old (chosen g.low (get_or old (p.first + (y - p.lo)) 0) (get_or old (p.second + (y - p.lo)) 0)) y
      unfolding Ready new_at cost_at
      run some =
          let here = pixel g profile reaches R t at y column in
          let going : 0 < number g R y % g.length = omega (arith, in_number y column) in
          let there = before here going in
          let lost = plan.lo_is.exact (omega arith) in
          let one : 1 * g.period ≡ g.period = one-mul g.period in
          let place : p.second + (y - p.lo) ≡ spot g (start_row g R) (line_name g R y) (t - 1) =
          ap (λ (q : ℕ). q + (y - p.lo)) (plan.second_is ∙ ap (λ (q : ℕ). (R - q) * g.width) (sym one))
          ∙ spot_behind at y column 1 p.lo later lost inside there in (
            λ f ready.
                ap₂ (chosen g.low)
                (ap (λ (i : ℕ). get_or old i 0) (own_place p.first plan.first_is) ∙ ready.0)
                (ap (λ (i : ℕ). get_or old i 0) place ∙ read_A here old _ (R - g.period) R (t - 1) there (row_before here) (row_earlier here (t - 1) (omega arith)) ready.1)
                ∙ chosen_comm g.low (f R y) _
                ∙ ahead_next here going f,
            ahead_next_cost here going,
          )

    pub forward_swept : (new : List ℕ) (count : ℕ) → Walked g R p p.hi old new count
        → RowSwept Forward g R old new count
    unfolding target
    forward_swept new count walked =
        let rest : PartDone Forward g R p.lo p.hi old new count =
        walked_part Forward g R old p new count forward_planned.ordered
        (plan.to_is ∙ ap (λ (q : ℕ). q + p.lo) (sym (zero-add (R * g.width)))) walked
        (λ y l h e. lane y l (omega (arith, plan.hi_is)) e) (λ y l h e. run y l (omega (arith, plan.hi_is)) e) in
        let first : PartDone Forward g R 0 p.lo old old 0 =
        entering p.lo plan.lo_is.most
        (λ y h. let late = plan.lo_is.left y h in omega (arith, from_entry at y (omega (arith, plan.lo_is.most)))) in
        subst (λ (hi : ℕ). PartDone Forward g R 0 hi old new count) plan.hi_is
        (subst (PartDone Forward g R 0 p.hi old new) (zero-add count)
        (part_join at.row forward_planned.columns zero-le forward_planned.ordered first rest))
