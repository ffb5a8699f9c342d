-- The backward sweep's plan makes the running extremes to the blocks' ends. Assumes nothing.
use mathlib.Core.Path.{◌≡◌, sym, ap, ap₂, ◌∙◌, subst}
use mathlib.Core.List.{List}
use mathlib.Core.Logic.{◌⊎◌, inl, inr}
use Prim.Native.Nat.{ℕ, suc, ◌+◌, ◌-◌, ◌*◌, ◌%◌, ◌<◌}
use native.Mathlib.Nat.{add_assoc}
use native.Mathlib.Omega.{arith}
use lib.ListN.{get_or}
use Rattle.runs.specs.Span.{chosen}
use Rattle.runs.specs.Grid.{start_row, line_name, number, line_steps, spot}
use Rattle.runs.specs.GridLaws.{row_fits}
use Rattle.runs.specs.Scratch.{size}
use Rattle.sweep.specs.Sweeps.{Ready, PartDone, target, new_at, cost_at}
use Rattle.runs.specs.Runs.{Row, FarEdge, place_on, in_block, Planned, Walked}
use Rattle.planning.specs.Plans.{BackwardPlan}
use Rattle.runs.specs.declared.Grid.{Grid}
use Rattle.runs.specs.declared.Plan.{Plan}
use Rattle.sweep.specs.declared.Sweep.TheVariants.{Backward}
use Rattle.sweep.proofs.Making.{small, back_last, back_last_cost, no_next, back_next, back_next_cost}
use Rattle.sweep.proofs.Reading.{read_B, row_later}
use Rattle.runs.proofs.Planning.{pixel}
use Rattle.sweep.proofs.Places.{from_entry, spot_ahead, row_end, far_fits, far_on}
use Rattle.runs.proofs.Walking.{entry_own}
use Rattle.sweep.proofs.Parts.{Free, Charged, own_part, walked_part}

module _ {g : Grid} {profile reaches : List ℕ} {R t : ℕ} (at : Row g profile reaches R t) (old : List ℕ) (hi : ℕ)
    (far : FarEdge g R t 1 hi) where
  -- at a block's or a line's last step the value stays
  last_value : (y : ℕ) → y < g.width → (suc (number g R y) % g.length ≡ 0) ⊎ (suc (number g R y) ≡ line_steps g R y)
      → Free Backward g R old (get_or old (size g + (R * g.width + y)) 0) y
  unfolding Ready new_at cost_at
  last_value y column ends =
      let here = pixel g profile reaches R t at y column in (
        λ f ready. ready.0 ∙ back_last here f ends,
        back_last_cost here ends,
      )

  module _ (some : 0 < hi) (p : Plan) (plan : BackwardPlan g R t hi p) where
    pub backward_planned : Planned g R p
    backward_planned =
        let fits = row_end at in
        let next = far_fits at 1 hi far some in
        let most = far.most in
        record {
          ordered = omega (arith, plan.lo_is);
          columns = omega (arith, plan.hi_is);
          to_fits = omega (arith, plan.lo_is, plan.hi_is, plan.to_is);
          first_fits = omega (arith, plan.lo_is, plan.hi_is, plan.first_is);
          second_fits = omega (arith, plan.lo_is, plan.hi_is, plan.second_is);
          first_apart = inl (omega (arith, plan.to_is, plan.first_is));
          second_apart = inl (omega (arith, plan.to_is, plan.second_is, far_on at 1));
          entered = λ y l h. omega (arith, plan.top_is, entry_own g profile reaches R t at y (omega (arith, plan.hi_is)));
        }

    in_number : (y : ℕ) → y < g.width → in_block g R p y ≡ suc (number g R y) % g.length
    unfolding in_block
    in_number y column = ap (λ (q : ℕ). q % g.length) (omega (arith, plan.top_is, from_entry at y column))

    module _ (y : ℕ) (inside : y < hi) where
      column : y < g.width
      column = omega (arith, far.most)

      own_place : (place : ℕ) → place ≡ size g + R * g.width → place + (y - p.lo) ≡ size g + (R * g.width + y)
      own_place place is = omega (arith, plan.lo_is)

      lane : in_block g R p y ≡ 0 → Free Backward g R old (get_or old (p.first + (y - p.lo)) 0) y
      lane e =
          subst (λ (i : ℕ). Free Backward g R old (get_or old i 0) y) (sym (own_place p.first plan.first_is))
          (last_value y column (inl (sym (in_number y column) ∙ e)))

      run : 0 < in_block g R p y → Charged Backward g R old (chosen g.low (get_or old (p.first + (y - p.lo)) 0) (get_or old (p.second + (y - p.lo)) 0)) y
      unfolding Ready new_at cost_at
      run goes =
          let here = pixel g profile reaches R t at y column in
          let going : 0 < suc (number g R y) % g.length = omega (arith, in_number y column) in
          let there = far.left y inside in
          let place : p.second + (y - p.lo) ≡ size g + spot g (start_row g R) (line_name g R y) (t + 1) =
          let sum : p.second + (y - p.lo) ≡ size g + (place_on g R t 1 + y) =
          omega (arith, plan.second_is, plan.lo_is) in
          sum ∙ ap (λ (q : ℕ). size g + q) (spot_ahead at y column 1 there) in (
            λ f ready.
                ap₂ (chosen g.low)
                (ap (λ (i : ℕ). get_or old i 0) (own_place p.first plan.first_is) ∙ ready.0)
                (ap (λ (i : ℕ). get_or old i 0) place
                ∙ read_B here old _ (suc R) g.height (t + 1) there (row_later here (t + 1) (omega arith))
                (row_fits g at.sized _ _ _ (small here) there) ready.1)
                ∙ back_next here going there f,
            back_next_cost here going there,
          )

    pub backward_made : (new : List ℕ) (count : ℕ) → Walked g R p p.hi old new count
        → PartDone Backward g R 0 hi old new count
    unfolding target
    backward_made new count walked =
        subst (λ (lo : ℕ). PartDone Backward g R lo hi old new count) plan.lo_is
        (subst (λ (hi : ℕ). PartDone Backward g R p.lo hi old new count) plan.hi_is
        (walked_part Backward g R old p new count backward_planned.ordered (omega (arith, plan.to_is, plan.lo_is)) walked
        (λ y l h e. lane y (omega (arith, plan.hi_is)) e) (λ y l h e. run y (omega (arith, plan.hi_is)) e)))

  -- columns that have no next pixel
  pub backward_last : PartDone Backward g R hi g.width old old 0
  unfolding target
  backward_last =
      own_part Backward g R old hi g.width far.most (λ y l h.
      subst (λ (i : ℕ). Free Backward g R old (get_or old i 0) y) (sym (add_assoc (size g) (R * g.width) y))
      (last_value y h (inr (no_next (pixel g profile reaches R t at y h) (far.right y l h)))))
