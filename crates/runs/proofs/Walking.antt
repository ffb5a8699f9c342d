-- When the lines of a row entered and which of its pixels begin a block, and that a plan is carried out part by
-- part. Assumes nothing.
use mathlib.Core.Path.{◌≡◌, refl, sym, subst, ap, ap₂, ◌∙◌}
use mathlib.Core.Bool.{Bool, true, false, cond}
use mathlib.Core.List.{List}
use mathlib.Core.Logic.{◌⊎◌, inl, inr, ⊎_elim, by_cases}
use Prim.Native.Nat.{ℕ, ◌+◌, ◌-◌, ◌*◌, ◌%◌, ◌≤◌, ◌<◌, min}
use native.Mathlib.Nat.{mod-lt, mod-eq_of_lt, mod-add-mod, add-mod_right, add_comm, zero-add, mul-zero, mul-one, mul-le-mul_left}
use native.Mathlib.Decide.{dec_lt}
use native.Mathlib.Omega.{arith}
use lib.Dec.{eqb}
use lib.ListN.{get_or}
use borrow.Author.Tests.{eq-eqb, ne_eqb}
use Rattle.geometry.specs.Drift.{drift, reach}
use Rattle.geometry.proofs.Laws.{drift_rises}
use Rattle.runs.specs.Grid.{line_name, entry}
use Rattle.runs.specs.GridLaws.{entry_at_lem, entry_by}
use Rattle.runs.specs.Scratch.{total}
use Rattle.runs.specs.Span.{chosen}
use Rattle.runs.specs.Runs.{Apart, Filled, Copied, Chosen, ChosenUnless, kept_or, compared_of, TopMade, Row, entry_at, EdgeAt, Marked, in_block, Planned, Walked}
use Rattle.runs.specs.declared.Grid.{Grid}
use Rattle.runs.specs.declared.Plan.{Plan}
use Rattle.runs.proofs.Bounds.{some_length, entry_zero, entry_reach}
use Rattle.runs.proofs.Planning.{pixel, here, name}
use Rattle.runs.proofs.Totals.{total_join, total_same, total_shift, total_most, cond_most}
use Rattle.runs.proofs.Running.{filled_as}

-- ---- when the lines of a row entered

module _ (g : Grid) (profile reaches : List ℕ) (R t : ℕ) (at : Row g profile reaches R t) where
  pub step_below : t < g.height
  step_below = (here g profile reaches R t at).step_below

  pub entry_early : (x s : ℕ) → x < g.width → drift g.line t ≤ x + drift g.line s → entry_at g R x ≤ s
  unfolding entry_at
  entry_early x s h reached = entry_by g at.sized (line_name g R x) s (omega (arith, name g profile reaches R t at x h))

  pub entry_late : (x s : ℕ) → x < g.width → s < g.height → x + drift g.line s < drift g.line t → s < entry_at g R x
  unfolding entry_at
  entry_late x s h low missed =
      by_cases (dec_lt s (entry g (line_name g R x))) (λ k. k) (λ k.
      let there : line_name g R x ≤ g.width + drift g.line s = entry_at_lem g at.sized (line_name g R x) s (omega arith) low in
      absurd (omega (arith, name g profile reaches R t at x h)))

  pub entry_own : (x : ℕ) → x < g.width → entry_at g R x ≤ t
  entry_own x h = entry_early x t h (omega arith)

  -- ---- edges

  pub edge_some : (e less hi : ℕ) → less ≤ e → e ≤ t + less → hi ≤ g.width → EdgeAt g R t e less hi (min (drift g.line t - drift g.line (e - less)) hi)
  edge_some e less hi h k wide =
      let s : ℕ = e - less in
      let rises : drift g.line s ≤ drift g.line t = drift_rises g.line at.sized.sound (omega arith) in
      record {
        most = omega arith;
        left = λ y before. let late = entry_late y s (omega arith) (omega (arith, step_below)) (omega arith) in omega arith;
        right = λ y after before. let early = entry_early y s (omega arith) (omega arith) in omega arith;
        exact = λ before. omega arith;
      }

-- ---- which pixels begin a block

-- how far into its block a step is, from how far an earlier one is and the distance between them
pub mod_sum : (L e T : ℕ) → 0 < L → e ≤ T → (T % L ≡ (T - e) % L + e % L) ⊎ (T % L + L ≡ (T - e) % L + e % L)
mod_sum L e T long h =
    by_cases (dec_lt ((T - e) % L + e % L) L)
    (λ below. inl (sum ∙ mod-eq_of_lt below))
    (λ past.
    let rest : ℕ = (T - e) % L + e % L - L in
    let low : rest < L = omega (arith, mod-lt (T - e) long, mod-lt e long) in
    let is : (T - e) % L + e % L ≡ rest + L = omega arith in
    let back : ((T - e) % L + e % L) % L ≡ rest = ap (λ (q : ℕ). q % L) is ∙ add-mod_right rest L ∙ mod-eq_of_lt low in
    inr (omega (arith, sum)))
  where
    -- the remainder of a sum
    sum : T % L ≡ ((T - e) % L + e % L) % L
    sum =
        let cut : T ≡ e + (T - e) = omega arith in
        ap (λ (q : ℕ). q % L) cut ∙ sym (mod-add-mod e L (T - e)) ∙ ap (λ (q : ℕ). q % L) (add_comm (e % L) (T - e)) ∙ sym (mod-add-mod (T - e) L (e % L))

-- two steps are as far into their blocks if the distance between them is whole blocks
eqb_mod : (L e T : ℕ) → 0 < L → e ≤ T → eqb (e % L) (T % L) ≡ eqb ((T - e) % L) 0
eqb_mod L e T long h =
    by_cases (dec_lt 0 ((T - e) % L))
    (λ some. ne_eqb (e % L) (T % L) (λ same. absurd (⊎_elim (λ w. omega arith) (λ w. omega (arith, mod-lt (T - e) long)) (mod_sum L e T long h))) ∙ sym (ne_eqb ((T - e) % L) 0 (λ none. omega arith)))
    (λ none.
    let whole : (T - e) % L ≡ 0 = omega arith in
    let same : e % L ≡ T % L = ⊎_elim (λ w. omega arith) (λ w. absurd (omega (arith, mod-lt e long))) (mod_sum L e T long h) in
    eq-eqb (e % L) (T % L) same ∙ sym (eq-eqb ((T - e) % L) 0 whole))

-- where its line entered from the side, a pixel's mark says when
pub mark_entered : (g : Grid) (profile reaches : List ℕ) (R t : ℕ) (at : Row g profile reaches R t) (marks : List ℕ) (y place : ℕ) → Marked g marks → y < g.width → y < drift g.line t → place ≡ y + g.height - drift g.line t
    → get_or marks place 0 ≡ entry_at g R y % g.length
unfolding entry_at
mark_entered g profile reaches R t at marks y place marked column side is =
    let low = (here g profile reaches R t at).drift_below in
    let v : ℕ = drift g.line t - y in
    let entered : reach g.line v g.height ≡ entry_at g R y = sym (at.tabled.reaches_is v (omega arith)) ∙ entry_reach g profile reaches R t y (pixel g profile reaches R t at y column) side in
    ap (λ (i : ℕ). get_or marks i 0) (omega arith) ∙ marked.mark_is v (omega arith) (omega arith) ∙ ap (λ (q : ℕ). q % g.length) entered

module _ (g : Grid) (profile reaches : List ℕ) (R t : ℕ) (at : Row g profile reaches R t) (p : Plan) (planned : Planned g R p) where
  inside : (y : ℕ) → p.lo ≤ y → y < p.hi → eqb (entry_at g R y % g.length) (p.top % g.length) ≡ eqb (in_block g R p y) 0
  unfolding in_block
  inside y l h = eqb_mod g.length (entry_at g R y) p.top (some_length at.sized) (planned.entered y l h)

  -- where its line entered from the side, a pixel's mark says it
  side_keeps : (marks : List ℕ) (y place : ℕ) → Marked g marks → p.lo ≤ y → y < p.hi → y < drift g.line t → place ≡ y + g.height - drift g.line t
      → eqb (get_or marks place 0) (p.top % g.length) ≡ eqb (in_block g R p y) 0
  side_keeps marks y place marked l h side is =
      ap (λ (q : ℕ). eqb q (p.top % g.length)) (mark_entered g profile reaches R t at marks y place marked (omega (arith, planned.columns)) side is) ∙ inside y l h

  -- the spare marks say it of some that entered in the first row
  spare_keeps : (marks : List ℕ) (y place : ℕ) → Marked g marks → p.lo ≤ y → y < p.hi → drift g.line t ≤ y → y < drift g.line t + 32 → place ≡ y + g.height - drift g.line t
      → eqb (get_or marks place 0) (p.top % g.length) ≡ eqb (in_block g R p y) 0
  unfolding entry_at
  spare_keeps marks y place marked l h reached near is =
      let read : get_or marks place 0 ≡ 0 = ap (λ (i : ℕ). get_or marks i 0) (omega arith) ∙ marked.zero_is (y - drift g.line t) (omega arith) in
      let none : 0 ≡ entry_at g R y = entry_zero g profile reaches R t y (pixel g profile reaches R t at y (omega (arith, planned.columns))) reached in
      let zero : 0 % g.length ≡ 0 = mod-eq_of_lt (some_length at.sized) in
      ap (λ (q : ℕ). eqb q (p.top % g.length)) (read ∙ sym zero ∙ ap (λ (q : ℕ). q % g.length) none) ∙ inside y l h

  pub mark_keeps : (marks : List ℕ) (y place : ℕ) → Marked g marks → p.lo ≤ y → y < p.hi → y < drift g.line t + 32 → place ≡ y + g.height - drift g.line t
      → eqb (get_or marks place 0) (p.top % g.length) ≡ eqb (in_block g R p y) 0
  mark_keeps marks y place marked l h near is =
      by_cases (dec_lt y (drift g.line t)) (λ side. side_keeps marks y place marked l h side is) (λ top. spare_keeps marks y place marked l h (omega arith) near is)

  -- where it entered in the first row, all are alike
  pub top_keeps : (y : ℕ) → p.lo ≤ y → y < p.hi → drift g.line t ≤ y → eqb (p.top % g.length) 0 ≡ eqb (in_block g R p y) 0
  unfolding in_block entry_at
  top_keeps y l h reached =
      let none : 0 ≡ entry_at g R y = entry_zero g profile reaches R t y (pixel g profile reaches R t at y (omega (arith, planned.columns))) reached in
      ap (λ (q : ℕ). eqb (q % g.length) 0) (omega arith)

-- ---- a plan carried out, part by part

module _ (g : Grid) (R : ℕ) (p : Plan) (old : List ℕ) where
  abbrev charge : ℕ → ℕ
  charge y = cond (eqb (in_block g R p y) 0) 0 1

  pub walked_none : Walked g R p p.lo old old 0
  unfolding total
  walked_none =
      record {
        kept = record { same_length = refl; below = λ k h. refl; above = λ k h. refl };
        begins = λ y lo hi. absurd (omega arith);
        goes_on = λ y lo hi. absurd (omega arith);
        counted = none;
      }
    where
      none : 0 ≡ total charge p.lo (p.lo - p.lo)
      none = let z : p.lo - p.lo ≡ 0 = omega arith in sym (ap (total charge p.lo) z)

  -- at most one comparison a column
  pub walked_few : (new : List ℕ) (x count : ℕ) → Walked g R p x old new count → count ≤ x - p.lo
  walked_few new x count walked = omega (arith, walked.counted, total_most charge (λ y. cond_most (eqb (in_block g R p y) 0)) p.lo (x - p.lo))

  module _ (now new : List ℕ) (x end count : ℕ) (from : p.lo ≤ x) (on : x ≤ end) (most : end ≤ p.hi) (planned : Planned g R p) (walked : Walked g R p x old now count) where
    -- what the plan reads at a column that is still to come is as it was
    unwritten : (place y : ℕ) → Apart p.to place (p.hi - p.lo) → x ≤ y → y < end → get_or now (place + (x - p.lo) + (y - x)) 0 ≡ get_or old (place + (y - p.lo)) 0
    unwritten place y apart lo hi =
        let same : place + (x - p.lo) + (y - x) ≡ place + (y - p.lo) = omega arith in
        ap (λ (i : ℕ). get_or now i 0) same
        ∙ ⊎_elim (λ behind. walked.kept.above (place + (y - p.lo)) (omega arith)) (λ before. walked.kept.below (place + (y - p.lo)) (omega arith)) apart

    module _ (keeps : ℕ → Bool)
        (filled : Filled (p.to + (x - p.lo)) (end - x) (λ (k : ℕ). kept_or g.low (keeps k) (get_or now (p.first + (x - p.lo) + k) 0) (get_or now (p.second + (x - p.lo) + k) 0)) now new)
        (told : (y : ℕ) → x ≤ y → y < end → keeps (y - x) ≡ eqb (in_block g R p y) 0) where
      before : (y : ℕ) → p.lo ≤ y → y < x → get_or new (p.to + (y - p.lo)) 0 ≡ get_or now (p.to + (y - p.lo)) 0
      before y lo h = filled.kept.below (p.to + (y - p.lo)) (omega arith)

      made : (y : ℕ) (begins : Bool) → x ≤ y → y < end → eqb (in_block g R p y) 0 ≡ begins
          → get_or new (p.to + (y - p.lo)) 0 ≡ kept_or g.low begins (get_or old (p.first + (y - p.lo)) 0) (get_or old (p.second + (y - p.lo)) 0)
      made y begins lo h is =
          let place : p.to + (y - p.lo) ≡ p.to + (x - p.lo) + (y - x) = omega arith in
          ap (λ (i : ℕ). get_or new i 0) place
          ∙ filled.made (y - x) (omega arith)
          ∙ ap (λ (b : Bool). kept_or g.low b (get_or now (p.first + (x - p.lo) + (y - x)) 0) (get_or now (p.second + (x - p.lo) + (y - x)) 0)) (told y lo h ∙ is)
          ∙ ap₂ (kept_or g.low begins) (unwritten p.first y planned.first_apart lo h) (unwritten p.second y planned.second_apart lo h)

      pub walked_more : (more : ℕ) → more ≡ total (compared_of keeps) 0 (end - x) → Walked g R p end old new (count + more)
      unfolding kept_or
      walked_more more is =
          record {
            kept =
                record {
                  same_length = filled.kept.same_length ∙ walked.kept.same_length;
                  below = λ k h. filled.kept.below k (omega arith) ∙ walked.kept.below k h;
                  above = λ k h. filled.kept.above k (omega arith) ∙ walked.kept.above k (omega arith);
                };
            begins = λ y lo hi e. by_cases (dec_lt y x)
                (λ h. before y lo h ∙ walked.begins y lo h e)
                (λ h. made y true (omega arith) hi (eq-eqb (in_block g R p y) 0 e));
            goes_on = λ y lo hi e. by_cases (dec_lt y x)
                (λ h. before y lo h ∙ walked.goes_on y lo h e)
                (λ h. made y false (omega arith) hi (ne_eqb (in_block g R p y) 0 (λ z. omega arith)));
            counted = sum;
          }
        where
          sum : count + more ≡ total charge p.lo (end - p.lo)
          sum =
              let cut : end - p.lo ≡ (x - p.lo) + (end - x) = omega arith in
              let here : p.lo + (x - p.lo) ≡ x = omega arith in
              let same : total (compared_of keeps) 0 (end - x) ≡ total charge x (end - x) =
              total_shift (compared_of keeps) charge 0 x (end - x) (λ k h.
              let from_x : x + k - x ≡ k = omega arith in
              ap (λ (q : ℕ). cond (keeps q) 0 1) (zero-add k ∙ sym from_x) ∙ ap (λ (b : Bool). cond b 0 1) (told (x + k) (omega arith) (omega arith))) in
              omega (arith, is, walked.counted, ap (total charge p.lo) cut, total_join charge p.lo (x - p.lo) (end - x), ap (λ (i : ℕ). total charge i (end - x)) here)

-- ---- columns that are all at a block's first step, and columns none of which is

module _ (g : Grid) (p : Plan) (mid : ℕ) (old new : List ℕ) where
  abbrev first_at : ℕ → ℕ
  first_at k = get_or old (p.first + (mid - p.lo) + k) 0

  abbrev second_at : ℕ → ℕ
  second_at k = get_or old (p.second + (mid - p.lo) + k) 0

  pub top_copied : p.top % g.length ≡ 0 → Copied (p.to + (mid - p.lo)) (p.first + (mid - p.lo)) (p.hi - mid) old new → TopMade g p mid old new 0
  unfolding kept_or
  top_copied whole copied =
      let keeps = eq-eqb (p.top % g.length) 0 whole in
      record {
        made = filled_as _ _ _ _ _ _ (λ k h. sym (ap (λ (b : Bool). cond b (first_at k) (chosen g.low (first_at k) (second_at k))) keeps)) copied;
        counted = sym (ap (λ (b : Bool). (p.hi - mid) * cond b 0 1) keeps ∙ mul-zero (p.hi - mid));
      }

  pub top_chosen : (count : ℕ) → (p.top % g.length ≡ 0 → ⊥) → Chosen g.low (p.to + (mid - p.lo)) (p.first + (mid - p.lo)) (p.second + (mid - p.lo)) (p.hi - mid) old new → count ≡ p.hi - mid → TopMade g p mid old new count
  unfolding kept_or
  top_chosen count part made all =
      let goes = ne_eqb (p.top % g.length) 0 part in
      record {
        made = filled_as _ _ _ _ _ _ (λ k h. sym (ap (λ (b : Bool). cond b (first_at k) (chosen g.low (first_at k) (second_at k))) goes)) made;
        counted = all ∙ sym (ap (λ (b : Bool). (p.hi - mid) * cond b 0 1) goes ∙ mul-one (p.hi - mid));
      }

pub top_few : (g : Grid) (p : Plan) (mid : ℕ) (old new : List ℕ) (count : ℕ) → TopMade g p mid old new count → count ≤ p.hi - mid
top_few g p mid old new count made =
    let one : (p.hi - mid) * cond (eqb (p.top % g.length) 0) 0 1 ≤ (p.hi - mid) * 1 = mul-le-mul_left (p.hi - mid) (cond_most (eqb (p.top % g.length) 0)) in
    omega (arith, made.counted, mul-one (p.hi - mid))

-- the columns whose lines entered in the first row close a plan
module _ (g : Grid) (profile reaches : List ℕ) (R t : ℕ) (at : Row g profile reaches R t) (p : Plan) (planned : Planned g R p) (mid : ℕ) (old now new : List ℕ) (count more : ℕ) where
  pub walked_top : p.lo ≤ mid → mid ≤ p.hi → ((y : ℕ) → mid ≤ y → y < p.hi → drift g.line t ≤ y) → Walked g R p mid old now count → TopMade g p mid now new more → Walked g R p p.hi old new (count + more)
  walked_top from most past walked made =
      walked_more g R p old now new mid p.hi count from most (omega arith) planned walked (λ (k : ℕ). eqb (p.top % g.length) 0) made.made
      (λ y l h. top_keeps g profile reaches R t at p planned y (omega arith) h (past y l h)) more
      (made.counted ∙ sym (total_same (compared_of (λ (k : ℕ). eqb (p.top % g.length) 0)) (cond (eqb (p.top % g.length) 0) 0 1) 0 (p.hi - mid) (λ k l h. refl)))

-- columns by their marks carry a plan on
module _ (g : Grid) (profile reaches : List ℕ) (R t : ℕ) (at : Row g profile reaches R t) (p : Plan) (planned : Planned g R p) (marks : List ℕ) (marked : Marked g marks) (old now new : List ℕ) (x end count more place upto : ℕ) where
  -- what is kept in the columns from x on
  abbrev keeps : ℕ → Bool
  keeps k = eqb (get_or marks (place + k) 0) (p.top % g.length)

  pub walked_marks : end ≡ upto → p.lo ≤ x → x ≤ end → end ≤ p.hi → end ≤ drift g.line t + 32 → place ≡ x + g.height - drift g.line t → Walked g R p x old now count
      → ChosenUnless g.low keeps (p.to + (x - p.lo)) (p.first + (x - p.lo)) (p.second + (x - p.lo)) (end - x) now new → more ≡ total (compared_of keeps) 0 (end - x)
      → Walked g R p upto old new (count + more)
  walked_marks same from on most near is walked made counted =
      let low = (here g profile reaches R t at).drift_below in
      subst (λ (n : ℕ). Walked g R p n old new (count + more)) same
      (walked_more g R p old now new x end count from on most planned walked keeps made
      (λ y l h. mark_keeps g profile reaches R t at p planned marks y _ marked (omega arith) (omega arith) (omega arith) (omega arith)) more counted)
