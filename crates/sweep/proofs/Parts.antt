-- A part of a row made by runs is a part of its sweep, if what was read is what the sweep makes. Assumes nothing.
use mathlib.Core.Path.{◌≡◌, refl, sym, ap, ◌∙◌}
use mathlib.Core.Bool.{Bool, true, false, cond}
use mathlib.Core.List.{List}
use mathlib.Core.Logic.{◌⊎◌, ⊎_elim, by_cases}
use Prim.Native.Nat.{ℕ, ◌+◌, ◌-◌, ◌*◌, ◌≤◌, ◌<◌}
use native.Mathlib.Nat.{mul-zero, mul-one}
use native.Mathlib.Decide.{dec_lt}
use native.Mathlib.Omega.{arith}
use lib.Dec.{eqb}
use lib.ListN.{get_or}
use borrow.Author.Tests.{eq-eqb, ne_eqb}
use Rattle.runs.specs.Span.{chosen}
use Rattle.runs.specs.Grid.{Page}
use Rattle.runs.specs.Scratch.{total}
use Rattle.sweep.specs.Sweeps.{Ready, PartDone, target, new_at, cost_at}
use Rattle.runs.specs.Runs.{Copied, Chosen, ChosenUnless, kept_or, compared_of, in_block, Walked}
use Rattle.runs.specs.declared.Grid.{Grid}
use Rattle.runs.specs.declared.Plan.{Plan}
use Rattle.sweep.specs.declared.Sweep.{Sweep}
use Rattle.runs.proofs.Totals.{total_same, total_alike, total_shift}

module _ (sweep : Sweep) (g : Grid) (R : ℕ) (old : List ℕ) where
  -- a value that the sweep makes at column y with no comparison, and one that it makes with one
  abbrev pub Free : ℕ → ℕ → Type 0
  Free v y = ((f : Page) → Ready sweep g old f R y → v ≡ new_at sweep g f R y) × (0 ≡ cost_at sweep g R y)

  abbrev pub Charged : ℕ → ℕ → Type 0
  Charged v y = ((f : Page) → Ready sweep g old f R y → v ≡ new_at sweep g f R y) × (1 ≡ cost_at sweep g R y)

  abbrev base : ℕ
  base = target sweep g + R * g.width

  nothing : (lo hi : ℕ) → lo ≤ hi → ((y : ℕ) → lo ≤ y → y < hi → 0 ≡ cost_at sweep g R y)
      → 0 ≡ total (cost_at sweep g R) lo (hi - lo)
  nothing lo hi h each =
      let all : total (cost_at sweep g R) lo (hi - lo) ≡ (hi - lo) * 0 =
      total_same (cost_at sweep g R) 0 lo (hi - lo) (λ y l k. sym (each y l (omega arith))) in
      omega (arith, mul-zero (hi - lo))

  -- columns that keep their values
  pub own_part : (lo hi : ℕ) → lo ≤ hi → ((y : ℕ) → lo ≤ y → y < hi → Free (get_or old (base + y) 0) y)
      → PartDone sweep g R lo hi old old 0
  own_part lo hi h each =
      record {
        kept = record { same_length = refl; below = λ k l. refl; above = λ k l. refl };
        made = λ f ready y l k. (each y l k).0 f (ready y l k);
        counted = nothing lo hi h (λ y l k. (each y l k).1);
      }

  -- columns that are copied
  pub copied_part : (lo hi to from : ℕ) (new : List ℕ) → lo ≤ hi → to ≡ base + lo → Copied to from (hi - lo) old new
      → ((y : ℕ) → lo ≤ y → y < hi → Free (get_or old (from + (y - lo)) 0) y) → PartDone sweep g R lo hi old new 0
  copied_part lo hi to from new h is copied each =
      record {
        kept =
            record {
              same_length = copied.kept.same_length;
              below = λ k l. copied.kept.below k (omega arith);
              above = λ k l. copied.kept.above k (omega arith);
            };
        made = λ f ready y l k.
            let place : base + y ≡ to + (y - lo) = omega arith in
            ap (λ (i : ℕ). get_or new i 0) place ∙ copied.made (y - lo) (omega arith) ∙ (each y l k).0 f (ready y l k);
        counted = nothing lo hi h (λ y l k. (each y l k).1);
      }

  -- columns that are all chosen
  pub chosen_part : (lo hi to first second : ℕ) (new : List ℕ) → lo ≤ hi → to ≡ base + lo
      → Chosen g.low to first second (hi - lo) old new
      → ((y : ℕ) → lo ≤ y → y < hi → Charged (chosen g.low (get_or old (first + (y - lo)) 0) (get_or old (second + (y - lo)) 0)) y) → PartDone sweep g R lo hi old new (hi - lo)
  chosen_part lo hi to first second new h is made each =
      record {
        kept =
            record {
              same_length = made.kept.same_length;
              below = λ k l. made.kept.below k (omega arith);
              above = λ k l. made.kept.above k (omega arith);
            };
        made = λ f ready y l k.
            let place : base + y ≡ to + (y - lo) = omega arith in
            ap (λ (i : ℕ). get_or new i 0) place ∙ made.made (y - lo) (omega arith) ∙ (each y l k).0 f (ready y l k);
        counted = all;
      }
    where
      all : hi - lo ≡ total (cost_at sweep g R) lo (hi - lo)
      all =
          let same : total (cost_at sweep g R) lo (hi - lo) ≡ (hi - lo) * 1 =
          total_same (cost_at sweep g R) 1 lo (hi - lo) (λ y l k. sym (each y l (omega arith)).1) in
          omega (arith, mul-one (hi - lo))

  -- columns that are kept or chosen, each as it is told
  module _ (keeps : ℕ → Bool) (lo hi to first second : ℕ) (new : List ℕ) where
    abbrev pub Told : ℕ → Type 0
    Told y =
        ((keeps (y - lo) ≡ true) × Free (get_or old (first + (y - lo)) 0) y)
        ⊎ ((keeps (y - lo) ≡ false) × Charged (chosen g.low (get_or old (first + (y - lo)) 0) (get_or old (second + (y - lo)) 0)) y)

    pub unless_part : (count : ℕ) → lo ≤ hi → to ≡ base + lo
        → ChosenUnless g.low keeps to first second (hi - lo) old new → count ≡ total (compared_of keeps) 0 (hi - lo)
        → ((y : ℕ) → lo ≤ y → y < hi → Told y) → PartDone sweep g R lo hi old new count
    unfolding kept_or
    unless_part count h is made so-many each =
        record {
          kept =
              record {
                same_length = made.kept.same_length;
                below = λ k l. made.kept.below k (omega arith);
                above = λ k l. made.kept.above k (omega arith);
              };
          made = λ f ready y l k.
              let place : base + y ≡ to + (y - lo) = omega arith in
              let a : ℕ = get_or old (first + (y - lo)) 0 in
              let c : ℕ = get_or old (second + (y - lo)) 0 in
              ap (λ (i : ℕ). get_or new i 0) place
              ∙ made.made (y - lo) (omega arith)
              ∙ ⊎_elim
              (λ w. ap (λ (q : Bool). cond q a (chosen g.low a c)) w.0 ∙ w.1.0 f (ready y l k))
              (λ w. ap (λ (q : Bool). cond q a (chosen g.low a c)) w.0 ∙ w.1.0 f (ready y l k))
              (each y l k);
          counted = so-many ∙ total_shift (compared_of keeps) (cost_at sweep g R) 0 lo (hi - lo) (λ k l. charge k l);
        }
      where
        charge : (k : ℕ) → k < hi - lo → compared_of keeps (0 + k) ≡ cost_at sweep g R (lo + k)
        charge k l =
            let from : 0 + k ≡ lo + k - lo = omega arith in
            ap (compared_of keeps) from
            ∙ ⊎_elim
            (λ w. ap (λ (q : Bool). cond q 0 1) w.0 ∙ w.1.1)
            (λ w. ap (λ (q : Bool). cond q 0 1) w.0 ∙ w.1.1)
            (each (lo + k) (omega arith) (omega arith))

  -- columns that a plan makes
  pub walked_part : (p : Plan) (new : List ℕ) (count : ℕ) → p.lo ≤ p.hi → p.to ≡ base + p.lo
      → Walked g R p p.hi old new count
      → ((y : ℕ) → p.lo ≤ y → y < p.hi → in_block g R p y ≡ 0 → Free (get_or old (p.first + (y - p.lo)) 0) y)
      → ((y : ℕ) → p.lo ≤ y → y < p.hi → 0 < in_block g R p y → Charged (chosen g.low (get_or old (p.first + (y - p.lo)) 0) (get_or old (p.second + (y - p.lo)) 0)) y)
      → PartDone sweep g R p.lo p.hi old new count
  walked_part p new count h is walked lanes runs =
      record {
        kept =
            record {
              same_length = walked.kept.same_length;
              below = λ k l. walked.kept.below k (omega arith);
              above = λ k l. walked.kept.above k (omega arith);
            };
        made = λ f ready y l k.
            let place : base + y ≡ p.to + (y - p.lo) = omega arith in
            ap (λ (i : ℕ). get_or new i 0) place
            ∙ by_cases (dec_lt 0 (in_block g R p y))
            (λ some. walked.goes_on y l k some ∙ (runs y l k some).0 f (ready y l k))
            (λ none. walked.begins y l k (omega arith) ∙ (lanes y l k (omega arith)).0 f (ready y l k));
        counted =
            walked.counted ∙ total_alike _ (cost_at sweep g R) p.lo (p.hi - p.lo) (λ y l k. cost y l (omega arith));
      }
    where
      cost : (y : ℕ) → p.lo ≤ y → y < p.hi → cond (eqb (in_block g R p y) 0) 0 1 ≡ cost_at sweep g R y
      cost y l k =
          by_cases (dec_lt 0 (in_block g R p y))
          (λ some. ap (λ (q : Bool). cond q 0 1) (ne_eqb (in_block g R p y) 0 (λ e. omega arith)) ∙ (runs y l k some).1)
          (λ none. let e : in_block g R p y ≡ 0 = omega arith in ap (λ (q : Bool). cond q 0 1) (eq-eqb (in_block g R p y) 0 e) ∙ (lanes y l k e).1)
