-- A row of a sweep: one more part of it, and that what a sweep reads is still there. Assumes nothing.
use mathlib.Core.Path.{◌≡◌, refl, sym, ap, subst, ◌∙◌}
use mathlib.Core.Bool.{◌||◌}
use mathlib.Core.List.{List}
use mathlib.Core.Logic.{by_cases}
use Prim.Native.Nat.{ℕ, suc, ◌+◌, ◌-◌, ◌*◌, ◌/◌, ◌%◌, ◌≤◌, ◌<◌, min}
use native.Mathlib.Nat.{mul-le-mul_right, suc-mul, add-zero}
use native.Mathlib.Decide.{dec_lt}
use native.Mathlib.Omega.{arith}
use lib.Dec.{eqb}
use lib.ListN.{length, get_or, set, length-set}
use lib.Seq.{get_or-set_same, get_or-set_other}
use Rattle.runs.specs.Block.{rightward, leftward, resulting}
use Rattle.runs.specs.Grid.{Page, number, line_steps, rightward_at, leftward_at, resulting_at}
use Rattle.runs.specs.Scratch.{size, Kept, total}
use Rattle.sweep.specs.Sweeps.{target, new_at, cost_at, RowsHold, Ready, PartDone, RowSwept}
use Rattle.runs.specs.declared.Grid.{Grid}
use Rattle.sweep.specs.declared.Sweep.{Sweep}
use Rattle.sweep.specs.declared.Sweep.TheVariants.{Backward, Forward, Result}
use Rattle.runs.proofs.Bounds.{place_below}
use Rattle.runs.proofs.Totals.{total_more, total_join, total_most, cond_most}

-- ---- what a pixel costs

leftward_most : (L n j : ℕ) → leftward L n j ≤ 1
unfolding leftward
leftward_most L n j = cond_most (eqb (suc j % L) 0 || eqb (suc j) n)

rightward_most : (L j : ℕ) → rightward L j ≤ 1
unfolding rightward
rightward_most L j = cond_most (eqb (j % L) 0)

resulting_most : (L n a b j : ℕ) → resulting L n a b j ≤ 1
unfolding resulting
resulting_most L n a b j = cond_most (eqb ((j - a) / L) (min (j + b) (n - 1) / L))

pub cost_most : (sweep : Sweep) (g : Grid) (R x : ℕ) → cost_at sweep g R x ≤ 1
unfolding cost_at leftward_at rightward_at resulting_at
cost_most Backward g R x = leftward_most g.length (line_steps g R x) (number g R x)
cost_most Forward g R x = rightward_most g.length (number g R x)
cost_most Result g R x = resulting_most g.length (line_steps g R x) g.back g.on (number g R x)

-- ---- what a sweep finds at a pixel is still there when it comes to it

module _ (g : Grid) (R lo hi : ℕ) (old new : List ℕ) (n : ℕ) (rows : R < g.height) (columns : n < g.width)
    (reached : hi ≤ n) where
  -- rows below this one, and rows above it
  later : (R' x' : ℕ) → R < R' → R * g.width + n < R' * g.width + x'
  later R' x' h =
      let far : suc R * g.width ≤ R' * g.width = mul-le-mul_right g.width h in
      omega (arith, suc-mul R g.width)

  earlier : (R' x' : ℕ) → R' < R → x' < g.width → R' * g.width + x' < R * g.width
  earlier R' x' h k = place_below R' x' R g.width h k

  inside : R * g.width + n < size g
  inside = place_below R n g.height g.width rows columns

  pub still_ready : (sweep : Sweep) (f : Page)
      → Kept (target sweep g + R * g.width + lo) (target sweep g + R * g.width + hi) old new → Ready sweep g old f R n
      → Ready sweep g new f R n
  unfolding Ready target RowsHold
  still_ready Backward f kept (own, after) = (
    kept.above (size g + (R * g.width + n)) (omega arith) ∙ own,
    λ R' lo hi x' k. kept.above (size g + (R' * g.width + x')) (omega (arith, later R' x' lo)) ∙ after R' lo hi x' k,
  )
  still_ready Forward f kept (own, before) = (
    kept.above (R * g.width + n) (omega arith) ∙ own,
    λ R' lo hi x' k. kept.below (0 + (R' * g.width + x')) (omega (arith, earlier R' x' hi k)) ∙ before R' lo hi x' k,
  )
  still_ready Result f kept (own, after, both) = (
    kept.above (R * g.width + n) (omega arith) ∙ own,
    λ R' lo hi x' k. kept.above (0 + (R' * g.width + x')) (omega (arith, later R' x' lo)) ∙ after R' lo hi x' k,
    λ R' lo hi x' k. kept.above (size g + (R' * g.width + x')) (omega (arith, inside)) ∙ both R' lo hi x' k,
  )

-- ---- one more part

pub part_none : {sweep : Sweep} {g : Grid} {R lo hi : ℕ} {old : List ℕ} → lo ≡ hi → PartDone sweep g R lo hi old old 0
unfolding total
part_none {sweep} {g} {R} {lo} {hi} {old} e =
    record {
      kept = record { same_length = refl; below = λ k h. refl; above = λ k h. refl };
      made = λ f ready x from to. absurd (omega arith);
      counted = none;
    }
  where
    none : 0 ≡ total (cost_at sweep g R) lo (hi - lo)
    none = let z : hi - lo ≡ 0 = omega arith in sym (ap (total (cost_at sweep g R) lo) z)

-- a part under other names of its columns and its cost
pub part_as : {sweep : Sweep} {g : Grid} {R lo lo' hi hi' : ℕ} {old new : List ℕ} {count count' : ℕ} → lo ≡ lo'
    → hi ≡ hi'
    → count ≡ count' → PartDone sweep g R lo hi old new count → PartDone sweep g R lo' hi' old new count'
part_as {sweep} {g} {R} {lo} {lo'} {hi} {hi'} {old} {new} {count} {count'} from to cost done =
    subst (λ (n : ℕ). PartDone sweep g R n hi' old new count') from
    (subst (λ (n : ℕ). PartDone sweep g R lo n old new count') to
    (subst (PartDone sweep g R lo hi old new) cost done))

module _ {sweep : Sweep} {g : Grid} {R lo mid hi : ℕ} {old one two : List ℕ} {count more : ℕ}
    (rows : R < g.height) (columns : hi ≤ g.width) (first : lo ≤ mid) (second : mid ≤ hi) where
  pub part_join : PartDone sweep g R lo mid old one count → PartDone sweep g R mid hi one two more
      → PartDone sweep g R lo hi old two (count + more)
  part_join a b =
      let base : ℕ = target sweep g + R * g.width in
      record {
        kept =
            record {
              same_length = b.kept.same_length ∙ a.kept.same_length;
              below = λ k h. b.kept.below k (omega arith) ∙ a.kept.below k h;
              above = λ k h. b.kept.above k h ∙ a.kept.above k (omega arith);
            };
        made = λ f ready x l h.
            by_cases (dec_lt x mid)
            (λ early. b.kept.below (base + x) (omega arith) ∙ a.made f (λ y l' h'. ready y l' (omega arith)) x l early)
            (λ late. b.made f (λ y l' h'. still_ready g R lo mid old one y rows (omega arith) l' sweep f a.kept (ready y (omega arith) h')) x (omega arith) h);
        counted = sum a b;
      }
    where
      sum : PartDone sweep g R lo mid old one count → PartDone sweep g R mid hi one two more
          → count + more ≡ total (cost_at sweep g R) lo (hi - lo)
      sum a b =
          let cut : hi - lo ≡ (mid - lo) + (hi - mid) = omega arith in
          let at : lo + (mid - lo) ≡ mid = omega arith in
          omega (arith, a.counted, b.counted, ap (total (cost_at sweep g R) lo) cut, total_join (cost_at sweep g R) lo (mid - lo) (hi - mid), ap (λ (i : ℕ). total (cost_at sweep g R) i (hi - mid)) at)

-- a part costs at most a comparison for each of its columns
pub part_few : {sweep : Sweep} {g : Grid} {R lo hi : ℕ} {old new : List ℕ} {count : ℕ}
    → PartDone sweep g R lo hi old new count → count ≤ hi - lo
part_few {sweep} {g} {R} {lo} {hi} done =
    omega (arith, done.counted, total_most (cost_at sweep g R) (cost_most sweep g R) lo (hi - lo))

-- a row under other names of it and of its page
pub row_as : {sweep : Sweep} {g g' : Grid} {R R' : ℕ} {old new : List ℕ} {count : ℕ} → (g ≡ g') × (R ≡ R')
    → RowSwept sweep g R old new count → RowSwept sweep g' R' old new count
row_as {sweep} {g} {g'} {R} {R'} {old} {new} {count} e done =
    subst (λ (q : Grid). RowSwept sweep q R' old new count) e.0
    (subst (λ (r : ℕ). RowSwept sweep g r old new count) e.1 done)

-- one pixel
module _ (sweep : Sweep) (g : Grid) (R : ℕ) (old : List ℕ) (n v c : ℕ) where
  pub part_one : (place : ℕ) → place ≡ target sweep g + R * g.width + n → place < length old
      → ((f : Page) → Ready sweep g old f R n → v ≡ new_at sweep g f R n) → c ≡ cost_at sweep g R n
      → PartDone sweep g R n (n + 1) old (set old place v) c
  unfolding total
  part_one place is fits value cost =
      record {
        kept =
            record {
              same_length = length-set old place v;
              below = λ k h. get_or-set_other old place k v 0 (λ e. omega arith);
              above = λ k h. get_or-set_other old place k v 0 (λ e. omega arith);
            };
        made = λ f ready x lo hi.
            let e : x ≡ n = omega arith in
            ap (λ (i : ℕ). get_or (set old place v) (target sweep g + R * g.width + i) 0) e
            ∙ ap (λ (i : ℕ). get_or (set old place v) i 0) (sym is) ∙ get_or-set_same old place v 0 fits
            ∙ value f (ready n (omega arith) (omega arith)) ∙ ap (new_at sweep g f R) (sym e);
        counted = sum cost;
      }
    where
      sum : c ≡ cost_at sweep g R n → c ≡ total (cost_at sweep g R) n (n + 1 - n)
      sum cost =
          let one : n + 1 - n ≡ 1 = omega arith in
          omega (arith, ap (total (cost_at sweep g R) n) one, total_more (cost_at sweep g R) n 0, ap (cost_at sweep g R) (add-zero n))
