-- A page of the sweeps: one more row of the backward one, up the rows, of the forward one and of the results, down
-- the rows; and a pass of them all. Assumes nothing.
use mathlib.Core.Path.{◌≡◌, refl, sym, ap, ◌∙◌, subst}
use mathlib.Core.List.{List}
use mathlib.Core.Logic.{⊎_elim, by_cases}
use Prim.Native.Nat.{ℕ, zero, suc, ◌+◌, ◌-◌, ◌*◌, ◌≤◌, ◌<◌, min, max, zero-le}
use native.Mathlib.Nat.{mul-le-mul_right, suc-mul, one-mul, zero-mul, zero-add, add_assoc}
use native.Mathlib.Numerals.{add-one}
use native.Mathlib.Decide.{dec_lt}
use native.Mathlib.Omega.{arith}
use lib.ListN.{get_or}
use Rattle.runs.specs.Grid.{Page, Sized, to_end_at, from_start_at, windowed_at}
use Rattle.runs.specs.Scratch.{size, Kept, total}
use Rattle.sweep.specs.Sweeps.{target, new_at, cost_at, RowsHold, window_rows, Ready, PartReady, RowSwept, row_cost}
use Rattle.sweep.specs.Sweeps.{Raised, Lowered, SweptIf, lag, sweep_cost}
use Rattle.runs.specs.Runs.{Copied}
use Rattle.runs.specs.declared.Grid.{Grid}
use Rattle.sweep.specs.declared.Sweep.{Sweep}
use Rattle.sweep.specs.declared.Sweep.TheVariants.{Backward, Forward, Result}
use Rattle.runs.proofs.Bounds.{place_below, product}
use Rattle.runs.proofs.Totals.{total_more, total_first, total_join, total_most}
use Rattle.sweep.proofs.Rowing.{cost_most, part_few}

-- ---- the backward sweep

pub raised_none : {base : ℕ} {g : Grid} {least lo hi : ℕ} {old : List ℕ} → lo ≡ hi
    → Raised base g least lo hi old old 0
unfolding RowsHold total
raised_none {base} {g} {least} {lo} {hi} {old} e =
    record {
      kept = record { same_length = refl; below = λ k h. refl; above = λ k h. refl };
      made = λ f stands swept R from to. absurd (omega arith);
      counted = none;
    }
  where
    none : 0 ≡ total (row_cost Backward g) lo (hi - lo)
    none = let z : hi - lo ≡ 0 = omega arith in sym (ap (total (row_cost Backward g) lo) z)

pub raised_as : {base : ℕ} {g : Grid} {least lo lo' hi hi' : ℕ} {old new : List ℕ} {count : ℕ} → lo ≡ lo' → hi ≡ hi'
    → Raised base g least lo hi old new count → Raised base g least lo' hi' old new count
raised_as {base} {g} {least} {lo} {lo'} {hi} {hi'} {old} {new} {count} from to done =
    subst (λ (q : ℕ). Raised base g least q hi' old new count) from
    (subst (λ (q : ℕ). Raised base g least lo q old new count) to done)

-- a place in rows that are all above, or all below, a given one
before_row : (g : Grid) (n R x : ℕ) → R < n → x < g.width → R * g.width + x < n * g.width
before_row g n R x h k = place_below R x n g.width h k

from_row : (g : Grid) (n R x : ℕ) → n ≤ R → n * g.width ≤ R * g.width + x
from_row g n R x h =
    let far : n * g.width ≤ R * g.width = mul-le-mul_right g.width h in
    omega arith

module _ {g : Grid} {least n hi : ℕ} {old mid new : List ℕ} {count more : ℕ} (low : least ≤ n) (high : n < hi)
    (rows : hi ≤ g.height) (done : Raised (size g) g least (suc n) hi old mid count)
    (row : RowSwept Backward g n mid new more) where
  -- what the row finds
  up_ready : (f : Page) → RowsHold old (size g) g f least hi → RowsHold old (size g) g (to_end_at g f) hi g.height
      → PartReady Backward g mid f n 0 g.width
  unfolding Ready RowsHold
  up_ready f stands swept x from columns = (
    done.kept.below (size g + (n * g.width + x)) (omega (arith, before_row g (suc n) n x (omega arith) columns))
        ∙ stands n low high x columns,
    λ R lo top x' k.
        by_cases (dec_lt R hi)
        (λ h. done.made f stands swept R lo h x' k)
        (λ h. done.kept.above (size g + (R * g.width + x')) (omega (arith, from_row g hi R x' (omega arith))) ∙ swept R (omega arith) top x' k),
  )

  here : (f : Page) → RowsHold old (size g) g f least hi → RowsHold old (size g) g (to_end_at g f) hi g.height → (x : ℕ)
      → x < g.width → get_or new (size g + (n * g.width + x)) 0 ≡ to_end_at g f n x
  unfolding target new_at
  here f stands swept x columns =
      ap (λ (i : ℕ). get_or new i 0) (sym (add_assoc (size g) (n * g.width) x))
      ∙ row.made f (up_ready f stands swept) x zero-le columns

  sum : count + more ≡ total (row_cost Backward g) n (hi - n)
  sum =
      let a : hi - n ≡ suc (hi - suc n) = omega arith in
      let w : g.width - 0 ≡ g.width = omega arith in
      omega (arith, ap (total (cost_at Backward g n) 0) w, done.counted, row.counted, ap (total (row_cost Backward g) n) a, total_first (row_cost Backward g) n (hi - suc n))

  pub up_more : Raised (size g) g least n hi old new (count + more)
  unfolding RowsHold target
  up_more =
      let next : suc n * g.width ≡ n * g.width + g.width = suc-mul n g.width in
      let far : suc n * g.width ≤ hi * g.width = mul-le-mul_right g.width high in
      record {
        kept =
            record {
              same_length = row.kept.same_length ∙ done.kept.same_length;
              below = λ k h. row.kept.below k (omega arith) ∙ done.kept.below k (omega arith);
              above = λ k h. row.kept.above k (omega arith) ∙ done.kept.above k h;
            };
        made = λ f stands swept R lo top x columns.
            by_cases (dec_lt n R)
            (λ h. row.kept.above (size g + (R * g.width + x)) (omega (arith, from_row g (suc n) R x h)) ∙ done.made f stands swept R h top x columns)
            (λ h.
            let e : R ≡ n = omega arith in
            subst (λ (r : ℕ). get_or new (size g + (r * g.width + x)) 0 ≡ to_end_at g f r x) (sym e)
            (here f stands swept x columns));
        counted = sum;
      }

-- a band is copied, then swept
module _ (g : Grid) (lo hi : ℕ) (old mid new : List ℕ) (count to from n : ℕ) (ordered : lo ≤ hi) (rows : hi ≤ g.height)
  where
    pub band_raised : to ≡ size g + lo * g.width → from ≡ lo * g.width → n ≡ hi * g.width - lo * g.width
        → Copied to from n old mid → Raised (size g) g lo lo hi mid new count → Raised 0 g lo lo hi old new count
    unfolding RowsHold
    band_raised to_is from_is n-is copied done =
        let band : lo * g.width ≤ hi * g.width = mul-le-mul_right g.width ordered in
        record {
          kept =
              record {
                same_length = done.kept.same_length ∙ copied.kept.same_length;
                below = λ k h. done.kept.below k h ∙ copied.kept.below k (omega arith);
                above = λ k h. done.kept.above k h ∙ copied.kept.above k (omega arith);
              };
          made = λ f stands swept.
              done.made f
              (λ R l h x columns.
              let start : lo * g.width ≤ R * g.width + x = from_row g lo R x l in
              let end : R * g.width + x < hi * g.width = before_row g hi R x h columns in
              let place : to + (R * g.width + x - lo * g.width) ≡ size g + (R * g.width + x) = omega arith in
              let own : from + (R * g.width + x - lo * g.width) ≡ 0 + (R * g.width + x) = omega arith in
              ap (λ (i : ℕ). get_or mid i 0) (sym place) ∙ copied.made (R * g.width + x - lo * g.width) (omega arith)
              ∙ ap (λ (i : ℕ). get_or old i 0) own ∙ stands R l h x columns)
              (λ R l h x columns. copied.kept.above (size g + (R * g.width + x)) (omega (arith, from_row g hi R x l)) ∙ swept R l h x columns);
          counted = done.counted;
        }

-- a band more
module _ (g : Grid) (lo mid hi : ℕ) (old one two : List ℕ) (count more : ℕ) (first : lo ≤ mid) (second : mid ≤ hi)
    (rows : hi ≡ g.height) where
  pub bands_join : Raised 0 g 0 mid hi old one count → Raised 0 g lo lo mid one two more
      → Raised 0 g 0 lo hi old two (count + more)
  unfolding RowsHold
  bands_join a b =
      let upper : lo * g.width ≤ mid * g.width = mul-le-mul_right g.width first in
      let lower : mid * g.width ≤ hi * g.width = mul-le-mul_right g.width second in
      record {
        kept =
            record {
              same_length = b.kept.same_length ∙ a.kept.same_length;
              below = λ k h. b.kept.below k h ∙ a.kept.below k (omega arith);
              above = λ k h. b.kept.above k (omega arith) ∙ a.kept.above k h;
            };
        made = λ f stands swept R l h x columns.
            by_cases (dec_lt R mid)
            (λ early.
            b.made f
            (λ R' l' h' x' k.
            a.kept.below (0 + (R' * g.width + x')) (omega (arith, before_row g g.height R' x' (omega arith) k))
            ∙ stands R' zero-le (omega arith) x' k)
            (λ R' l' h' x' k. a.made f stands swept R' l' (omega arith) x' k)
            R l early x columns)
            (λ late. b.kept.above (size g + (R * g.width + x)) (omega (arith, from_row g mid R x (omega arith))) ∙ a.made f stands swept R (omega arith) h x columns);
        counted = total_parts a b;
      }
    where
      total_parts : Raised 0 g 0 mid hi old one count → Raised 0 g lo lo mid one two more
          → count + more ≡ total (row_cost Backward g) lo (hi - lo)
      total_parts a b =
          let cut : hi - lo ≡ (mid - lo) + (hi - mid) = omega arith in
          let at : lo + (mid - lo) ≡ mid = omega arith in
          omega (arith, a.counted, b.counted, ap (total (row_cost Backward g) lo) cut, total_join (row_cost Backward g) lo (mid - lo) (hi - mid), ap (λ (i : ℕ). total (row_cost Backward g) i (hi - mid)) at)

-- ---- the forward sweep and the results

pub lowered_none : (g : Grid) (ahead done : ℕ) (old : List ℕ) → ahead ≡ 0 → done ≡ 0 → Lowered g ahead done old old 0
unfolding RowsHold total
lowered_none g ahead done old none never =
    record {
      kept = record { same_length = refl; below = λ k h. refl; above = λ k h. refl };
      starts = λ f stands R lo hi. absurd (omega arith);
      made = λ f stands ends R lo hi. absurd (omega arith);
      counted = omega (arith, ap (total (row_cost Forward g) 0) none, ap (total (row_cost Result g) 0) never);
    }

module _ (g : Grid) (n m : ℕ) (old mid new : List ℕ) (count more : ℕ) (rows : n < g.height) (behind : m ≤ n - g.period)
    (done : Lowered g n m old mid count) (row : RowSwept Forward g n mid new more) where
  next_ready : (f : Page) → RowsHold old 0 g f 0 g.height → PartReady Forward g mid f n 0 g.width
  unfolding Ready RowsHold
  next_ready f stands x from columns = (
    done.kept.above (n * g.width + x) (omega arith) ∙ ap (λ (i : ℕ). get_or old i 0) (sym (zero-add (n * g.width + x)))
        ∙ stands n zero-le rows x columns,
    λ R lo hi x' k. done.starts f stands R (omega arith) hi x' k,
  )

  next_here : (f : Page) → RowsHold old 0 g f 0 g.height → (x : ℕ) → x < g.width
      → get_or new (0 + (n * g.width + x)) 0 ≡ from_start_at g f n x
  unfolding target new_at
  next_here f stands x columns =
      ap (λ (i : ℕ). get_or new i 0) (sym (add_assoc 0 (n * g.width) x))
      ∙ row.made f (next_ready f stands) x zero-le columns

  next_sum : count + more ≡ total (row_cost Forward g) 0 (n + 1) + total (row_cost Result g) 0 m
  next_sum =
      let w : g.width - 0 ≡ g.width = omega arith in
      omega (arith, ap (total (cost_at Forward g n) 0) w, done.counted, row.counted, total_more (row_cost Forward g) 0 n, ap (row_cost Forward g) (zero-add n))

  pub forward_more : Lowered g (n + 1) m old new (count + more)
  unfolding RowsHold target
  forward_more =
      let next : suc n * g.width ≡ n * g.width + g.width = suc-mul n g.width in
      let one : (n + 1) * g.width ≡ suc n * g.width = ap (λ (q : ℕ). q * g.width) (add-one n) in
      record {
        kept =
            record {
              same_length = row.kept.same_length ∙ done.kept.same_length;
              below = λ k h. absurd (omega arith);
              above = λ k h. row.kept.above k (omega arith) ∙ done.kept.above k (omega arith);
            };
        starts = λ f stands R lo hi x columns.
            by_cases (dec_lt R n)
            (λ h. row.kept.below (0 + (R * g.width + x)) (omega (arith, before_row g n R x h columns)) ∙ done.starts f stands R lo h x columns)
            (λ h.
            let e : R ≡ n = omega arith in
            subst (λ (r : ℕ). get_or new (0 + (r * g.width + x)) 0 ≡ from_start_at g f r x) (sym e)
            (next_here f stands x columns));
        made = λ f stands ends R lo hi x columns.
            row.kept.below (0 + (R * g.width + x)) (omega (arith, before_row g n R x (omega arith) columns))
            ∙ done.made f stands ends R lo hi x columns;
        counted = next_sum;
      }

module _ (g : Grid) (n m : ℕ) (old mid new : List ℕ) (count more : ℕ) (ahead : m < n) (rows : n ≤ g.height)
    (window : window_rows g m ≤ n) (done : Lowered g n m old mid count) (row : RowSwept Result g m mid new more) where
  behind_ready : (f : Page) → RowsHold old 0 g f 0 g.height → RowsHold old (size g) g (to_end_at g f) 0 g.height
      → PartReady Result g mid f m 0 g.width
  unfolding Ready RowsHold
  behind_ready f stands ends x from columns = (
    ap (λ (i : ℕ). get_or mid i 0) (sym (zero-add (m * g.width + x)))
        ∙ done.starts f stands m (omega arith) ahead x columns,
    λ R lo hi x' k. done.starts f stands R (omega arith) (omega arith) x' k,
    λ R lo hi x' k. done.kept.above (size g + (R * g.width + x')) (omega (arith, mul-le-mul_right g.width rows))
        ∙ ends R lo hi x' k,
  )

  behind_here : (f : Page) → RowsHold old 0 g f 0 g.height → RowsHold old (size g) g (to_end_at g f) 0 g.height
      → (x : ℕ) → x < g.width → get_or new (0 + (m * g.width + x)) 0 ≡ windowed_at g f m x
  unfolding target new_at
  behind_here f stands ends x columns =
      ap (λ (i : ℕ). get_or new i 0) (sym (add_assoc 0 (m * g.width) x))
      ∙ row.made f (behind_ready f stands ends) x zero-le columns

  behind_sum : count + more ≡ total (row_cost Forward g) 0 n + total (row_cost Result g) 0 (m + 1)
  behind_sum =
      let w : g.width - 0 ≡ g.width = omega arith in
      omega (arith, ap (total (cost_at Result g m) 0) w, done.counted, row.counted, total_more (row_cost Result g) 0 m, ap (row_cost Result g) (zero-add m))

  pub result_more : Lowered g n (m + 1) old new (count + more)
  unfolding RowsHold target
  result_more =
      let next : suc m * g.width ≡ m * g.width + g.width = suc-mul m g.width in
      let far : suc m * g.width ≤ n * g.width = mul-le-mul_right g.width ahead in
      record {
        kept =
            record {
              same_length = row.kept.same_length ∙ done.kept.same_length;
              below = λ k h. absurd (omega arith);
              above = λ k h. row.kept.above k (omega arith) ∙ done.kept.above k h;
            };
        starts = λ f stands R lo hi x columns.
            row.kept.above (0 + (R * g.width + x)) (omega (arith, from_row g (suc m) R x (omega arith)))
            ∙ done.starts f stands R (omega arith) hi x columns;
        made = λ f stands ends R lo hi x columns.
            by_cases (dec_lt R m)
            (λ h. row.kept.below (0 + (R * g.width + x)) (omega (arith, before_row g m R x h columns)) ∙ done.made f stands ends R lo h x columns)
            (λ h.
            let e : R ≡ m = omega arith in
            subst (λ (r : ℕ). get_or new (0 + (r * g.width + x)) 0 ≡ windowed_at g f r x) (sym e)
            (behind_here f stands ends x columns));
        counted = behind_sum;
      }

-- ---- a row of each

lowered_alike : (g : Grid) (old : List ℕ) (a a' d d' : ℕ) (n n' : List ℕ) (c c' : ℕ) → a ≡ a' → d ≡ d' → n ≡ n' → c ≡ c'
    → Lowered g a d old n c → Lowered g a' d' old n' c'
lowered_alike g old a a' d d' n n' c c' ea ed en ec done =
    subst (λ (q : ℕ). Lowered g q d' old n' c') ea
    (subst (λ (q : ℕ). Lowered g a q old n' c') ed
    (subst (λ (q : List ℕ). Lowered g a d old q c') en
    (subst (Lowered g a d old n) ec done)))

-- the results are far enough behind: what the forward sweep reads is not yet overwritten, and what they read is made
module _ (g : Grid) (row : ℕ) (sized : Sized g) where
  step : g.period ≤ max g.on 1 * g.period
  step =
      let one : 1 * g.period ≤ max g.on 1 * g.period = mul-le-mul_right g.period (omega arith) in
      omega (arith, one-mul g.period)

  window : g.on * g.period ≤ max g.on 1 * g.period
  window = mul-le-mul_right g.period (omega arith)

  unread : row < g.height → row - lag g ≤ row - g.period
  unfolding lag
  unread h = omega (arith, step)

  reached : lag g ≤ row → row < g.height + lag g → window_rows g (row - lag g) ≤ min (row + 1) g.height
  unfolding lag window_rows
  reached from to = omega (arith, window)

pub lag_most : (g : Grid) → lag g ≤ g.height
unfolding lag
lag_most g = omega arith

module _ (g : Grid) (row behind : ℕ) (old mid one two : List ℕ) (count a b : ℕ) (sized : Sized g) (is : behind ≡ lag g)
    (rows : row < g.height + behind) where
  next_lowered : Lowered g (min row g.height) (row - behind) old mid count
      → SweptIf (row < g.height) Forward g row mid one a
      → Lowered g (min (row + 1) g.height) (row - behind) old one (count + a)
  next_lowered done =
      ⊎_elim
      (λ w.
      let h : row < g.height = w.0 in
      lowered_alike g old _ _ _ _ _ _ _ _ (omega arith) refl refl refl
      (forward_more g row (row - behind) old mid one count a h (omega (arith, unread g row sized h))
      (lowered_alike g old _ _ _ _ _ _ _ _ (omega arith) refl refl refl done) w.1))
      (λ w. lowered_alike g old _ _ _ _ _ _ _ _ (omega arith) refl (sym w.1) (omega (arith, w.2)) done)

  behind_lowered : Lowered g (min (row + 1) g.height) (row - behind) old one (count + a)
      → SweptIf (behind ≤ row) Result g (row - behind) one two b
      → Lowered g (min (row + 1) g.height) (row + 1 - behind) old two (count + a + b)
  behind_lowered done =
      ⊎_elim
      (λ w.
      let h : behind ≤ row = w.0 in
      lowered_alike g old _ _ _ _ _ _ _ _ refl (omega arith) refl refl
      (result_more g _ _ old one two (count + a) b (omega arith) (omega arith) (subst (λ (q : ℕ). window_rows g (row - q) ≤ min (row + 1) g.height) (sym is) (reached g row sized (omega arith) (omega arith))) done w.1))
      (λ w. lowered_alike g old _ _ _ _ _ _ _ _ refl (omega arith) (sym w.1) (omega (arith, w.2)) done)

  pub lowered_next : Lowered g (min row g.height) (row - behind) old mid count
      → SweptIf (row < g.height) Forward g row mid one a → SweptIf (behind ≤ row) Result g (row - behind) one two b
      → Lowered g (min (row + 1) g.height) (row + 1 - behind) old two (count + (a + b))
  lowered_next done first second =
      lowered_alike g old _ _ _ _ _ _ _ _ refl refl refl (add_assoc count a b)
      (behind_lowered (next_lowered done first) second)

-- ---- a pass

module _ {g : Grid} {old one two : List ℕ} {a b : ℕ} (first : Raised 0 g 0 0 g.height old one a)
    (second : Lowered g g.height g.height one two b) where
  none : 0 * g.width ≡ 0
  none = zero-mul g.width

  pub pass_kept : Kept 0 (size g + size g) old two
  pass_kept =
      record {
        same_length = second.kept.same_length ∙ first.kept.same_length;
        below = λ k h. absurd (omega arith);
        above = λ k h. second.kept.above k (omega arith) ∙ first.kept.above k h;
      }

  pub pass_made : (f : Page) → RowsHold old 0 g f 0 g.height → RowsHold two 0 g (windowed_at g f) 0 g.height
  unfolding RowsHold
  pass_made f holds =
      second.made f
      (λ R lo hi x k. first.kept.below (0 + (R * g.width + x)) (omega (arith, none, before_row g g.height R x hi k)) ∙ holds R lo hi x k)
      (first.made f holds (λ R lo hi. absurd (omega arith)))

  pub pass_counted : a + b ≡ sweep_cost Backward g + sweep_cost Forward g + sweep_cost Result g
  pass_counted =
      let h : g.height - 0 ≡ g.height = omega arith in
      omega (arith, first.counted, second.counted, ap (total (row_cost Backward g) 0) h)

-- a sweep's comparisons are at most the page's pixels
pub row_cost_most : (sweep : Sweep) (g : Grid) (R : ℕ) → row_cost sweep g R ≤ g.width
row_cost_most sweep g R = total_most (cost_at sweep g R) (cost_most sweep g R) 0 g.width

pub total_bound : (cost : ℕ → ℕ) (w : ℕ) → ((k : ℕ) → cost k ≤ w) → (k n : ℕ) → total cost k n ≤ n * w
unfolding total
total_bound cost w most k zero = omega arith
total_bound cost w most k (suc n) = omega (arith, most k, total_bound cost w most (suc k) n, suc-mul n w)

pub if_few : {asked : Type 0} {sweep : Sweep} {g : Grid} {R : ℕ} {old new : List ℕ} {count : ℕ}
    → SweptIf asked sweep g R old new count → count ≤ g.width
if_few = ⊎_elim (λ w. omega (arith, part_few w.1)) (λ w. omega (arith, w.2))

-- so they are far below what a 64-bit number holds
pub total_small : (sweep : Sweep) (g : Grid) (k n : ℕ) → g.width ≤ 8192 → n ≤ 8192
    → total (row_cost sweep g) k n ≤ 67108864
total_small sweep g k n wide high =
    omega (arith, total_bound (row_cost sweep g) g.width (row_cost_most sweep g) k n, product high wide)

-- at most one comparison a pixel and sweep, three a pass
sweep_most : (sweep : Sweep) (g : Grid) → sweep_cost sweep g ≤ size g
sweep_most sweep g = total_bound (row_cost sweep g) g.width (row_cost_most sweep g) 0 g.height

pub pass_most : (g : Grid) {count : ℕ} → count ≡ sweep_cost Backward g + sweep_cost Forward g + sweep_cost Result g
    → count ≤ 3 * size g
pass_most g counted = omega (arith, sweep_most Backward g, sweep_most Forward g, sweep_most Result g)

pub lowered_small : {g : Grid} {ahead done : ℕ} {old new : List ℕ} {count : ℕ} → Lowered g ahead done old new count
    → g.width ≤ 8192 → ahead ≤ 8192 → done ≤ 8192 → count ≤ 134217728
lowered_small {g} {ahead} {done} low wide high few =
    omega (arith, low.counted, total_small Forward g 0 ahead wide high, total_small Result g 0 done wide few)
