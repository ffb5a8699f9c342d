-- The laws of lines in normal form (Grid): which steps are in the page, that a pixel is found again from its line
-- and step, and that the running extremes at a pixel are those of its line.
-- Assumes nothing.
use Rattle.std.specs.Prelude.{◌≡◌, refl, ◌⊎◌}
use Rattle.std.proofs.Math.Path.{ap}
use Rattle.std.proofs.Common.{◌∙◌, inl, inr, ⊎_elim, mul-le-mul_left, mul-one, suc-mul}
use mathlib.Core.Bool.{Bool, true, false, ◌||◌}
use Rattle.std.proofs.Math.Logic.{by_cases}
use Prim.Native.Nat.{ℕ, suc, ◌+◌, ◌-◌, ◌*◌, ◌≤◌, ◌<◌}
use Rattle.std.proofs.Math.Nat.{mul-le-mul_right, mod-lt, mod-eq_of_lt, add-mul-mod_self_right}
use Rattle.std.proofs.Math.Decide.{dec_lt, dec_le}
use native.Mathlib.Omega.{arith}
use Rattle.std.proofs.Math.Dec.{leb}
use borrow.Author.Tests.{leb-true, leb-false, le-leb, lt-leb, lt-ltb, le-ltb}
use Rattle.geometry.specs.Line.{period, step_of}
use Rattle.geometry.specs.Drift.{drift, reach, first}
use Rattle.geometry.proofs.Laws.{period_forward, step_at_lem, step_split, drift_rises, first_is, reach_at, reach_by}
use Rattle.runs.specs.Grid.{Page, start_row, line_name, entry, leave, steps, row_at, column_at, along, number, line_steps, from_start_at, to_end_at, spot, Sized}
use Rattle.runs.specs.Block.{from_start, to_end}
use Rattle.runs.specs.declared.Grid.{Grid}

-- a step of a line that is in the page
pub record StepOnPage (g : Grid) (u z s : ℕ) : Type 0 where
  pub row : u + s * period g.line < g.height
  pub left : z ≤ g.width + drift g.line s
  pub right : drift g.line s < z

or-false : (a b : Bool) → a || b ≡ false → (a ≡ false) × (b ≡ false)
or-false true b e = (e, absurd (mathlib.Core.Bool.true≢false e))
or-false false b e = (refl, e)

or-true : (a b : Bool) → a || b ≡ true → (a ≡ true) ⊎ (b ≡ true)
or-true true b e = inl refl
or-true false b e = inr e

module _ (g : Grid) (sized : Sized g) where
  -- a step takes at least one row
  step_rows : (s : ℕ) → s ≤ s * period g.line
  step_rows s =
      let k : s * 1 ≤ s * period g.line = mul-le-mul_left s (period_forward g.line sized.sound) in
      omega (arith, mul-one s)

  pub entry_at_lem : (z s : ℕ) → entry g z ≤ s → s < g.height → z ≤ g.width + drift g.line s
  unfolding entry
  entry_at_lem z s h k =
      let e : z - g.width ≤ drift g.line (reach g.line (z - g.width) g.height) =
      reach_at g.line (z - g.width) g.height (omega arith) in
      let r : drift g.line (reach g.line (z - g.width) g.height) ≤ drift g.line s = drift_rises g.line sized.sound h in
      omega arith

  pub entry_by : (z s : ℕ) → z ≤ g.width + drift g.line s → entry g z ≤ s
  unfolding entry
  entry_by z s h = reach_by g.line (z - g.width) g.height s (omega arith)

  before_leave : (u z s : ℕ) → s < leave g u z → (u + s * period g.line < g.height) × (drift g.line s < z)
  unfolding leave
  before_leave u z s h =
      let f = first_is (λ (s : ℕ). leb g.height (u + s * period g.line) || leb z (drift g.line s)) 0 g.height in
      let both = or-false _ _ (f.before s (omega arith) h) in
      (leb-false _ _ both.0, leb-false _ _ both.1)

  leave_after : (u z s : ℕ) → u + s * period g.line < g.height → drift g.line s < z → s < leave g u z
  unfolding leave
  leave_after u z s low below =
      let test : ℕ → Bool = λ (s : ℕ). leb g.height (u + s * period g.line) || leb z (drift g.line s) in
      let f = first_is test 0 g.height in
      let r : ℕ = first test 0 g.height in
      let k : s ≤ s * period g.line = step_rows s in
      by_cases (dec_lt s r) (λ h. h) (λ h.
      absurd (⊎_elim
      (λ e. let w : g.height ≤ u + r * period g.line = leb-true _ _ e in
      let m : r * period g.line ≤ s * period g.line = mul-le-mul_right (period g.line) (omega arith) in
      omega arith)
      (λ e. let w : z ≤ drift g.line r = leb-true _ _ e in
      let m : drift g.line r ≤ drift g.line s = drift_rises g.line sized.sound (omega arith) in
      omega arith)
      (or-true _ _ (f.passes (omega arith)))))

  -- the steps from the entry up to where the line leaves are those in the page
  pub on_page_lem : (u z s : ℕ) → entry g z ≤ s → s < leave g u z → StepOnPage g u z s
  on_page_lem u z s h k =
      let b = before_leave u z s k in
      let r : s ≤ s * period g.line = step_rows s in
      record { row = b.0; left = entry_at_lem z s h (omega arith); right = b.1 }

  pub on_line : (u z s : ℕ) → StepOnPage g u z s → (entry g z ≤ s) × (s < leave g u z)
  on_line u z s o = (entry_by z s o.left, leave_after u z s o.row o.right)

  -- ---- a step of a line as a pixel

  module _ (u z s : ℕ) (small : u < period g.line) (there : StepOnPage g u z s) where
    pub row_fits : row_at g u s < g.height
    unfolding row_at
    row_fits = there.row

    pub column_fits : column_at g z s < g.width
    unfolding column_at
    column_fits = omega (arith, there)

    pub step_found : step_of g.line (row_at g u s) ≡ s
    unfolding row_at
    step_found = step_at_lem g.line sized.sound u s small

    pub start_found : start_row g (row_at g u s) ≡ u
    unfolding row_at start_row
    start_found = add-mul-mod_self_right u s (period g.line) ∙ mod-eq_of_lt small

    name_back : g.width + drift g.line s - column_at g z s ≡ z
    unfolding column_at
    name_back = omega (arith, there)

    pub name_found : line_name g (row_at g u s) (column_at g z s) ≡ z
    unfolding line_name
    name_found = ap (λ (t : ℕ). g.width + drift g.line t - column_at g z s) step_found ∙ name_back

    -- whatever is said of a pixel through its line and step
    pub said_of : (G : ℕ → ℕ → ℕ → ℕ)
        → G (start_row g (row_at g u s)) (line_name g (row_at g u s) (column_at g z s)) (step_of g.line (row_at g u s)) ≡ G u z s
    said_of G = rw (name_found, start_found, step_found) refl

    pub to_end_on : (f : Page) → to_end_at g f (row_at g u s) (column_at g z s) ≡ to_end g.low g.length (steps g u z) (along g f u z) (s - entry g z)
    unfolding to_end_at number line_steps
    to_end_on f = said_of (λ (u z s : ℕ). to_end g.low g.length (steps g u z) (along g f u z) (s - entry g z))

    pub from_start_on : (f : Page) → from_start_at g f (row_at g u s) (column_at g z s) ≡ from_start g.low g.length (along g f u z) (s - entry g z)
    unfolding from_start_at number
    from_start_on f = said_of (λ (u z s : ℕ). from_start g.low g.length (along g f u z) (s - entry g z))

    pub page_on : (f : Page) → f (row_at g u s) (column_at g z s) ≡ along g f u z (s - entry g z)
    unfolding along
    page_on f =
        let low : entry g z ≤ s = (on_line u z s there).0 in
        let e : s ≡ entry g z + (s - entry g z) = omega arith in
        ap (λ (q : ℕ). f (row_at g u q) (column_at g z q)) e

    -- its flat place in a page
    pub spot_on : spot g u z s ≡ row_at g u s * g.width + column_at g z s
    unfolding spot
    spot_on =
        let low : entry g z ≤ s = (on_line u z s there).0 in
        let high : s < leave g u z = (on_line u z s there).1 in
        simp (le-leb _ _ low, lt-ltb _ _ high)

  -- ---- a pixel as a step of its line

  module _ (R x : ℕ) (rows : R < g.height) (columns : x < g.width) where
    pub start_small : start_row g R < period g.line
    unfolding start_row
    start_small = mod-lt R (period_forward g.line sized.sound)

    pub row_again : row_at g (start_row g R) (step_of g.line R) ≡ R
    unfolding row_at start_row
    row_again = step_split g.line R

    pub column_again : column_at g (line_name g R x) (step_of g.line R) ≡ x
    unfolding column_at line_name
    column_again = omega arith

    row_sum : start_row g R + step_of g.line R * period g.line ≡ R
    unfolding row_at
    row_sum = row_again

    pub own_step : StepOnPage g (start_row g R) (line_name g R x) (step_of g.line R)
    unfolding line_name
    own_step = record { row = omega (arith, row_sum); left = omega arith; right = omega arith }

    -- its number, counted from the entry
    pub number_is : entry g (line_name g R x) + number g R x ≡ step_of g.line R
    unfolding number
    number_is =
        let low : entry g (line_name g R x) ≤ step_of g.line R = (on_line _ _ _ own_step).0 in
        omega arith

    pub number_below : number g R x < line_steps g R x
    unfolding number line_steps steps
    number_below =
        let low : entry g (line_name g R x) ≤ step_of g.line R = (on_line _ _ _ own_step).0 in
        let high : step_of g.line R < leave g (start_row g R) (line_name g R x) = (on_line _ _ _ own_step).1 in
        omega arith

  -- a step that is not in the page has no place
  pub spot_off : (u z s : ℕ) → (StepOnPage g u z s → ⊥) → spot g u z s ≡ g.height * g.width
  unfolding spot
  spot_off u z s off =
      by_cases (dec_le (entry g z) s)
      (λ h. by_cases (dec_lt s (leave g u z)) (λ k. absurd (off (on_page_lem u z s h k))) (λ k. simp (le-leb _ _ h, le-ltb _ _ (not_below k))))
      (λ h. simp (lt-leb _ _ (below h)))
    where
      not_below : {a b : ℕ} → (a < b → ⊥) → b ≤ a
      not_below k = omega arith

      below : {a b : ℕ} → (a ≤ b → ⊥) → b < a
      below h = omega arith

  -- a step has its place below the page's size, or the page's size for none
  pub spot_below : (u z s : ℕ) → u < period g.line → StepOnPage g u z s → spot g u z s < g.height * g.width
  spot_below u z s small there =
      let rows : suc (row_at g u s) * g.width ≤ g.height * g.width = mul-le-mul_right g.width (row_fits u z s small there) in
      omega (arith, spot_on u z s small there, column_fits u z s small there, suc-mul (row_at g u s) g.width)

  pub spot_there : (u z s : ℕ) → (spot g u z s ≡ g.height * g.width → ⊥) → StepOnPage g u z s
  spot_there u z s h =
      by_cases (dec_le (entry g z) s)
      (λ low. by_cases (dec_lt s (leave g u z)) (λ high. on_page_lem u z s low high) (λ k. absurd (h (spot_off u z s (λ o. k (on_line u z s o).1)))))
      (λ k. absurd (h (spot_off u z s (λ o. k (on_line u z s o).0))))
