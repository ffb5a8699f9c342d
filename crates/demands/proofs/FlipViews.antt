-- The flip along the axes of a line: a page with its minor axis mirrored, filtered along the flipped line.
-- Assumes nothing.
use mathlib.Core.Path.{◌≡◌, refl, sym, ap, ap₂, fun_ext, ◌∙◌}
use mathlib.Core.Bool.{Bool, true, false, ◌||◌, cond}
use mathlib.Core.Logic.{⊎_elim}
use mathlib.Core.Option.{Option, none, some}
use Prim.Native.Nat.{ℕ, suc, ◌+◌, ◌-◌, ◌<◌}
use native.Mathlib.Omega.{arith}
use lib.Dec.{leb}
use Rattle.vectors.specs.Vector.{shallow, steep}
use Rattle.geometry.specs.Line.{landing, step_of, major_at}
use Rattle.geometry.specs.Number.{in_page}
use Rattle.geometry.specs.Drift.{mirrored}
use Rattle.geometry.specs.Flip.{flipped}
use Rattle.geometry.proofs.Laws.{in_page_landing, out_of_page, flipped_steep, flipped_step}
use Rattle.geometry.proofs.Laws.{flipped_major_at, flipped_landing, flipped_in_page, flipped_behind, flipped_ahead}
use Rattle.geometry.specs.declared.Line.{Line}
use Rattle.runs.specs.Scratch.{total}
use Rattle.ticket.specs.declared.Operation.{Operation}
use Rattle.ticket.specs.declared.Operation.TheVariants.{Erode, Dilate, Open, Close}
use Rattle.filter.specs.Seen.{View, runs_steep}
use Rattle.filter.specs.Filters.{extreme, value_at, on_line, in_window, pass_at, pass, eroded, dilation_back, dilated}
use Rattle.filter.specs.Filters.{opened, closed, operated}
use Rattle.filter.proofs.Absence.{pass_off}
use Rattle.filter.specs.Sums.{total_same, total_mirrored}
use Rattle.filter.specs.Work.{charged, charged_at, pass_work, erosion_work, dilation_work, work_of}
use Rattle.filter.specs.Engine.{Absent}
use Rattle.filter.specs.declared.Segment.{Segment}

-- a line that a ticket may order
abbrev pub Runs : Line → Type 0
Runs l = shallow l.dx l.dy || steep l.dx l.dy ≡ true

abbrev pub flipped_segment : Segment → Segment
flipped_segment s = record { line = flipped s.line; length = s.length; origin = s.origin }

-- two pages of sides H and W that are mirrored along the minor axis
pub record Mirrors (H W : ℕ) (page page' : View) : Type 0 where
  pub off : Absent H W page
  pub off' : Absent H W page'
  pub there : (M m : ℕ) → m < W → page' M (mirrored true W m) ≡ page M m

-- a step that is not in the page has nothing
off_line : (l : Line) (H W M m s : ℕ) (page : View) → Absent H W page → in_page l H W M m s ≡ false
    → on_line l page M m s ≡ none
unfolding on_line value_at
off_line l H W M m s page off e =
    out_of_page l H W M m s e (λ (o : Option ℕ). value_at page (major_at l M s) o ≡ none) refl
    (λ m' beside. ⊎_elim (λ h. off.below (major_at l M s) m' h) (λ h. off.beside (major_at l M s) m' h) beside)

module _ (l : Line) (e : Runs l) (H W : ℕ) where
  -- ---- one pass

  module _ (page page' : View) (mirrors : Mirrors H W page page') (M m : ℕ) (h : m < W) where
    abbrev m⁻ : ℕ
    m⁻ = mirrored true W m

    by_page :
        (s : ℕ) (b : Bool) → in_page l H W M m s ≡ b → on_line (flipped l) page' M m⁻ s ≡ on_line l page M m s
    unfolding on_line value_at
    by_page s true i =
        let step = in_page_landing l H W M m s i in
        let lands : landing (flipped l) m⁻ (step_of l M) s ≡ some (mirrored true W step.at) =
        flipped_landing l e W m step.at (step_of l M) s h step.fits step.lands in
        ap₂ (λ (R t : ℕ). value_at page' R (landing (flipped l) m⁻ t s)) (flipped_major_at l e M s) (flipped_step l e M)
        ∙ ap (value_at page' (major_at l M s)) lands
        ∙ mirrors.there (major_at l M s) step.at step.fits
        ∙ sym (ap (value_at page (major_at l M s)) step.lands)
    by_page s false i =
        off_line (flipped l) H W M m⁻ s page' mirrors.off' (flipped_in_page l e H W M m s h ∙ i)
        ∙ sym (off_line l H W M m s page mirrors.off i)

    on_line_lem : (s : ℕ) → on_line (flipped l) page' M m⁻ s ≡ on_line l page M m s
    on_line_lem s = by_page s (in_page l H W M m s) refl

    in_window_lem : (a k : ℕ) → in_window (flipped l) page' a M m⁻ k ≡ in_window l page a M m k
    unfolding in_window
    in_window_lem a k =
        ap (λ (t : ℕ). cond (leb a (t + k)) (on_line (flipped l) page' M m⁻ (t + k - a)) none) (flipped_step l e M)
        ∙ ap (λ (o : Option ℕ). cond (leb a (step_of l M + k)) o none) (on_line_lem (step_of l M + k - a))

    by_value :
        (low : Bool) (a n : ℕ) (o : Option ℕ) → pass_at low (flipped l) a n page' M m⁻ o ≡ pass_at low l a n page M m o
    unfolding pass_at
    by_value low a n none = refl
    by_value low a n (some v) = ap (λ (value : ℕ → Option ℕ). extreme low value 0 n) (fun_ext (in_window_lem a))

    pass_there : (low : Bool) (a n : ℕ) → pass low (flipped l) a n page' M m⁻ ≡ pass low l a n page M m
    unfolding pass
    pass_there low a n = ap (pass_at low (flipped l) a n page' M m⁻) (mirrors.there M m h) ∙ by_value low a n (page M m)

  pass_mirrors :
      (low : Bool) (a n : ℕ) (page page' : View) → Mirrors H W page page'
      → Mirrors H W (pass low l a n page) (pass low (flipped l) a n page')
  pass_mirrors low a n page page' mirrors =
      record {
        off = pass_off low l a n H W page mirrors.off;
        off' = pass_off low (flipped l) a n H W page' mirrors.off';
        there = λ M m h. pass_there page page' mirrors M m h low a n;
      }

  -- ---- the work

  charged_flipped :
      (L a M m : ℕ) → m < W → charged_at (flipped l) H W L a M (mirrored true W m) ≡ charged_at l H W L a M m
  unfolding charged_at
  charged_flipped L a M m h =
      ap₂ (λ (x y : ℕ). charged L a x (suc (x + y))) (flipped_behind l e H W M m h) (flipped_ahead l e H W M m h)

  pass_work_flipped : (L a : ℕ) → pass_work (flipped l) H W L a ≡ pass_work l H W L a
  unfolding pass_work
  pass_work_flipped L a =
      ap (λ (row : ℕ → ℕ). total row 0 H)
      (fun_ext
      (λ M.
      sym (total_mirrored true (charged_at (flipped l) H W L a M) W)
      ∙ total_same (λ (m : ℕ). charged_at (flipped l) H W L a M (mirrored true W m)) (charged_at l H W L a M) 0 W
      (λ m lo hi. charged_flipped L a M m (omega arith))))

-- ---- the four operations

module _ (s : Segment) (e : Runs s.line) where
  module _ (H W : ℕ) where
    eroded_mirrors :
        (page page' : View) → Mirrors H W page page' → Mirrors H W (eroded s page) (eroded (flipped_segment s) page')
    unfolding eroded
    eroded_mirrors page page' mirrors = pass_mirrors s.line e H W true s.origin s.length page page' mirrors

    dilated_mirrors :
        (page page' : View) → Mirrors H W page page' → Mirrors H W (dilated s page) (dilated (flipped_segment s) page')
    unfolding dilated dilation_back
    dilated_mirrors page page' mirrors =
        pass_mirrors s.line e H W false (dilation_back s) s.length page page' mirrors

    pub operated_mirrors :
        (n : Operation) (page page' : View) → Mirrors H W page page'
        → Mirrors H W (operated n s page) (operated n (flipped_segment s) page')
    unfolding operated opened closed
    operated_mirrors Erode page page' mirrors = eroded_mirrors page page' mirrors
    operated_mirrors Dilate page page' mirrors = dilated_mirrors page page' mirrors
    operated_mirrors Open page page' mirrors = dilated_mirrors _ _ (eroded_mirrors page page' mirrors)
    operated_mirrors Close page page' mirrors = eroded_mirrors _ _ (dilated_mirrors page page' mirrors)

  pub steep_same : runs_steep (flipped s.line) ≡ runs_steep s.line
  unfolding runs_steep
  steep_same = flipped_steep s.line e

  pub work_flipped : (n : Operation) (w h : ℕ) → work_of n (flipped_segment s) w h ≡ work_of n s w h
  unfolding work_of erosion_work dilation_work dilation_back
  work_flipped n w h = by n
    where
      same : (a : ℕ)
          → pass_work (flipped s.line) (cond (runs_steep (flipped s.line)) h w)
          (cond (runs_steep (flipped s.line)) w h) s.length a
          ≡ pass_work s.line (cond (runs_steep s.line) h w) (cond (runs_steep s.line) w h) s.length a
      same a =
          ap (λ (b : Bool). pass_work (flipped s.line) (cond b h w) (cond b w h) s.length a) steep_same
          ∙ pass_work_flipped s.line e (cond (runs_steep s.line) h w) (cond (runs_steep s.line) w h)
          s.length
          a

      by : (n : Operation) → work_of n (flipped_segment s) w h ≡ work_of n s w h
      by Erode = same s.origin
      by Dilate = same (s.length - 1 - s.origin)
      by Open = ap₂ ◌+◌ (same s.origin) (same (s.length - 1 - s.origin))
      by Close = ap₂ ◌+◌ (same (s.length - 1 - s.origin)) (same s.origin)
