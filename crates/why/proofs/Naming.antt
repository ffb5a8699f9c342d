-- The hit that is found in the row of the values near a pixel is the reason: the pixels of its two places are those
-- that are named.
-- Assumes nothing.
use mathlib.Core.Path.{◌≡◌, sym, ap, ap₂, ◌∙◌}
use mathlib.Core.Bool.{Bool}
use mathlib.Core.Option.{Option, some}
use Prim.Native.Nat.{ℕ, ◌+◌, ◌-◌, ◌≤◌}
use native.Mathlib.Nat.{add-zero}
use native.Mathlib.Omega.{arith}
use Rattle.geometry.specs.Drift.{Sound, first}
use Rattle.geometry.specs.Line.{landing, step_of, major_at}
use Rattle.geometry.proofs.Laws.{own_landing, major_at_step, major_of_major, step_of_major, landing_onward}
use Rattle.geometry.specs.declared.Line.{Line}
use Rattle.tray.specs.Turned.{down_of, across_of}
use Rattle.filter.specs.Seen.{View, runs_steep}
use Rattle.filter.specs.Axes.{down_back, across_back}
use Rattle.filter.specs.Engine.{Absent}
use Rattle.filter.specs.Filters.{in_window}
use Rattle.finding.proofs.Laws.{first_shifted}
use Rattle.nearby.specs.Stand.{standing_of, step_in, major_in, minor_in, pixel_by, pixel_in, near_at}
use Rattle.nearby.specs.Laws.{There, pixel_there}
use Rattle.nearby.specs.declared.Pixel.{Pixel}
use Rattle.nearby.specs.declared.Standing.{Standing}
use Rattle.why.specs.Reason.{has, first_with, place_of, pixel_at, named}
use Rattle.why.proofs.Passes.{window_of}

module _ (l : Line) (sound : Sound l) (reach width height : ℕ) (at : Pixel) (page : View) where
  abbrev s : Standing
  s = standing_of l reach width height at

  abbrev steep : Bool
  steep = runs_steep l

  abbrev M : ℕ
  M = down_of steep at.column at.row

  abbrev m : ℕ
  m = across_of steep at.column at.row

  abbrev near : ℕ → Option ℕ
  near i = in_window l page reach M m i

  -- the pixel of a step is the same for every pixel of the line
  same_pixel :
      (x m' r : ℕ) → landing l m (step_of l M) x ≡ some m' → pixel_at l (major_at l M x) m' r ≡ pixel_at l M m r
  unfolding pixel_at
  same_pixel x m' r there =
      ap₂ {C = Pixel} (λ (R q : ℕ). record { column = down_of steep R q; row = across_of steep R q })
      (major_of_major l sound M x r)
      (ap (λ (q : ℕ). place_of (landing l m' q r)) (step_of_major l sound M x)
      ∙ ap place_of (landing_onward l m (step_of l M) x r m' there))

  -- the pixel itself stands at its own step
  pub own_pixel : pixel_at l M m (step_of l M) ≡ at
  unfolding pixel_at place_of
  own_pixel =
      ap₂ {C = Pixel} (λ (R q : ℕ). record { column = down_of steep R q; row = across_of steep R q })
      (major_at_step l sound M) (ap place_of (own_landing l M m))
      ∙ ap₂ {C = Pixel} (λ (c r : ℕ). record { column = c; row = r })
      (down_back steep at.column at.row) (across_back steep at.column at.row)

  module _ (off : Absent s.high s.wide page) where
    there_at : (i v : ℕ) → near i ≡ some v → There s page i v
    unfolding standing_of near_at
    there_at i v e = pixel_there s page i v off e

    -- a place of the row that is there has the pixel of its step
    pub place_pixel : (i v : ℕ) → near i ≡ some v → pixel_at l M m (step_of l M + i - reach) ≡ pixel_in s i
    unfolding standing_of step_in pixel_at place_of pixel_by
    place_pixel i v e =
        let there = there_at i v e in
        ap₂ {C = Pixel} (λ (R q : ℕ). record { column = down_of steep R q; row = across_of steep R q })
        (sym there.major_is) (ap place_of there.lands)
        ∙ sym there.pixel_is

    -- in the window of the pixel at place i, the first step that has w stands at place j
    pub named_from :
        (a n w i v j v' : ℕ) → a ≤ i → near i ≡ some v → j ≡ first (λ q. has w (near q)) (i - a) n → near j ≡ some v'
        → named l page a n w (pixel_in s i) ≡ pixel_in s j
    unfolding standing_of step_in pixel_by named first_with
    named_from a n w i v j v' inside here is-first hit =
        let there = there_at i v here in
        let x : ℕ = step_of l M + i - reach in
        let m' : ℕ = minor_in s i in
        let by : ℕ → ℕ → Pixel = λ (R r : ℕ). pixel_at l R r (step_of l R + first_with l page a n w R r - a) in
        let k : ℕ = first_with l page a n w (major_at l M x) m' in
        let after : reach ≤ step_of l M + i = there.after in
        let j_is : i - a + k ≡ j =
        first_shifted _ (λ q. has w (near q)) (i - a) 0 n
        (λ q from to. ap (has w) (window_of l sound page reach M m i m' after there.lands a q inside))
        ∙ ap (λ (q : ℕ). first (λ r. has w (near r)) q n) (add-zero (i - a))
        ∙ sym is-first
        in
        let major : down_of steep (pixel_in s i).column (pixel_in s i).row ≡ major_at l M x =
        ap (λ (q : Pixel). down_of steep q.column q.row) there.pixel_is
        ∙ down_back steep (major_in s i) m'
        ∙ there.major_is
        in
        let minor : across_of steep (pixel_in s i).column (pixel_in s i).row ≡ m' =
        ap (λ (q : Pixel). across_of steep q.column q.row) there.pixel_is ∙ across_back steep (major_in s i) m'
        in
        let step : x + k - a ≡ step_of l M + j - reach = omega arith in
        ap₂ by major minor
        ∙ ap (λ (q : ℕ). pixel_at l (major_at l M x) m' (q + k - a)) (step_of_major l sound M x)
        ∙ same_pixel x m' (x + k - a) there.lands
        ∙ ap (pixel_at l M m) step
        ∙ place_pixel j v' hit

    -- in the window of the pixel itself, in another page, too
    pub named_own :
        (other : View) (a b n w i v : ℕ) → a + b ≡ reach → i ≡ a + first_with l other b n w M m → near i ≡ some v
        → named l other b n w at ≡ pixel_in s i
    unfolding named
    named_own other a b n w i v whole is-first here =
        let step : step_of l M + first_with l other b n w M m - b ≡ step_of l M + i - reach = omega arith in
        ap (pixel_at l M m) step ∙ place_pixel i v here
