-- The numbers from which the code finds a place of the row: they are small enough to compute with, and they are the
-- places that the row is to have.
-- Assumes nothing.
use mathlib.Core.Path.{◌≡◌, refl, sym, ap, ap₂, ◌∙◌}
use mathlib.Core.Bool.{Bool, true, false}
use mathlib.Core.Option.{Option}
use mathlib.Core.Logic.{⊎_elim, by_cases}
use mathlib.Core.List.{List}
use Prim.Native.Nat.{ℕ, ◌+◌, ◌*◌, ◌-◌, ◌%◌, ◌≤◌, ◌<◌, min}
use native.Mathlib.Decide.{dec_le, dec_lt}
use native.Mathlib.Nat.{mod-le, mul-le-mul}
use native.Mathlib.Omega.{arith}
use lib.ListN.{length, get_or}
use Rattle.geometry.specs.Line.{period, step_of, major_at}
use Rattle.geometry.specs.Number.{in_page}
use Rattle.geometry.specs.Drift.{Allowed, Inside, Sound, drift, falls, mirrored}
use Rattle.geometry.proofs.Laws.{drift_bound, inside, inside_in_page, lands, major_beyond, major_is, major_near}
use Rattle.geometry.proofs.Laws.{mirrored_below, mirrored_twice, not_in_page, out_of_page, period_connected}
use Rattle.geometry.proofs.Laws.{period_forward, period_periodic, step_low}
use Rattle.geometry.specs.declared.Line.{Line}
use Rattle.nearby.specs.Stand.{step_in, major_in, landed, minor_in}
use Rattle.nearby.specs.Promises.{Stands, Tabled}
use Rattle.nearby.specs.Laws.{OnMajor, landed_none, landed_on, landed_past, major_before, major_on, major_past}
use Rattle.nearby.specs.Laws.{minor_is, on_major}
use Rattle.nearby.specs.declared.Standing.{Standing}

-- a place is on the page's side, or at its end
pub major_most : (s : Standing) (i : ℕ) → major_in s i ≤ s.high
major_most s i =
    by_cases (dec_le s.reach (step_of s.line s.major + i))
    (λ after.
    by_cases (dec_lt (major_at s.line s.major (step_in s i)) s.high)
    (λ low. omega (arith, low, major_on s i after low))
    (λ past. omega (arith, major_past s i after (omega arith))))
    (λ before. omega (arith, major_before s i (omega arith)))

period_near : (l : Line) → Allowed l → period l ≤ 255
period_near l ok = by_kind l.periodic refl
  where
    by_kind : (b : Bool) → l.periodic ≡ b → period l ≤ 255
    by_kind true e = omega (arith, period_periodic l e, major_near l ok)
    by_kind false e = omega (arith, period_connected l e)

-- ---- along the line

-- the code looks for place i of the row, and has found the step t at which the pixel stands
pub record Stepped (s : Standing) (i t : ℕ) : Type 0 where
  pub stands : Stands s
  pub near : i < 16383
  pub step : t ≡ step_of s.line s.major

pub stepped : {s : Standing} {i t : ℕ} → Stands s → i < 16383 → t ≡ step_of s.line s.major → Stepped s i t
stepped stands near step = record { stands = stands; near = near; step = step }

module _ {s : Standing} {i t : ℕ} (k : Stepped s i t) where
  sound : Sound s.line
  sound = k.stands.allowed.sound

  pub step_near : t < s.high
  step_near = omega (arith, k.step, step_low s.line sound s.major, k.stands.major_in_lem)

  -- and how far a step goes
  module _ (p : ℕ) (p-is : p ≡ period s.line) where
    pub period_some : 0 < p
    period_some = omega (arith, period_forward s.line sound)

    pub start_near : s.major % p < 8192
    start_near = omega (arith, mod-le s.major p, k.stands.major_in_lem, k.stands.high_near)

    pub way_near : (t + i - s.reach) * p ≤ 24575 * 255
    way_near =
        let steps : t + i - s.reach ≤ 24575 = omega (arith, step_near, k.near, k.stands.high_near) in
        let far : p ≤ 255 = omega (arith, period_near s.line k.stands.allowed) in
        mul-le-mul steps far

    pub place_is : s.major % p + (t + i - s.reach) * p ≡ major_at s.line s.major (step_in s i)
    unfolding step_in
    place_is =
        ap₂ (λ (q n : ℕ). s.major % q + (n + i - s.reach) * q) p-is k.step
        ∙ sym (major_is s.line s.major (step_in s i))

    -- beyond the page it is the side's end
    pub place_low : s.reach ≤ t + i → min (s.major % p + (t + i - s.reach) * p) s.high ≡ major_in s i
    place_low after =
        let here : s.reach ≤ step_of s.line s.major + i = omega (arith, after, k.step) in
        by_cases (dec_lt (s.major % p + (t + i - s.reach) * p) s.high)
        (λ low. omega (arith, place_is, major_on s i here (omega (arith, place_is, low))))
        (λ past. omega (arith, place_is, major_past s i here (omega (arith, place_is, past))))

-- ---- across the line

-- the place is on the page along the line, so the drift of its step is tabled
pub record Charted (s : Standing) (profile : List ℕ) (i t : ℕ) : Type 0 where
  pub stepped : Stepped s i t
  pub table : Tabled s profile
  pub low : major_in s i < s.high

pub charted :
    {s : Standing} {profile : List ℕ} {i t : ℕ} → Stands s → Tabled s profile → (i < 16383) × (major_in s i < s.high)
    → t ≡ step_of s.line s.major → Charted s profile i t
charted stands table at step =
    record { stepped = stepped stands at.0 step; table = table; low = at.1 }

module _ {s : Standing} {profile : List ℕ} {i t : ℕ} (k : Charted s profile i t) where
  abbrev step : ℕ
  step = t + i - s.reach

  stands : Stands s
  stands = k.stepped.stands

  on : OnMajor s i
  on = on_major s i k.low

  step_is : step ≡ step_in s i
  unfolding step_in
  step_is = ap (λ (n : ℕ). n + i - s.reach) k.stepped.step

  pub begun : s.reach ≤ t + i
  begun = omega (arith, k.stepped.step, on.after)

  pub step_tabled : t + i - s.reach < length profile
  step_tabled =
      omega (
        arith,
        step_is,
        major_beyond s.line stands.allowed.sound s.major (step_in s i),
        on.low,
        k.table.room,
      )

  pub own_tabled : t < length profile
  own_tabled = omega (arith, step_near k.stepped, k.table.room)

  drift_there : get_or profile step 0 ≡ drift s.line (step_in s i)
  drift_there = k.table.tabled.entry step step_tabled ∙ ap (drift s.line) step_is

  drift_own : get_or profile t 0 ≡ drift s.line (step_of s.line s.major)
  drift_own = k.table.tabled.entry t own_tabled ∙ ap (drift s.line) k.stepped.step

  -- no line drifts faster than it goes forward
  pub drift_near : get_or profile (t + i - s.reach) 0 < 8192
  drift_near =
      omega (
        arith,
        drift_there,
        drift_bound s.line stands.allowed.sound (step_in s i),
        major_is s.line s.major (step_in s i),
        on.low,
        stands.high_near,
      )

  -- the code has found the pixel's place x in normal form
  module _ (falling : Bool) (falling-is : falling ≡ falls s.line) (x : ℕ)
      (x-is : x ≡ mirrored falling s.wide s.minor) where
    abbrev up : ℕ
    up = x + get_or profile step 0

    abbrev from : ℕ
    from = get_or profile t 0

    here : x ≡ mirrored (falls s.line) s.wide s.minor
    here = x-is ∙ ap (λ (b : Bool). mirrored b s.wide s.minor) falling-is

    pub x_near : x < 8192
    x_near =
        omega (arith, here, mirrored_below (falls s.line) s.wide s.minor stands.minor_in_lem, stands.wide_near)

    abbrev InStep : Type 0
    InStep = in_page s.line s.high s.wide s.major s.minor (step_in s i) ≡ true

    -- a step that is not in the page is at the side's end
    off_side : (InStep → ⊥) → s.wide ≡ minor_in s i
    off_side out =
        sym
        (minor_is s i
        ∙ out_of_page s.line s.high s.wide s.major s.minor (step_in s i)
        (not_in_page s.line s.high s.wide s.major s.minor (step_in s i) out)
        (λ (o : Option ℕ). landed s.wide o ≡ s.wide)
        (landed_none s.wide)
        (λ m past. landed_past s.wide m (⊎_elim (λ h. absurd (omega (arith, on.low))) (λ h. h) past)))

    inside_here :
        InStep
        → Inside s.line s.high s.wide s.major (mirrored (falls s.line) s.wide s.minor) (step_in s i)
    inside_here e =
        inside s.line stands.allowed.sound s.high s.wide s.major s.minor (step_in s i)
        stands.minor_in_lem e

    pub before_side : x + get_or profile (t + i - s.reach) 0 < get_or profile t 0 → s.wide ≡ minor_in s i
    before_side h = off_side (λ e. omega (arith, (inside_here e).low, here, drift_there, drift_own))

    pub past_side :
        get_or profile t 0 ≤ x + get_or profile (t + i - s.reach) 0
        → s.wide ≤ x + get_or profile (t + i - s.reach) 0 - get_or profile t 0 → s.wide ≡ minor_in s i
    past_side h j = off_side (λ e. omega (arith, (inside_here e).high, here, drift_there, drift_own))

    pub on_side_lem :
        get_or profile t 0 ≤ x + get_or profile (t + i - s.reach) 0
        → x + get_or profile (t + i - s.reach) 0 - get_or profile t 0 < s.wide
        → mirrored falling s.wide (x + get_or profile (t + i - s.reach) 0 - get_or profile t 0) ≡ minor_in s i
    on_side_lem h j =
        let stays : InStep =
        inside_in_page s.line stands.allowed.sound s.high s.wide s.major s.minor (step_in s i)
        stands.minor_in_lem
        (record {
          long = on.low;
          low = omega (arith, here, drift_there, drift_own);
          high = omega (arith, here, drift_there, drift_own);
        }) in
        let there =
        lands s.line stands.allowed.sound s.high s.wide s.major s.minor (step_in s i)
        stands.minor_in_lem stays in
        let moved : up - from ≡ mirrored (falls s.line) s.wide there.at =
        omega (arith, there.moved, here, drift_there, drift_own) in
        ap₂ (λ (b : Bool) (n : ℕ). mirrored b s.wide n) falling-is moved
        ∙ mirrored_twice (falls s.line) s.wide there.at there.fits
        ∙ sym (minor_is s i ∙ ap (landed s.wide) there.lands ∙ landed_on s.wide there.at there.fits)
