-- The numbers of a pixel from a line's tables.
-- Assumes nothing.
use mathlib.Core.Path.{◌≡◌, sym, ap, ap₂, ◌∙◌}
use mathlib.Core.Bool.{Bool, true, false, cond}
use mathlib.Core.List.{List}
use Prim.Native.Nat.{ℕ, suc, ◌+◌, ◌*◌, ◌-◌, ◌%◌, ◌≤◌, ◌<◌}
use native.Mathlib.Omega.{arith}
use lib.ListN.{length, get_or}
use Rattle.vectors.specs.Vector.{major_of}
use Rattle.geometry.specs.Line.{period, step_of, major_at}
use Rattle.geometry.specs.Number.{in_page, behind, ahead}
use Rattle.geometry.specs.Drift.{Sound, Inside, falls, drift, mirrored, reach}
use Rattle.geometry.specs.Tables.{OnPage, OnLine, Entries, Walks, LastStep}
use Rattle.geometry.proofs.Laws.Numbering.{untrue}
use Rattle.geometry.proofs.Laws.{drift_low, step_low, drift_rises, mirrored_below, major_at_step, major_beyond}
use Rattle.geometry.proofs.Laws.{period_forward, inside, inside_in_page, behind_reach_of, reach_by, ahead_is}
use Rattle.geometry.proofs.Laws.{major_near}
use Rattle.geometry.specs.declared.Line.{Line}

-- a place that the code has computed by whether it found the line to fall
pub place_found : (l : Line) (W m : ℕ) (f : Bool) (x : ℕ) → f ≡ falls l → x ≡ mirrored f W m
    → x ≡ mirrored (falls l) W m
place_found l W m f x e h = h ∙ ap (λ (b : Bool). mirrored b W m) e

-- A pixel at (M, m) of a page with the sides H and W, on a line whose profile is tabled for the whole side. The code
-- has computed its step t and its place x in normal form.
module _ {l : Line} {H W M m : ℕ} {profile : List ℕ} (o : OnLine l H W M m profile) (t : ℕ) (et : t ≡ step_of l M) where
  h : Sound l
  h = o.allowed.sound

  on : OnPage H W M m
  on = o.on_page_lem

  pub step_tabled : t < length profile
  step_tabled = omega (arith, step_low l h M, on.M_below, o.room)

  drift_here : get_or profile t 0 ≡ drift l t
  drift_here = o.tabled.entry t step_tabled

  drift_own : drift l t ≡ drift l (step_of l M)
  drift_own = ap (drift l) et

  pub drift_near : get_or profile t 0 < H
  drift_near = omega (arith, drift_here, drift_own, drift_low l h M, on.M_below)

  module _ (x : ℕ) (ex : x ≡ mirrored (falls l) W m) where
    pub place_below : x < W
    place_below = omega (arith, ex, mirrored_below (falls l) W m on.m_below)

    -- how many pixels come before it, from the reach of what its line was missing
    module _ {table : List ℕ} (entries : Entries l H (length profile) table)
        (v : ℕ) (ev : v ≡ get_or profile t 0 - x) where
      pub missing_tabled : v < length table
      missing_tabled = omega (arith, drift_near, entries.room)

      missed : v ≤ drift l t
      missed = omega (arith, drift_here)

      entered : get_or table v 0 ≡ reach l v (length profile)
      entered = entries.reaches.entry v missing_tabled

      pub reach_below : get_or table v 0 ≤ t
      reach_below = omega (arith, entered, reach_by l v (length profile) t missed)

      pub behind_is : t - get_or table v 0 ≡ behind l H W M m
      behind_is =
          let exact : v ≡ drift l (step_of l M) - mirrored (falls l) W m =
          ev ∙ ap₂ (λ (d y : ℕ). d - y) (drift_here ∙ drift_own) ex in
          ap₂ (λ (s r : ℕ). s - r) et (entered ∙ ap (λ (u : ℕ). reach l u (length profile)) exact)
          ∙ sym (behind_reach_of l h H W M m (length profile) on.M_below on.m_below (omega (arith, step_tabled)))

    -- how many come after it, from the last step in the page
    module _ (p : ℕ) (ep : p ≡ period l) where
      abbrev limit : ℕ
      limit = W + get_or profile t 0 - x

      place_is : (s : ℕ) → M % p + s * p ≡ major_at l M s
      unfolding major_at
      place_is s = ap (λ (q : ℕ). M % q + s * q) ep

      p_near : p ≤ 255
      unfolding period
      p_near = omega (arith, ep, go l.periodic)
        where
          go : (b : Bool) → cond b (major_of l.dx l.dy) 1 ≤ 255
          go true = major_near l o.allowed
          go false = omega arith

      pub walks : Walks profile limit (M % p) p t H
      walks =
          record {
            H_near = on.H_near;
            p_near = p_near;
            tabled = o.room;
            forward = omega (arith, period_forward l h);
            long = omega (arith, place_is t, ap (major_at l M) et, major_at_step l h M, on.M_below);
            low = omega (arith, place_below);
          }

      module _ (s : ℕ) (last : LastStep profile limit (M % p) p t H s) where
        in_time : s < length profile
        in_time = omega (arith, place_is s, major_beyond l h M s, last.long, o.room)

        stays : in_page l H W M m s ≡ true
        stays =
            inside_in_page l h H W M m s on.m_below
            (record {
              long = omega (arith, place_is s, last.long);
              low = omega (arith, drift_own, drift_rises l h last.on);
              high = omega (arith, ex, place_below, drift_own, drift_here, o.tabled.entry s in_time, last.low);
            })

        leaves : in_page l H W M m (suc s) ≡ true → ⊥
        leaves e =
            let there : Inside l H W M (mirrored (falls l) W m) (suc s) = inside l h H W M m (suc s) on.m_below e in
            let long : M % p + suc s * p < H = omega (arith, place_is (suc s), there.long) in
            let late : suc s < length profile = omega (arith, major_beyond l h M (suc s), there.long, o.room) in
            omega (
              arith,
              ex,
              place_below,
              drift_own,
              drift_here,
              o.tabled.entry (suc s) late,
              there.high,
              last.leaves long,
            )

        pub ahead_is_left : s - t ≡ ahead l H W M m
        ahead_is_left =
            let end : s ≡ step_of l M + ahead l H W M m =
            ahead_is l h H W M m on.M_below on.m_below s (omega (arith, last.on)) stays (untrue _ leaves) in
            omega arith
