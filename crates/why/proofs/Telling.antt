-- What the row of the values near an unhidden pixel tells is the reason. Assumes nothing.
use mathlib.Core.Path.{◌≡◌, refl, sym, ap, ap₂, ◌∙◌}
use mathlib.Core.Bool.{Bool, true, false, not, cond}
use mathlib.Core.List.{List}
use mathlib.Core.Option.{Option, none, some, none-ne-some}
use Prim.Native.Nat.{ℕ, suc, ◌+◌, ◌-◌, ◌≤◌, ◌<◌}
use Rattle.std.specs.Prelude.{Some, IsSome, is_some, Option as Value}
use native.Mathlib.Nat.{add-zero}
use native.Mathlib.Omega.{arith}
use lib.ListN.{length, get_or}
use Rattle.geometry.specs.Drift.{Sound, first}
use Rattle.geometry.specs.Line.{step_of}
use Rattle.geometry.specs.declared.Line.{Line}
use Rattle.ticket.specs.declared.Ticket.{Ticket}
use Rattle.boxes.specs.Boxes.{hidden, boxes_of}
use Rattle.placement.specs.Placement as placement
use Rattle.placement.specs.declared.Placement.{Placement}
use Rattle.tray.specs.Turned.{down_of, across_of}
use Rattle.filter.specs.Seen.{View, seen, runs_steep}
use Rattle.filter.specs.Axes.{turned_is, turned_back}
use Rattle.filter.specs.Engine.{Absent, back_of}
use Rattle.filter.specs.Filters.{joined, extreme, in_window, pass, operated, filtered, or_white}
use Rattle.filter.proofs.Laws.{extreme_shifted, pass_there, pass_some, own_value}
use Rattle.filter.proofs.Absence.{seen_shown, absent_turned}
use Rattle.job.specs.Order.{line_of, segment_of, white}
use Rattle.job.specs.Job.{finished}
use Rattle.job.specs.Laws.{finished_is, line_sound}
use Rattle.finding.specs.Row.{absent, value_of, pass_at_place, pass_in, result_of, first_pass, through_of, from_of}
use Rattle.finding.specs.Row.{hit_with, hit_of}
use Rattle.finding.specs.Promises.{Lies, Fits}
use Rattle.finding.proofs.Laws.{value_some, fits_lies, first_shifted, IsHit, hit_is}
use Rattle.finding.specs.declared.Hit.{Hit}
use Rattle.finding.specs.declared.Search.{Search}
use Rattle.nearby.specs.Stand.{standing_of, pixel_in, near_at}
use Rattle.nearby.specs.Promises.{RowNear}
use Rattle.nearby.specs.declared.Pixel.{Pixel}
use Rattle.nearby.specs.declared.Standing.{Standing}
use Rattle.why.specs.Reason.{starts_low, passes_twice, has, first_with, pixel_at, named, by_one_pass, by_two_passes}
use Rattle.why.specs.Reason.{seen_by, by_steps, one_pass, two_passes}
use Rattle.why.specs.Promises.{Asked, search_of, reason_in}
use Rattle.why.specs.declared.Reason.{Reason}
use Rattle.why.proofs.Passes.{window_at, first_row}
use Rattle.why.proofs.Rows.{pass_same, result_same, through_same, from_same}
use Rattle.why.proofs.Ordered.{first_is, once_is, twice_is, backs_whole}
use Rattle.why.proofs.Naming.{place_pixel, own_pixel, named_from, named_own}

-- a pixel that a pass leaves there was there
pass_there_of :
    (low : Bool) (a n : ℕ) (value : ℕ → Option ℕ) (i : ℕ) (o : Option ℕ) → value i ≡ o → {w : ℕ}
    → pass_in low a n value i ≡ some w → (v : ℕ) × (value i ≡ some v)
unfolding pass_in pass_at_place
pass_there_of low a n value i none e {w} gives =
    absurd (none-ne-some w (sym (ap (pass_at_place low a n value i) e) ∙ gives))
pass_there_of low a n value i (some v) e gives = (v, e)

-- the extreme of one value
extreme_one : (low : Bool) (value : ℕ → Option ℕ) (k w : ℕ) → value k ≡ some w → extreme low value k 1 ≡ some w
unfolding extreme joined
extreme_one low value k w e = ap (λ (o : Option ℕ). joined low o none) e

module _ (t : Ticket) (p : Placement) (tray : List ℕ) (at : Pixel) (asked : Asked t p (length tray) at) where
  abbrev l : Line
  l = line_of t

  abbrev steep : Bool
  steep = runs_steep l

  abbrev M : ℕ
  M = down_of steep at.column at.row

  abbrev m : ℕ
  m = across_of steep at.column at.row

  abbrev page : View
  page = seen_by t p tray

  abbrev reach : ℕ
  reach = t.length - 1

  abbrev low : Bool
  low = starts_low t.operation

  abbrev back : ℕ
  back = back_of (segment_of t) low

  abbrev other : ℕ
  other = back_of (segment_of t) (not low)

  abbrev result : ℕ
  result = finished t p tray at.column at.row

  abbrev standing : Standing
  standing = standing_of l reach p.width p.height at

  abbrev near : ℕ → Option ℕ
  near i = in_window l page reach M m i

  sound : Sound l
  sound = line_sound t asked.ticket

  whole : suc (back + other) ≡ t.length
  unfolding segment_of
  whole = backs_whole (segment_of t) low asked.ticket.origin_below

  absent_off : Absent standing.high standing.wide page
  unfolding standing_of seen_by
  absent_off = absent_turned (boxes_of t) p.width p.height (placement.pixel_in tray p) steep

  -- ---- the passes at the pixel

  abbrev first_page : View
  first_page = pass low l back t.length page

  -- what the first pass makes of each place of the row
  abbrev passed : ℕ → Option ℕ
  passed = pass_in low back t.length near

  passed_is : (i : ℕ) → back ≤ i → in_window l first_page reach M m i ≡ passed i
  passed_is i inside = first_row l sound page reach M m low back t.length i inside

  -- the second window in the row
  second_is : (k : ℕ) → in_window l first_page other M m k ≡ passed (back + k)
  second_is k =
      window_at l first_page reach M m (back + k) other k (omega (arith, whole)) (omega (arith, whole))
      ∙ passed_is (back + k) (omega arith)

  module _ (shows : hidden (boxes_of t) at.column at.row ≡ false) where
    own_there : page M m ≡ some (placement.pixel_in tray p at.column at.row)
    unfolding seen_by
    own_there =
        turned_back steep (seen (boxes_of t) p.width p.height (placement.pixel_in tray p)) at.column at.row
        ∙ seen_shown (boxes_of t) p.width p.height (placement.pixel_in tray p) at.column at.row
        asked.column_in asked.row_in shows

    first_there : (w : ℕ) × (first_page M m ≡ some w)
    first_there = pass_some l sound low back t.length (omega (arith, whole)) page M m _ own_there

    -- the finished page has what the operation makes of the pixel
    result_is : (v : ℕ) → operated t.operation (segment_of t) page M m ≡ some v → result ≡ v
    unfolding filtered or_white segment_of seen_by
    result_is v e =
        finished_is white t p tray at.column at.row
        ∙ ap (or_white white)
        (turned_is steep (operated t.operation (segment_of t) page) at.column at.row ∙ e)

    once_result : passes_twice t.operation ≡ false → first_page M m ≡ some result
    unfolding segment_of
    once_result once =
        let passes =
        once_is (segment_of t) page t.operation once
        ∙ first_is (segment_of t) page t.operation
        in
        let is = ap (λ (f : View). f M m) passes ∙ first_there.1 in
        first_there.1 ∙ ap {B = Option ℕ} some (sym (result_is first_there.0 is))

    twice_result :
        passes_twice t.operation ≡ true → pass (not low) l other t.length first_page M m ≡ some result
    unfolding segment_of
    twice_result twice =
        let passes =
        twice_is (segment_of t) page t.operation twice
        ∙ ap (pass (not low) l other t.length) (first_is (segment_of t) page t.operation)
        in
        let second =
        pass_some l sound (not low) other t.length (omega (arith, whole)) first_page M m _ first_there.1 in
        let is = ap (λ (f : View). f M m) passes ∙ second.1 in
        second.1 ∙ ap {B = Option ℕ} some (sym (result_is second.0 is))

    -- ---- the row

    module _ (row : List (Value ℕ)) (filled : RowNear t standing p tray row)
        (places : suc (length row) ≡ t.length + t.length) where
      same : (i : ℕ) → i < length row → get_or row i absent ≡ value_of (near i)
      unfolding standing_of seen_by near_at
      same i within = filled.near i within

      -- a search for the first windows, at whichever places
      module _ (from steps : ℕ) where
        abbrev looked : Search
        looked = record { low = low; back = back; length = t.length; from = from; steps = steps }

        -- where the result is found, the hit is a place that is there, and its window has one that is named
        module _ (fits : Fits looked (length row)) (found : result_of looked row ≡ Some result) where
          abbrev i : ℕ
          i = through_of looked row (Some result)

          abbrev j : ℕ
          j = from_of looked row (Some result) i

          hit : IsHit looked row (Some result) (hit_with looked row (Some result))
          hit = hit_is looked row result found

          lies : Lies looked (length row) i
          unfolding hit_with
          lies = fits_lies looked (length row) i fits hit.through_from hit.through_to

          gives : passed i ≡ some result
          unfolding hit_with first_pass
          gives =
              sym (pass_same looked row near same i lies)
              ∙ value_some _ result hit.gives

          through_there : (v : ℕ) × (near i ≡ some v)
          through_there = pass_there_of low back t.length near i (near i) refl gives

          from_there : near j ≡ some result
          unfolding hit_with
          from_there =
              value_some (near j) result
              (sym (same j (omega (arith, lies.begins, lies.ends, hit.from_to))) ∙ hit.there)

          from_named : named l page back t.length result (pixel_in standing i) ≡ pixel_in standing j
          from_named =
              named_from l sound reach p.width p.height at page absent_off back t.length result i
              through_there.0 j result lies.begins through_there.1
              (from_same looked row near same result i lies) from_there

      -- ---- one pass: the place of the pixel alone

      fits_once : Fits (looked reach 1) (length row)
      fits_once =
          record {
            begins = omega (arith, whole);
            ends = omega (arith, whole);
            inside = omega (arith, whole);
          }

      fits_twice : Fits (looked back t.length) (length row)
      fits_twice =
          record {
            begins = omega (arith, whole);
            ends = omega (arith, whole);
            inside = omega (arith, whole);
          }

      found_once : passes_twice t.operation ≡ false → result_of (looked reach 1) row ≡ Some result
      unfolding value_of
      found_once once =
          let own : passed reach ≡ some result =
          sym (passed_is reach (omega (arith, whole)))
          ∙ own_value l sound first_page reach M m
          ∙ once_result once
          in
          result_same (looked reach 1) row near same fits_once
          ∙ ap value_of (extreme_one (not low) passed reach result own)

      found_twice : passes_twice t.operation ≡ true → result_of (looked back t.length) row ≡ Some result
      unfolding value_of
      found_twice twice =
          result_same (looked back t.length) row near same fits_twice
          ∙ ap value_of
          (ap (λ (q : ℕ). extreme (not low) passed q t.length) (sym (add-zero back))
          ∙ sym
          (extreme_shifted (not low) (in_window l first_page other M m) passed back 0 t.length
          (λ k from to. second_is k))
          ∙ sym (pass_there (not low) l other t.length first_page M m _ first_there.1)
          ∙ twice_result twice)

      -- the second window's first step that gives the result
      through_twice :
          (twice : passes_twice t.operation ≡ true)
          → named l first_page other t.length result at
          ≡ pixel_in standing (i back t.length fits_twice (found_twice twice))
      unfolding first_with
      through_twice twice =
          let found = found_twice twice in
          let is-first =
          through_same (looked back t.length) row near same fits_twice result
          ∙ ap (λ (q : ℕ). first (λ r. has result (passed r)) q t.length) (sym (add-zero back))
          ∙ sym
          (first_shifted _ (λ r. has result (passed r)) back 0 t.length (λ k from to. ap (has result) (second_is k)))
          in
          named_own l sound reach p.width p.height at page absent_off first_page back other t.length result
          (i back t.length fits_twice found) (through_there back t.length fits_twice found).0
          (omega (arith, whole)) is-first
          (through_there back t.length fits_twice found).1

      -- the pixel itself
      through_once :
          (once : passes_twice t.operation ≡ false)
          → pixel_in standing (i reach 1 fits_once (found_once once)) ≡ at
      unfolding hit_with
      through_once once =
          let found = found_once once in
          let place : ℕ = i reach 1 fits_once found in
          let h = hit reach 1 fits_once found in
          let own : step_of l M + place - reach ≡ step_of l M = omega (arith, h.through_from, h.through_to) in
          sym
          (place_pixel l sound reach p.width p.height at page absent_off place
          (through_there reach 1 fits_once found).0 (through_there reach 1 fits_once found).1)
          ∙ ap (λ (q : ℕ). pixel_at l M m q) own
          ∙ own_pixel l sound reach p.width p.height at page

      -- ---- the reason

      -- what a hit tells, and two pixels
      abbrev told_as : ℕ → Hit → Reason
      told_as kind h =
          record {
            kind = kind;
            number = 0;
            phase = t.phase;
            through = pixel_in standing h.through;
            from = pixel_in standing h.from;
          }

      abbrev pixels_as : ℕ → Pixel → Pixel → Reason
      pixels_as kind through from = record { kind = kind; number = 0; phase = t.phase; through = through; from = from }

      -- what is told, by whether a second pass follows
      abbrev told_by : Bool → Reason
      told_by b = told_as (cond b two_passes one_pass) (hit_of (looked (cond b back reach) (cond b t.length 1)) row)

      by_once : passes_twice t.operation ≡ false
          → told_by false ≡ by_one_pass t.operation (segment_of t) page result at
      unfolding by_one_pass segment_of line_of hit_of hit_with
      by_once once =
          let found = found_once once in
          let through = through_once once in
          let from = sym (from_named reach 1 fits_once found) ∙ ap (named l page back t.length result) through in
          ap (λ (w : Value ℕ). told_as one_pass (hit_with (looked reach 1) row w)) found
          ∙ ap₂ (pixels_as one_pass) through from

      by_twice : passes_twice t.operation ≡ true
          → told_by true ≡ by_two_passes t.operation (segment_of t) page result at
      unfolding by_two_passes segment_of line_of hit_of hit_with
      by_twice twice =
          let found = found_twice twice in
          let through =
          sym
          (ap (λ (f : View). named l f other t.length result at) (first_is (segment_of t) page t.operation)
          ∙ through_twice twice)
          in
          let from =
          sym (from_named back t.length fits_twice found) ∙ ap (named l page back t.length result) through in
          ap (λ (w : Value ℕ). told_as two_passes (hit_with (looked back t.length) row w)) found
          ∙ ap₂ (pixels_as two_passes) through from

      by_test : (b : Bool) → passes_twice t.operation ≡ b
          → told_by b
          ≡ cond b (by_two_passes t.operation (segment_of t) page result at)
          (by_one_pass t.operation (segment_of t) page result at)
      by_test true twice = by_twice twice
      by_test false once = by_once once

      pub row_tells : reason_in t standing row ≡ by_steps t p tray at
      unfolding reason_in search_of by_steps
      row_tells = by_test (passes_twice t.operation) refl

      pub row_fits : Fits (search_of t) (length row)
      unfolding search_of
      row_fits = fits_by (passes_twice t.operation)
        where
          fits_by : (b : Bool) → Fits (looked (cond b back reach) (cond b t.length 1)) (length row)
          fits_by true = fits_twice
          fits_by false = fits_once

      pub row_result : IsSome (result_of (search_of t) row)
      unfolding search_of
      row_result = ap is_some (found_by (passes_twice t.operation) refl)
        where
          found_by :
              (b : Bool) → passes_twice t.operation ≡ b
              → result_of (looked (cond b back reach) (cond b t.length 1)) row ≡ Some result
          found_by true twice = found_twice twice
          found_by false once = found_once once
