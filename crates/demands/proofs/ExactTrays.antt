-- The pixels of a line in a tray: what the filter sees there, what two passes make of it, and trays with a run of one
-- value in them.
-- Assumes nothing.
use mathlib.Core.Path.{◌≡◌, refl, sym, ap, ap₂, ◌∙◌}
use mathlib.Core.Bool.{Bool, true, false, not}
use mathlib.Core.Logic.{by_cases, inl, inr, ◌≢◌}
use mathlib.Core.Option.{Option, some}
use mathlib.Core.List.{List}
use Prim.Native.Nat.{ℕ, suc, ◌+◌, ◌-◌, ◌≤◌, ◌<◌}
use native.Mathlib.Decide.{dec_lt, ℕ_discrete}
use native.Mathlib.Omega.{arith}
use lib.ListN.{length, get_or, set, replicate, length-set, length-replicate, get_or-replicate, get_or-eq_default}
use lib.Seq.{get_or-set_same, get_or-set_other}
use Rattle.geometry.specs.Line.{major_at}
use Rattle.geometry.proofs.Laws.{in_page_landing}
use Rattle.geometry.specs.declared.Line.{Line}
use Rattle.ticket.specs.Laws.{Allowed}
use Rattle.ticket.specs.declared.Ticket.{Ticket}
use Rattle.placement.specs.Placement.{byte_of, pixel_in, column_of, row_of, Placed}
use Rattle.placement.specs.Placement as placement
use Rattle.placement.proofs.Laws.{byte_below, byte_same}
use Rattle.placement.specs.declared.Placement.{Placement}
use Rattle.tray.specs.Turned.{down_of, across_of}
use Rattle.tray.specs.Written.{written}
use Rattle.tray.specs.Laws.{length_written, written_at, written_pixel}
use Rattle.ticket.specs.declared.Operation.{Operation}
use Rattle.filter.specs.Seen.{View, runs_steep}
use Rattle.filter.specs.Axes.{turned_back, down_back, across_back}
use Rattle.filter.specs.Filters.{value_at, on_line, pass, eroded, dilation_back, dilated, opened, closed, operated}
use Rattle.filter.specs.Filters.{or_white}
use Rattle.job.specs.Order.{line_of, segment_of}
use Rattle.job.specs.Job.{finished_with}
use Rattle.job.specs.Laws.{line_sound}
use Rattle.demands.specs.Near.{major_place, minor_place, step_at, FewerSteps, Near}
use Rattle.demands.specs.Exact.{OpensOrCloses, Clear, ClearSteps}
use Rattle.demands.proofs.Pages.{seen_in, along_in, finished_at, seen_there}
use Rattle.demands.proofs.Near.{near_in, near_step}
use Rattle.demands.proofs.ExactNumbers.{winner, winner_small, picked_small, twice, run, run_small, changed}
use Rattle.demands.proofs.ExactNumbers.{changed_at, changed_else}
use Rattle.demands.proofs.ExactLines.{twice_on}

-- ---- opening and closing are two passes, the second with the other extreme and the window turned round

pub record Passes (t : Ticket) : Type 0 where
  pub low : Bool
  pub a : ℕ
  pub b : ℕ
  pub sizes : t.length ≡ suc (a + b)
  pub made :
      (page : View)
      → operated t.operation (segment_of t) page
      ≡ pass (not low) (line_of t) b t.length (pass low (line_of t) a t.length page)

pub passes : (t : Ticket) → Allowed t → OpensOrCloses t → Passes t
unfolding operated opened closed eroded dilated dilation_back segment_of
passes t ok (inl e) =
    record {
      low = true;
      a = t.origin;
      b = t.length - 1 - t.origin;
      sizes = omega (arith, ok.origin_below);
      made = λ page. ap (λ (n : Operation). operated n (segment_of t) page) e;
    }
passes t ok (inr e) =
    record {
      low = false;
      a = t.length - 1 - t.origin;
      b = t.origin;
      sizes = omega (arith, ok.origin_below);
      made = λ page. ap (λ (n : Operation). operated n (segment_of t) page) e;
    }

-- ---- the line through a clear pixel

-- the steps up to L - 1 on both sides of a clear pixel are near pixels
pub clear_steps : ClearSteps
clear_steps t p c r ok clear s few =
    let l : Line = line_of t in
    let steep : Bool = runs_steep l in
    let M : ℕ = major_place l c r in
    let H : ℕ = major_place l p.width p.height in
    let W : ℕ = minor_place l p.width p.height in
    let on = clear.on_page_lem s few in
    let found = in_page_landing l H W M (minor_place l c r) s on in
    let M_is = down_back steep (major_at l M s) found.at in
    let m_is = across_back steep (major_at l M s) found.at in
    record {
      column = down_of steep (major_at l M s) found.at;
      row = across_of steep (major_at l M s) found.at;
      near = record {
        step = s;
        fewer = record { back = omega (arith, few.back); on = omega (arith, few.on) };
        on_page_lem = on;
        is_step = record { along = sym M_is; across = found.lands ∙ ap {B = Option ℕ} some (sym m_is) };
      };
      at = refl;
    }

-- what the filter sees of a tray along the line through column c, row r
unfoldable pub value_on : Ticket → Placement → List ℕ → ℕ → ℕ → ℕ → Option ℕ
value_on t p tray c r s =
    on_line (line_of t) (along_in t p tray) (major_place (line_of t) c r) (minor_place (line_of t) c r) s

module _ (t : Ticket) (p : Placement) (c r : ℕ) (ok : Allowed t) (clear : Clear t p c r) where
  -- at a near pixel
  on_near :
      (tray : List ℕ) (c' r' : ℕ) (x : Near t p c r c' r')
      → value_on t p tray c r x.step ≡ some (pixel_in tray p c' r')
  unfolding value_on on_line value_at
  on_near tray c' r' x =
      let there = near_in t p c r c' r' x in
      ap₂ (value_at (along_in t p tray)) x.is_step.along x.is_step.across
      ∙ turned_back (runs_steep (line_of t)) (seen_in t p tray) c' r'
      ∙ seen_there t p tray c' r' there.0 there.1 (clear.in_no_box c' r' x)

  -- the result, by the numbers of the line
  pub result :
      (white : ℕ) (tray : List ℕ) (w : Passes t) (f : ℕ → ℕ)
      → ((s : ℕ) → FewerSteps t.length (step_at (line_of t) c r) s → value_on t p tray c r s ≡ some (f s))
      → finished_with white t p tray c r ≡ twice w.low w.a w.b f (step_at (line_of t) c r)
  unfolding or_white value_on
  result white tray w f on =
      let l : Line = line_of t in
      let M : ℕ = major_place l c r in
      let m : ℕ = minor_place l c r in
      let page : View = along_in t p tray in
      finished_at t p tray c r white
      ∙ ap (or_white white)
      (ap (λ (view : View). view M m) (w.made page)
      ∙ ap (λ (n : ℕ). pass (not w.low) l w.b n (pass w.low l w.a n page) M m) w.sizes
      ∙ twice_on l (line_sound t ok) M m w.low w.a w.b page f (omega (arith, clear.steps_before, w.sizes))
      (λ s h k. on s (record { back = omega (arith, w.sizes); on = omega (arith, w.sizes) })))

-- ---- the two trays

module _ (p : Placement) (n : ℕ) (placed : Placed p n) where
  length_filled : (page : ℕ → ℕ → ℕ) → length (written p page (replicate n 0)) ≡ n
  length_filled page = length_written p page (replicate n 0) ∙ length-replicate n 0

  filled_pixel :
      (page : ℕ → ℕ → ℕ) (c r : ℕ) → c < p.width → r < p.height
      → pixel_in (written p page (replicate n 0)) p c r ≡ page c r
  unfolding pixel_in
  filled_pixel page c r c_in r_in =
      written_pixel p page (replicate n 0) c r (omega (arith, placed.stride_least)) c_in r_in
      (rw length-replicate (byte_below p n c r placed c_in r_in))

  filled_small :
      (page : ℕ → ℕ → ℕ) → ((c r : ℕ) → page c r ≤ 1) → (i : ℕ) → get_or (written p page (replicate n 0)) i 0 ≤ 1
  filled_small page small i =
      by_cases (dec_lt i n)
      (λ h.
      let here : i < length {A = ℕ} (replicate n 0) = rw length-replicate h in
      rw (written_at p page (replicate n 0) i here)
      (picked_small (placement.inside p i) (page (column_of p i) (row_of p i)) (get_or (replicate n 0) i 0)
      (small (column_of p i) (row_of p i))
      (omega (arith, get_or-replicate {A = ℕ} n i 0 0 h))))
      (λ h.
      let past : length (written p page (replicate n 0)) ≤ i = omega (arith, length_filled page) in
      omega (arith, get_or-eq_default (written p page (replicate n 0)) 0 past))

-- a run of n + 1 steps from q on, all across the page
unfoldable pub run_page : Line → Bool → ℕ → ℕ → ℕ → ℕ → ℕ
run_page l low q n c r = run low q n (step_at l c r)

unfoldable pub run_tray : Line → Placement → ℕ → Bool → ℕ → ℕ → List ℕ
run_tray l p size low q n = written p (run_page l low q n) (replicate size 0)

-- the same with one pixel changed
unfoldable pub changed_tray : Line → Placement → ℕ → Bool → ℕ → ℕ → ℕ → ℕ → List ℕ
changed_tray l p size low q n c r = set (run_tray l p size low q n) (byte_of p c r) (winner low)

module _ (l : Line) (p : Placement) (size : ℕ) (placed : Placed p size) (low : Bool) (q n : ℕ) where
  pub run_length : length (run_tray l p size low q n) ≡ size
  unfolding run_tray
  run_length = length_filled p size placed (run_page l low q n)

  pub run_bytes : (i : ℕ) → get_or (run_tray l p size low q n) i 0 ≤ 1
  unfolding run_tray run_page
  run_bytes i = filled_small p size placed (run_page l low q n) (λ c r. run_small low q n (step_at l c r)) i

  run_pixel :
      (c r : ℕ) → c < p.width → r < p.height → pixel_in (run_tray l p size low q n) p c r ≡ run low q n (step_at l c r)
  unfolding run_tray run_page
  run_pixel c r c_in r_in = filled_pixel p size placed (run_page l low q n) c r c_in r_in

  module _ (c r : ℕ) (c_in : c < p.width) (r_in : r < p.height) where
    pub changed_length : length (changed_tray l p size low q n c r) ≡ size
    unfolding changed_tray
    changed_length = length-set (run_tray l p size low q n) (byte_of p c r) (winner low) ∙ run_length

    pub changed_elsewhere :
        (i : ℕ) → i ≢ byte_of p c r → get_or (changed_tray l p size low q n c r) i 0 ≡ get_or (run_tray l p size low q n) i 0
    unfolding changed_tray
    changed_elsewhere i h = get_or-set_other (run_tray l p size low q n) (byte_of p c r) i (winner low) 0 h

    changed_there : get_or (changed_tray l p size low q n c r) (byte_of p c r) 0 ≡ winner low
    unfolding changed_tray
    changed_there =
        get_or-set_same (run_tray l p size low q n) (byte_of p c r) (winner low) 0
        (rw run_length (byte_below p size c r placed c_in r_in))

    pub changed_bytes : (i : ℕ) → get_or (changed_tray l p size low q n c r) i 0 ≤ 1
    changed_bytes i =
        by_cases (ℕ_discrete i (byte_of p c r))
        (λ e. rw e (omega (arith, changed_there, winner_small low)))
        (λ h. omega (arith, changed_elsewhere i h, run_bytes i))

    changed_pixel : pixel_in (changed_tray l p size low q n c r) p c r ≡ winner low
    unfolding pixel_in
    changed_pixel = changed_there

    -- another pixel
    kept_pixel :
        (c' r' : ℕ) → c' < p.width → r' < p.height → (c' ≡ c → r' ≡ r → ⊥)
        → pixel_in (changed_tray l p size low q n c r) p c' r' ≡ pixel_in (run_tray l p size low q n) p c' r'
    unfolding pixel_in
    kept_pixel c' r' c'-in r'-in other =
        changed_elsewhere (byte_of p c' r')
        (λ e.
        let same = byte_same p size c' r' c r placed c'-in r'-in c_in r_in e in
        other same.0 same.1)

-- ---- the line through column c, row r in these trays

module _ (t : Ticket) (p : Placement) (c r : ℕ) (ok : Allowed t) (clear : Clear t p c r) (size : ℕ)
    (placed : Placed p size) (low : Bool) (q n : ℕ) where
  abbrev before : List ℕ
  before = run_tray (line_of t) p size low q n

  run_value : (c' r' : ℕ) (x : Near t p c r c' r') → pixel_in before p c' r' ≡ run low q n x.step
  run_value c' r' x =
      let there = near_in t p c r c' r' x in
      run_pixel (line_of t) p size placed low q n c' r' there.0 there.1
      ∙ ap (run low q n) (near_step t p c r c' r' ok x)

  pub run_on :
      (s : ℕ) → FewerSteps t.length (step_at (line_of t) c r) s → value_on t p before c r s ≡ some (run low q n s)
  run_on s few =
      let x = clear_steps t p c r ok clear s few in
      ap (value_on t p before c r) (sym x.at)
      ∙ on_near t p c r ok clear before x.column x.row x.near
      ∙ ap {B = Option ℕ} some (run_value x.column x.row x.near ∙ ap (run low q n) x.at)

  -- one near pixel changed
  module _ (c₁ r₁ : ℕ) (x : Near t p c r c₁ r₁) where
    abbrev after : List ℕ
    after = changed_tray (line_of t) p size low q n c₁ r₁

    changed_value :
        (c' r' : ℕ) (y : Near t p c r c' r') → y.step ≢ x.step
        → pixel_in after p c' r' ≡ changed low q n x.step y.step
    changed_value c' r' y other =
        let here = near_in t p c r c₁ r₁ x in
        let there = near_in t p c r c' r' y in
        kept_pixel (line_of t) p size placed low q n c₁ r₁ here.0 here.1 c' r' there.0 there.1
        (λ e e'. other
        (sym (near_step t p c r c' r' ok y) ∙ ap₂ (step_at (line_of t)) e e' ∙ near_step t p c r c₁ r₁ ok x))
        ∙ run_value c' r' y
        ∙ sym (changed_else low q n x.step y.step other)

    there_on : value_on t p after c r x.step ≡ some (changed low q n x.step x.step)
    there_on =
        let here = near_in t p c r c₁ r₁ x in
        on_near t p c r ok clear after c₁ r₁ x
        ∙ ap {B = Option ℕ} some
        (changed_pixel (line_of t) p size placed low q n c₁ r₁ here.0 here.1 ∙ sym (changed_at low q n x.step))

    pub changed_on :
        (k : ℕ) → FewerSteps t.length (step_at (line_of t) c r) k
        → value_on t p after c r k ≡ some (changed low q n x.step k)
    changed_on k few =
        by_cases (ℕ_discrete k x.step) (λ e. rw e there_on)
        (λ other.
        let y = clear_steps t p c r ok clear k few in
        ap (value_on t p after c r) (sym y.at)
        ∙ on_near t p c r ok clear after y.column y.row y.near
        ∙ ap {B = Option ℕ} some
        (changed_value y.column y.row y.near (λ e. other (sym y.at ∙ e))
        ∙ ap (changed low q n x.step) y.at))
