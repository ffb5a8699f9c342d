-- What others may use of the named steps, with their definitions left shut: that each is the first of its window with
-- the result, what the passes of an operation are, and what the steps depend on.
-- Assumes nothing.
use Rattle.std.specs.Prelude.{◌≡◌, refl, false, not, List, leb}
use Rattle.std.proofs.Math.Path.{sym, ap, ap₂, subst}
use Rattle.std.proofs.Common.{◌∙◌, add-sub_cancel, le-leb, eqb-true, eq-eqb}
use Rattle.std.proofs.Math.Bool.{Bool, true, cond, true≢false}
use Rattle.std.proofs.Math.Logic.{by_cases}
use Rattle.std.proofs.Math.Option.{Option, none, some, none-ne-some}
use Prim.Native.Nat.{ℕ, ◌+◌, ◌-◌, ◌≤◌, ◌<◌}
use Rattle.std.proofs.Math.Decide.{dec_le}
use native.Mathlib.Omega.{arith}
use Rattle.std.proofs.lemmas.Bool.{lt-leb}
use Rattle.geometry.specs.Line.{landing, step_of, major_at}
use Rattle.geometry.specs.Drift.{first}
use Rattle.geometry.proofs.Laws.{first_is}
use Rattle.geometry.specs.declared.Line.{Line}
use Rattle.ticket.specs.declared.Operation.{Operation}
use Rattle.ticket.specs.declared.Ticket.{Ticket}
use Rattle.boxes.specs.Boxes.{boxes_of}
use Rattle.placement.specs.Placement.{pixel_in}
use Rattle.placement.specs.declared.Placement.{Placement}
use Rattle.tray.specs.Turned.{down_of, across_of}
use Rattle.filter.specs.Seen.{View, seen, turned, runs_steep}
use Rattle.filter.specs.Axes.{down_back, across_back}
use Rattle.filter.specs.Filters.{value_at, on_line, in_window, pass, eroded, dilated, opened, closed, operated}
use Rattle.filter.specs.Filters.{erosion, dilation, opening, closing}
use Rattle.filter.specs.Engine.{back_of}
use Rattle.filter.proofs.Laws.{pass_found}
use Rattle.filter.specs.Windows.{InWindow, Found}
use Rattle.filter.specs.declared.Segment.{Segment}
use Rattle.job.specs.Job.{finished}
use Rattle.job.specs.Order.{line_of, segment_of}
use Rattle.finding.proofs.Laws.{first_same}
use Rattle.nearby.specs.declared.Pixel.{Pixel}
use Rattle.why.specs.Reason.{has, first_with, place_of, pixel_at, named, starts_low, passes_twice, first_pass_of}
use Rattle.why.specs.Reason.{one_pass, two_passes, by_one_pass, by_two_passes, seen_by, by_steps}
use Rattle.why.specs.declared.Reason.{Reason}

-- ---- a named pixel

-- a pixel's place on the axis along which a line runs, and on the other
abbrev pub along_of : Line → Pixel → ℕ
along_of l at = down_of (runs_steep l) at.column at.row

abbrev pub beside_of : Line → Pixel → ℕ
beside_of l at = across_of (runs_steep l) at.column at.row

-- the pixel `to` is the first step of the window of `at` at which the page has w
pub record NamedStep (l : Line) (page : View) (a n w : ℕ) (at to : Pixel) : Type 0 where
  pub step : ℕ
  pub in_window : InWindow a n (step_of l (along_of l at)) step
  pub along : major_at l (along_of l at) step ≡ along_of l to
  pub across : landing l (beside_of l at) (step_of l (along_of l at)) step ≡ some (beside_of l to)
  pub there : page (along_of l to) (beside_of l to) ≡ some w
  pub before : (s : ℕ) → s < step → InWindow a n (step_of l (along_of l at)) s
      → on_line l page (along_of l at) (beside_of l at) s ≡ some w → ⊥

has_true : (w : ℕ) (o : Option ℕ) → has w o ≡ true → o ≡ some w
unfolding has
has_true w none e = absurd (true≢false (sym e))
has_true w (some v) e = ap {B = Option ℕ} some (eqb-true v w e)

true_has : (w : ℕ) (o : Option ℕ) → o ≡ some w → has w o ≡ true
unfolding has
true_has w o e = ap (has w) e ∙ eq-eqb w w refl

value_lands : (page : View) (R w : ℕ) (o : Option ℕ) → value_at page R o ≡ some w
    → (o ≡ some (place_of o)) × (page R (place_of o) ≡ some w)
unfolding value_at place_of
value_lands page R w none e = absurd (none-ne-some w e)
value_lands page R w (some m) e = (refl, e)

module _ (l : Line) (page : View) (a n M m : ℕ) where
  abbrev own : ℕ
  own = step_of l M

  -- the place of step s in the window, counted from 0
  window_value : (s : ℕ) → own ≤ s + a → in_window l page a M m (s + a - own) ≡ on_line l page M m s
  unfolding in_window
  window_value s from =
      let whole : own + (s + a - own) ≡ s + a = omega arith in
      ap (λ (q : ℕ). cond (leb a q) (on_line l page M m (q - a)) none) whole
      ∙ ap (λ (b : Bool). cond b (on_line l page M m (s + a - a)) none) (le-leb a (s + a) (omega arith))
      ∙ ap (on_line l page M m) (add-sub_cancel s a)

  -- a value of the window stands at a step of the line
  window_step : (k w : ℕ) → in_window l page a M m k ≡ some w
      → (a ≤ own + k) × (on_line l page M m (own + k - a) ≡ some w)
  unfolding in_window
  window_step k w e =
      let value : Option ℕ = on_line l page M m (own + k - a) in
      by_cases (dec_le a (own + k))
      (λ h. (h, ap (λ (b : Bool). cond b value none) (sym (le-leb a (own + k) h)) ∙ e))
      (λ h.
      absurd
      (none-ne-some w (ap (λ (b : Bool). cond b value none) (sym (lt-leb a (own + k) (omega arith))) ∙ e)))

  -- the first place of the window that has w, where some step of the window has it
  record FirstPlace (w k : ℕ) : Type 0 where
    below : k < n
    there : in_window l page a M m k ≡ some w
    before : (q : ℕ) → q < k → in_window l page a M m q ≡ some w → ⊥

  first_place_lem : (w : ℕ) → Found l page a n M m w → FirstPlace w (first_with l page a n w M m)
  unfolding first_with
  first_place_lem w found =
      let test : ℕ → Bool = λ k. has w (in_window l page a M m k) in
      let is = first_is test 0 n in
      let k : ℕ = first test 0 n in
      let s : ℕ = found.step in
      let q : ℕ = s + a - own in
      let passes : test q ≡ true =
      true_has w _ (window_value s found.in_window.from ∙ found.there) in
      let apart : q < k → ⊥ = λ h. true≢false (sym passes ∙ is.before q (omega arith) h) in
      let low : k < n = omega (arith, apart, found.in_window.from, found.in_window.to) in
      record {
        below = low;
        there = has_true w _ (is.passes (omega arith));
        before = λ j h e. true≢false (sym (true_has w _ e) ∙ is.before j (omega arith) h);
      }

-- the named pixel is that step, where some step of the window has w
module _ (l : Line) (page : View) (a n w : ℕ) (at : Pixel)
    (found : Found l page a n (along_of l at) (beside_of l at) w) where
  abbrev M : ℕ
  M = along_of l at

  abbrev m : ℕ
  m = beside_of l at

  pub named_step : NamedStep l page a n w at (named l page a n w at)
  unfolding named pixel_at on_line
  named_step =
      let steep : Bool = runs_steep l in
      let t : ℕ = step_of l M in
      let k : ℕ = first_with l page a n w M m in
      let is = first_place_lem l page a n M m w found in
      let stands = window_step l page a n M m k w is.there in
      let s : ℕ = t + k - a in
      let R : ℕ = major_at l M s in
      let lands = value_lands page R w (landing l m t s) stands.1 in
      let beside : ℕ = place_of (landing l m t s) in
      record {
        step = s;
        in_window = record { from = omega (arith, stands.0); to = omega (arith, stands.0, is.below) };
        along = sym (down_back steep R beside);
        across = lands.0 ∙ ap {B = Option ℕ} some (sym (across_back steep R beside));
        there = ap₂ page (down_back steep R beside) (across_back steep R beside) ∙ lands.1;
        before =
            λ q earlier within e.
            is.before (q + a - t) (omega (arith, stands.0, within.from))
            (window_value l page a n M m q within.from ∙ e);
      }

-- ---- it depends on its window alone

-- two pages have the same values in the window of a pixel
abbrev pub SameWindow : Line → View → View → ℕ → ℕ → Pixel → Type 0
SameWindow l page page' a n at =
    (k : ℕ) → k < n
    → in_window l page a (along_of l at) (beside_of l at) k ≡ in_window l page' a (along_of l at) (beside_of l at) k

named_same : (l : Line) (page page' : View) (a n w : ℕ) (at : Pixel) → SameWindow l page page' a n at
    → named l page a n w at ≡ named l page' a n w at
unfolding named first_with
named_same l page page' a n w at same =
    ap
    (λ (k : ℕ). pixel_at l (along_of l at) (beside_of l at) (step_of l (along_of l at) + k - a))
    (first_same _ _ 0 n (λ q h b. ap (has w) (same q (omega arith))))

-- ---- the passes of an operation

-- an operation of one pass: the lowest of a window, or the highest
pub record Once (n : Operation) (low : Bool) : Type 0 where
  pub starts : starts_low n ≡ low
  pub once : passes_twice n ≡ false
  pub filter : (s : Segment) (page : View) → operated n s page ≡ pass low s.line (back_of s low) s.length page

-- and of two, the second of which takes the other
pub record Twice (n : Operation) (low : Bool) : Type 0 where
  pub starts : starts_low n ≡ low
  pub twice : passes_twice n ≡ true
  pub filter :
      (s : Segment) (page : View) → operated n s page
      ≡ pass (not low) s.line (back_of s (not low)) s.length
      (pass low s.line (back_of s low) s.length page)

pub erosion_once : Once erosion true
unfolding starts_low passes_twice operated eroded back_of
erosion_once = record { starts = refl; once = refl; filter = λ s page. refl }

pub dilation_once : Once dilation false
unfolding starts_low passes_twice operated dilated back_of
dilation_once = record { starts = refl; once = refl; filter = λ s page. refl }

pub opening_twice : Twice opening true
unfolding starts_low passes_twice operated opened eroded dilated back_of
opening_twice = record { starts = refl; twice = refl; filter = λ s page. refl }

pub closing_twice : Twice closing false
unfolding starts_low passes_twice operated closed eroded dilated back_of
closing_twice = record { starts = refl; twice = refl; filter = λ s page. refl }

-- the page after the first pass
pub first_pass_lem : (low : Bool) (s : Segment) (page : View)
    → cond low (eroded s page) (dilated s page) ≡ pass low s.line (back_of s low) s.length page
unfolding eroded dilated back_of
first_pass_lem true s page = refl
first_pass_lem false s page = refl

-- ---- the steps that are told: w is the pixel of the finished page

-- of one pass
pub record OneNamed (l : Line) (page : View) (back n w : ℕ) (at : Pixel) (reason : Reason) : Type 0 where
  pub kind : reason.kind ≡ one_pass
  pub number : reason.number ≡ 0
  pub phase : reason.phase ≡ l.phase
  pub through : reason.through ≡ at
  pub from : NamedStep l page back n w at reason.from

-- of two: what is named in the second window has w after the first pass
pub record TwoNamed (l : Line) (page between : View) (back second n w : ℕ) (at : Pixel) (reason : Reason) : Type 0 where
  pub kind : reason.kind ≡ two_passes
  pub number : reason.number ≡ 0
  pub phase : reason.phase ≡ l.phase
  pub through : NamedStep l between second n w at reason.through
  pub from : NamedStep l page back n w reason.through reason.from

-- a reason with steps
unfoldable with_steps : ℕ → ℕ → Pixel → Pixel → Reason
with_steps kind phase through from =
    record { kind = kind; number = 0; phase = phase; through = through; from = from }

module _ (n : Operation) (low : Bool) (s : Segment) (page : View) (w : ℕ) (at : Pixel) (starts : starts_low n ≡ low) where
  abbrev l : Line
  l = s.line

  abbrev L : ℕ
  L = s.length

  abbrev back : ℕ
  back = back_of s low

  abbrev second : ℕ
  second = back_of s (not low)

  abbrev between : View
  between = pass low l back L page

  abbrev through : Pixel
  through = named l between second L w at

  -- the reasons, by the way the operation begins
  one_is : by_one_pass n s page w at ≡ with_steps one_pass l.phase at (named l page back L w at)
  unfolding by_one_pass with_steps
  one_is = ap (λ (b : Bool). with_steps one_pass l.phase at (named l page (back_of s b) L w at)) starts

  between_is : first_pass_of n s page ≡ between
  unfolding first_pass_of
  between_is = ap (λ (b : Bool). cond b (eroded s page) (dilated s page)) starts ∙ first_pass_lem low s page

  two_is : by_two_passes n s page w at ≡ with_steps two_passes l.phase through (named l page back L w through)
  unfolding by_two_passes with_steps
  two_is =
      ap₂ (λ (view : View) (b : Bool).
      with_steps two_passes l.phase (named l view (back_of s (not b)) L w at)
      (named l page (back_of s b) L w (named l view (back_of s (not b)) L w at)))
      between_is starts

  named_once : Found l page back L (along_of l at) (beside_of l at) w
      → OneNamed l page back L w at (by_one_pass n s page w at)
  unfolding with_steps
  named_once found =
      subst (λ (x : Reason). OneNamed l page back L w at x) (sym one_is)
      (record { kind = refl; number = refl; phase = refl; through = refl; from = named_step l page back L w at found })

  named_twice : Found l between second L (along_of l at) (beside_of l at) w
      → TwoNamed l page between back second L w at (by_two_passes n s page w at)
  unfolding with_steps
  named_twice found =
      let one = named_step l between second L w at found in
      let gave = pass_found low l back L page (along_of l through) (beside_of l through) w one.there in
      let two = named_step l page back L w through gave in
      subst (λ (x : Reason). TwoNamed l page between back second L w at x) (sym two_is)
      (record { kind = refl; number = refl; phase = refl; through = one; from = two })

-- the page as a ticket's filter sees it, by the axes of its line,
pub seen_by_lem : (t : Ticket) (p : Placement) (tray : List ℕ)
    → seen_by t p tray ≡ turned (runs_steep (line_of t)) (seen (boxes_of t) p.width p.height (pixel_in tray p))
unfolding seen_by
seen_by_lem t p tray = refl

-- and after the first pass
abbrev pub first_seen : Ticket → Bool → Placement → List ℕ → View
first_seen t low p tray = pass low (line_of t) (back_of (segment_of t) low) t.length (seen_by t p tray)

module _ (t : Ticket) (p : Placement) (tray : List ℕ) (at : Pixel) (low : Bool) where
  abbrev result : ℕ
  result = finished t p tray at.column at.row

  abbrev FoundIn : View → ℕ → Type 0
  FoundIn page back = Found (line_of t) page back t.length (along_of (line_of t) at) (beside_of (line_of t) at) result

  abbrev once : Reason
  once = by_one_pass t.operation (segment_of t) (seen_by t p tray) result at

  abbrev twice : Reason
  twice = by_two_passes t.operation (segment_of t) (seen_by t p tray) result at

  pub steps_once : Once t.operation low → FoundIn (seen_by t p tray) (back_of (segment_of t) low)
      → OneNamed (line_of t) (seen_by t p tray) (back_of (segment_of t) low) t.length result at (by_steps t p tray at)
  unfolding by_steps segment_of
  steps_once how found =
      subst
      (λ (b : Bool).
      OneNamed (line_of t) (seen_by t p tray) (back_of (segment_of t) low) t.length result at (cond b twice once))
      (sym how.once)
      (named_once t.operation low (segment_of t) (seen_by t p tray) result at how.starts found)

  pub steps_twice : Twice t.operation low → FoundIn (first_seen t low p tray) (back_of (segment_of t) (not low))
      → TwoNamed (line_of t) (seen_by t p tray) (first_seen t low p tray) (back_of (segment_of t) low)
      (back_of (segment_of t) (not low)) t.length result at (by_steps t p tray at)
  unfolding by_steps segment_of
  steps_twice how found =
      subst
      (λ (b : Bool).
      TwoNamed (line_of t) (seen_by t p tray) (first_seen t low p tray) (back_of (segment_of t) low)
      (back_of (segment_of t) (not low)) t.length result at (cond b twice once))
      (sym how.twice)
      (named_twice t.operation low (segment_of t) (seen_by t p tray) result at how.starts found)

-- ---- what they depend on: of two trays with the same result

module _ (t : Ticket) (p : Placement) (tray tray' : List ℕ) (at : Pixel) (low : Bool)
    (same : finished t p tray at.column at.row ≡ finished t p tray' at.column at.row) where
  abbrev w : ℕ
  w = finished t p tray at.column at.row

  abbrev w' : ℕ
  w' = finished t p tray' at.column at.row

  abbrev n : Operation
  n = t.operation

  abbrev window_back : ℕ
  window_back = back_of (segment_of t) low

  abbrev second_back : ℕ
  second_back = back_of (segment_of t) (not low)

  -- one pass depends on the pixel's window,
  pub once_same : Once n low → SameWindow (line_of t) (seen_by t p tray) (seen_by t p tray') window_back t.length at
      → by_steps t p tray at ≡ by_steps t p tray' at
  unfolding by_steps segment_of
  once_same how window =
      ap (λ (b : Bool). cond b (twice t p tray at low) (once t p tray at low)) how.once
      ∙ one_is n low (segment_of t) (seen_by t p tray) w at how.starts
      ∙ ap (λ (to : Pixel). with_steps one_pass (line_of t).phase at to)
      (named_same (line_of t) (seen_by t p tray) (seen_by t p tray') window_back t.length w at window
      ∙ ap (λ (v : ℕ). named (line_of t) (seen_by t p tray') window_back t.length v at) same)
      ∙ sym (one_is n low (segment_of t) (seen_by t p tray') w' at how.starts)
      ∙ sym (ap (λ (b : Bool). cond b (twice t p tray' at low) (once t p tray' at low)) how.once)

  -- two on the second window after the first pass, and on the window of the step that is named there
  pub twice_same : Twice n low
      → Found (line_of t) (first_seen t low p tray) second_back t.length (along_of (line_of t) at)
      (beside_of (line_of t) at) w
      → SameWindow (line_of t) (first_seen t low p tray) (first_seen t low p tray') second_back t.length at
      → ((to : Pixel) → NamedStep (line_of t) (first_seen t low p tray) second_back t.length w at to
      → SameWindow (line_of t) (seen_by t p tray) (seen_by t p tray') window_back t.length to)
      → by_steps t p tray at ≡ by_steps t p tray' at
  unfolding by_steps segment_of
  twice_same how found window windows =
      let to : Pixel = named (line_of t) (first_seen t low p tray) second_back t.length w at in
      let is = named_step (line_of t) (first_seen t low p tray) second_back t.length w at found in
      let to_same : to ≡ named (line_of t) (first_seen t low p tray') second_back t.length w' at =
      named_same (line_of t) (first_seen t low p tray) (first_seen t low p tray') second_back t.length w at window
      ∙ ap (λ (v : ℕ). named (line_of t) (first_seen t low p tray') second_back t.length v at) same in
      ap (λ (b : Bool). cond b (twice t p tray at low) (once t p tray at low)) how.twice
      ∙ two_is n low (segment_of t) (seen_by t p tray) w at how.starts
      ∙ ap₂ (with_steps two_passes (line_of t).phase) to_same
      (named_same (line_of t) (seen_by t p tray) (seen_by t p tray') window_back t.length w to (windows to is)
      ∙ ap₂ (λ (v : ℕ) (q : Pixel). named (line_of t) (seen_by t p tray') window_back t.length v q) same to_same)
      ∙ sym (two_is n low (segment_of t) (seen_by t p tray') w' at how.starts)
      ∙ sym (ap (λ (b : Bool). cond b (twice t p tray' at low) (once t p tray' at low)) how.twice)
