-- The flip, by column and row: of the page that a filter sees, of the finished page, of the work.
-- Assumes nothing.
use mathlib.Core.Path.{◌≡◌, refl, sym, ap, ap₂, ◌∙◌}
use mathlib.Core.Bool.{Bool, true, false, not}
use mathlib.Core.Logic.{by_cases}
use mathlib.Core.Option.{Option, some}
use mathlib.Core.List.{List, map}
use Prim.Native.Nat.{ℕ, ◌<◌}
use native.Mathlib.Decide.{dec_lt}
use native.Mathlib.Omega.{arith}
use Rattle.geometry.specs.Drift.{mirrored}
use Rattle.geometry.proofs.Laws.{mirrored_below, mirrored_rising}
use Rattle.ticket.specs.Laws.{Allowed}
use Rattle.ticket.specs.declared.Operation.{Operation}
use Rattle.ticket.specs.declared.HiddenBox.{HiddenBox}
use Rattle.ticket.specs.declared.Ticket.{Ticket}
use Rattle.boxes.specs.Boxes.{hidden, boxes_of}
use Rattle.placement.specs.Placement.{pixel_in}
use Rattle.tray.specs.Turned.{down_of, across_of}
use Rattle.tray.specs.Laws.{across_in}
use Rattle.filter.specs.Seen.{View, seen, turned, runs_steep}
use Rattle.filter.specs.Axes.{turned_is}
use Rattle.filter.specs.Filters.{operated, filtered, or_white}
use Rattle.filter.proofs.Absence.{seen_wide, seen_low, seen_hidden, seen_shown, absent_turned}
use Rattle.filter.specs.Work.{work_of}
use Rattle.filter.specs.declared.Segment.{Segment}
use Rattle.job.specs.Order.{line_of, segment_of}
use Rattle.job.specs.Job.{job_work}
use Rattle.job.specs.Laws.{finished_is}
use Rattle.demands.specs.Flip.{flipped_box, OnPage, FlippedTicket, FlippedPage, FlippedWork}
use Rattle.demands.proofs.FlipBoxes.{hidden_flipped}
use Rattle.demands.proofs.FlipViews.{Runs, flipped_segment, Mirrors, operated_mirrors, steep_same, work_flipped}

-- ---- the page that a filter sees

module _ (boxes : List HiddenBox) (w h : ℕ) (pixel pixel' : ℕ → ℕ → ℕ) (on : OnPage w h boxes) where
  -- the page as it is seen with flipped boxes
  abbrev seen' : Bool → View
  seen' steep = seen (map (flipped_box steep w h) boxes) w h pixel'

  -- the second page is the first one flipped, as far as no box hides it
  abbrev Same : Bool → Type 0
  Same steep =
      (c r : ℕ) → c < w → r < h → hidden boxes c r ≡ false
      → pixel' (mirrored steep w c) (mirrored (not steep) h r) ≡ pixel c r

  seen_flipped :
      (steep : Bool) → Same steep → (c r : ℕ) → c < w → r < h
      → seen' steep (mirrored steep w c) (mirrored (not steep) h r) ≡ seen boxes w h pixel c r
  seen_flipped steep same c r c_in r_in = by_hidden (hidden boxes c r) refl
    where
      c' : ℕ
      c' = mirrored steep w c

      r' : ℕ
      r' = mirrored (not steep) h r

      hides : hidden (map (flipped_box steep w h) boxes) c' r' ≡ hidden boxes c r
      hides = hidden_flipped w h steep boxes on c r c_in r_in

      by_hidden : (b : Bool) → hidden boxes c r ≡ b → seen' steep c' r' ≡ seen boxes w h pixel c r
      by_hidden true e =
          seen_hidden _ w h pixel' c' r' (hides ∙ e) ∙ sym (seen_hidden boxes w h pixel c r e)
      by_hidden false e =
          seen_shown _ w h pixel' c' r' (mirrored_below steep w c c_in) (mirrored_below (not steep) h r r_in)
          (hides ∙ e)
          ∙ ap {B = Option ℕ} some (same c r c_in r_in e)
          ∙ sym (seen_shown boxes w h pixel c r c_in r_in e)

  -- on the axes of a line it is mirrored along the minor one
  seen_mirrors :
      (steep : Bool) → Same steep
      → Mirrors (down_of steep w h) (across_of steep w h) (turned steep (seen boxes w h pixel))
      (turned steep (seen' steep))
  unfolding turned down_of across_of
  seen_mirrors steep same =
      record {
        off = absent_turned boxes w h pixel steep;
        off' = absent_turned (map (flipped_box steep w h) boxes) w h pixel' steep;
        there = there steep same;
      }
    where
      there :
          (steep : Bool) → Same steep → (M m : ℕ) → m < across_of steep w h
          → turned steep (seen' steep) M (mirrored true (across_of steep w h) m)
          ≡ turned steep (seen boxes w h pixel) M m
      there true same M m m_in =
          by_cases
          (dec_lt M h)
          (λ M_in.
          ap (seen' true (mirrored true w m)) (sym (mirrored_rising h M)) ∙ seen_flipped true same m M m_in M_in)
          (λ past. seen_low _ w h pixel' _ M (omega arith) ∙ sym (seen_low boxes w h pixel m M (omega arith)))
      there false same M m m_in =
          by_cases
          (dec_lt M w)
          (λ M_in.
          ap (λ (c : ℕ). seen' false c (mirrored true h m)) (sym (mirrored_rising w M))
          ∙ seen_flipped false same M m M_in m_in)
          (λ past. seen_wide _ w h pixel' M _ (omega arith) ∙ sym (seen_wide boxes w h pixel M m (omega arith)))

-- ---- a pixel's places on the axes

down_flipped :
    (steep : Bool) (w h c r : ℕ) → down_of steep (mirrored steep w c) (mirrored (not steep) h r) ≡ down_of steep c r
unfolding down_of
down_flipped true w h c r = mirrored_rising h r
down_flipped false w h c r = mirrored_rising w c

across_flipped :
    (steep : Bool) (w h c r : ℕ)
    → across_of steep (mirrored steep w c) (mirrored (not steep) h r)
    ≡ mirrored true (across_of steep w h) (across_of steep c r)
unfolding across_of
across_flipped true w h c r = refl
across_flipped false w h c r = refl

-- ---- the filter

-- two pages by column and row, mirrored on the axes of a segment's line
abbrev Flips : Segment → ℕ → ℕ → View → View → Type 0
Flips s w h page page' =
    let steep : Bool = runs_steep s.line in
    Mirrors (down_of steep w h) (across_of steep w h) (turned steep page) (turned steep page')

filtered_flipped :
    (n : Operation) (s : Segment) → Runs s.line → (w h : ℕ) (page page' : View) → Flips s w h page page'
    → (c r : ℕ) → c < w → r < h
    → filtered n (flipped_segment s) page' (mirrored (runs_steep s.line) w c)
    (mirrored (not (runs_steep s.line)) h r)
    ≡ filtered n s page c r
unfolding filtered
filtered_flipped n s e w h page page' flips c r c_in r_in =
    let steep : Bool = runs_steep s.line in
    let c' : ℕ = mirrored steep w c in
    let r' : ℕ = mirrored (not steep) h r in
    let result : View = operated n s (turned steep page) in
    let result' : View = operated n (flipped_segment s) (turned steep page') in
    let mirrors : Mirrors (down_of steep w h) (across_of steep w h) result result' =
    operated_mirrors s e (down_of steep w h) (across_of steep w h) n _ _ flips in
    ap (λ (b : Bool). turned b (operated n (flipped_segment s) (turned b page')) c' r') (steep_same s e)
    ∙ turned_is steep result' c' r'
    ∙ ap₂ result' (down_flipped steep w h c r) (across_flipped steep w h c r)
    ∙ mirrors.there (down_of steep c r) (across_of steep c r) (across_in steep c r w h c_in r_in)
    ∙ sym (turned_is steep result c r)

-- ---- a ticket and the flipped one

-- its line runs
pub line_runs : (t : Ticket) → Allowed t → Runs (line_of t)
unfolding line_of
line_runs t ok = ok.runs

segment_flipped :
    (w h : ℕ) (t t' : Ticket) → FlippedTicket w h t t' → segment_of t' ≡ flipped_segment (segment_of t)
unfolding segment_of
segment_flipped w h t t' flip =
    λ i. record { line = flip.line i; length = flip.length i; origin = flip.origin i }

pub flipped_page : FlippedPage
unfolding segment_of
flipped_page white t t' p p' tray tray' ok on flip source c r c_in r_in =
    let steep : Bool = runs_steep (line_of t) in
    let w : ℕ = p.width in
    let h : ℕ = p.height in
    let c' : ℕ = mirrored steep w c in
    let r' : ℕ = mirrored (not steep) h r in
    let segment : segment_of t' ≡ flipped_segment (segment_of t) = segment_flipped w h t t' flip in
    finished_is white t' p' tray' c' r'
    ∙ (λ i.
    or_white white
    (filtered (flip.operation i) (segment i)
    (seen (flip.boxes i) (source.same_width i) (source.same_height i) (pixel_in tray' p')) c' r'))
    ∙ ap (or_white white)
    (filtered_flipped t.operation (segment_of t) (line_runs t ok) w h _ _
    (seen_mirrors (boxes_of t) w h (pixel_in tray p) (pixel_in tray' p') on steep source.pixels)
    c
    r
    c_in
    r_in)
    ∙ sym (finished_is white t p tray c r)

pub flipped_work : FlippedWork
unfolding job_work segment_of
flipped_work t t' w h ok flip =
    let segment : segment_of t' ≡ flipped_segment (segment_of t) = segment_flipped w h t t' flip in
    (λ i. work_of (flip.operation i) (segment i) w h)
    ∙ work_flipped (segment_of t) (line_runs t ok) t.operation w h
