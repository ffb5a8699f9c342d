-- The reach: near pixels are all that a filter sees of a tray, and what is absent does not depend on the tray.
-- Assumes nothing.
use mathlib.Core.Path.{◌≡◌, refl, sym, ap, ◌∙◌}
use mathlib.Core.Bool.{Bool, true, false, not, ◌&&◌, cond, and-eq-true_iff}
use mathlib.Core.Option.{Option, none, some}
use mathlib.Core.List.{List}
use Prim.Native.Nat.{ℕ, ◌+◌, ◌<◌}
use native.Mathlib.Omega.{arith}
use borrow.Author.Tests.{ltb-true}
use lib.Dec.{ltb}
use Rattle.geometry.specs.Line.{landing, step_of, major_at}
use Rattle.geometry.proofs.Laws.{landed_in_page}
use Rattle.geometry.specs.declared.Line.{Line}
use Rattle.ticket.specs.Laws.{Allowed}
use Rattle.ticket.specs.Reading.{shown}
use Rattle.ticket.specs.declared.Ticket.{Ticket}
use Rattle.boxes.specs.Boxes.{hidden, boxes_of}
use Rattle.placement.specs.Placement.{pixel_in, source_page}
use Rattle.placement.specs.declared.Placement.{Placement}
use Rattle.tray.specs.Turned.{down_of, across_of}
use Rattle.tray.specs.Laws.{down_in, across_in}
use Rattle.filter.specs.Seen.{seen, runs_steep}
use Rattle.filter.specs.Axes.{turned_is, turned_back, down_back, across_back}
use Rattle.filter.specs.Filters.{value_at, on_line, or_white}
use Rattle.job.specs.Order.{line_of, segment_of, white}
use Rattle.job.specs.Job.{finished_with, lengths}
use Rattle.job.specs.Laws.{finished_allowed, line_sound, output_pixel}
use Rattle.demands.specs.Near.{major_place, minor_place, Near}
use Rattle.demands.specs.Reach.{AgreeNear, AgreeOnPage, Reach, PageAlone, HiddenWhite}
use Rattle.demands.proofs.Near.{near_in}
use Rattle.demands.proofs.Pages.{seen_in, along_in, finished_at, seen_none}
use Rattle.demands.proofs.Same.{same_answer}
use Rattle.demands.proofs.Windows.{operated_same, operated_none}

-- ---- the finished page

not-true : (b : Bool) → not b ≡ true → b ≡ false
not-true true e = sym e
not-true false e = refl

module _ (t : Ticket) (p : Placement) (source source' : List ℕ) (c r : ℕ)
    (agree : AgreeNear t p source source' c r) where
  abbrev l : Line
  l = line_of t

  abbrev steep : Bool
  steep = runs_steep l

  abbrev M : ℕ
  M = down_of steep c r

  abbrev m : ℕ
  m = across_of steep c r

  -- the pixel on which a step lands, fewer than L steps away
  module _ (s m' : ℕ) (there : landing l m (step_of l M) s ≡ some m') (h : step_of l M < s + t.length)
      (k : s < step_of l M + t.length) where
    abbrev c' : ℕ
    c' = down_of steep (major_at l M s) m'

    abbrev r' : ℕ
    r' = across_of steep (major_at l M s) m'

    pixel_near : c' < p.width → r' < p.height → Near t p c r c' r'
    pixel_near c_in r_in =
        let M_is : down_of steep c' r' ≡ major_at l M s = down_back steep (major_at l M s) m' in
        let m_is : across_of steep c' r' ≡ m' = across_back steep (major_at l M s) m' in
        record {
          step = s;
          fewer = record { back = omega arith; on = omega arith };
          on_page_lem = landed_in_page l _ _ M m s m' there
              (omega (arith, M_is, down_in steep c' r' p.width p.height c_in r_in))
              (omega (arith, m_is, across_in steep c' r' p.width p.height c_in r_in));
          is_step = record { along = sym M_is; across = there ∙ ap {B = Option ℕ} some (sym m_is) };
        }

    by_test :
        (b : Bool) → ((ltb c' p.width && ltb r' p.height) && not (hidden (boxes_of t) c' r')) ≡ b
        → cond b (some (pixel_in source p c' r')) none ≡ cond b (some (pixel_in source' p c' r')) none
    unfolding AgreeNear
    by_test true e =
        let both = (and-eq-true_iff (ltb c' p.width && ltb r' p.height) (not (hidden (boxes_of t) c' r'))).0 e in
        let sides = (and-eq-true_iff (ltb c' p.width) (ltb r' p.height)).0 both.0 in
        let near = pixel_near (ltb-true _ _ sides.0) (ltb-true _ _ sides.1) in
        ap {B = Option ℕ} some (agree c' r' near (not-true _ both.1))
    by_test false e = refl

    seen_same : along_in t p source (major_at l M s) m' ≡ along_in t p source' (major_at l M s) m'
    unfolding seen
    seen_same =
        turned_is steep (seen_in t p source) (major_at l M s) m'
        ∙ by_test _ refl
        ∙ sym (turned_is steep (seen_in t p source') (major_at l M s) m')

  by_place :
      (s : ℕ) (o : Option ℕ) → landing l m (step_of l M) s ≡ o → step_of l M < s + t.length → s < step_of l M + t.length
      → value_at (along_in t p source) (major_at l M s) o ≡ value_at (along_in t p source') (major_at l M s) o
  unfolding value_at
  by_place s none there h k = refl
  by_place s (some m') there h k = seen_same s m' there h k

  pub steps_same :
      (s : ℕ) → step_of l M < s + t.length → s < step_of l M + t.length
      → on_line l (along_in t p source) M m s ≡ on_line l (along_in t p source') M m s
  unfolding on_line
  steps_same s h k = by_place s (landing l m (step_of l M) s) refl h k

  -- the finished page has the same pixel
  pub finished_same : (white : ℕ) → Allowed t → finished_with white t p source c r ≡ finished_with white t p source' c r
  unfolding segment_of
  finished_same white ok =
      finished_at t p source c r white
      ∙ ap (or_white white)
      (operated_same (segment_of t) (line_sound t ok) ok.origin_below M m (along_in t p source) (along_in t p source')
      steps_same
      t.operation)
      ∙ sym (finished_at t p source' c r white)

-- a hidden pixel
pub finished_hidden :
    (white : ℕ) (t : Ticket) (p : Placement) (source : List ℕ) (c r : ℕ) → hidden (boxes_of t) c r ≡ true
    → finished_with white t p source c r ≡ white
unfolding or_white
finished_hidden white t p source c r e =
    let l : Line = line_of t in
    finished_at t p source c r white
    ∙ ap (or_white white)
    (operated_none (segment_of t) (along_in t p source) (major_place l c r) (minor_place l c r)
    (turned_back (runs_steep l) (seen_in t p source) c r ∙ seen_none t p source c r e) t.operation)

-- ---- the job

pub reach : Reach
reach ticket p source source' out out' scratch scratch' work bytes same done c r c_in r_in agree =
    let second = sym (same_answer ticket p source source' out out' scratch scratch' same) ∙ done in
    let ok = finished_allowed ticket p (lengths source out scratch) work bytes done in
    output_pixel ticket p source out scratch work done c r c_in r_in
    ∙ finished_same (shown ticket) (source_page p) source source' c r agree white ok
    ∙ sym (output_pixel ticket p source' out' scratch' work second c r c_in r_in)

pub page_alone : PageAlone
unfolding source_page AgreeNear AgreeOnPage
page_alone ticket p source source' out out' scratch scratch' work bytes same done agree c r c_in r_in =
    reach ticket p source source' out out' scratch scratch' work bytes same done c r c_in r_in
    (λ c' r' near shows.
    let there = near_in (shown ticket) (source_page p) c r c' r' near in
    agree c' r' there.0 there.1 shows)

pub hidden_white : HiddenWhite
hidden_white ticket p source out scratch work done c r c_in r_in hid =
    output_pixel ticket p source out scratch work done c r c_in r_in
    ∙ finished_hidden white (shown ticket) (source_page p) source c r hid
