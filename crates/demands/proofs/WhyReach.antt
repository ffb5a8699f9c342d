-- The reach of a question: the windows that a reason is searched in are near the pixel, so trays that agree there name
-- the same steps.
-- Assumes nothing.
use mathlib.Core.Path.{◌≡◌, refl, sym, ap, ◌∙◌, subst}
use mathlib.Core.Bool.{Bool, true, false, not}
use mathlib.Core.List.{List}
use Prim.Native.Nat.{ℕ, suc, ◌+◌, ◌<◌}
use native.Mathlib.Omega.{arith}
use Rattle.geometry.specs.Line.{step_of}
use Rattle.geometry.specs.Drift.{Sound}
use Rattle.geometry.proofs.Laws.{step_of_major}
use Rattle.geometry.specs.declared.Line.{Line}
use Rattle.std.specs.Prelude.{Ok}
use Rattle.refusal.specs.Answer.{is_done}
use Rattle.ticket.specs.Laws.{Allowed}
use Rattle.ticket.specs.Reading.{shown}
use Rattle.ticket.specs.declared.Ticket.{Ticket}
use Rattle.ticket.specs.declared.Operation.{Operation}
use Rattle.ticket.specs.declared.Operation.TheVariants.{Erode, Dilate, Open, Close}
use Rattle.boxes.specs.Boxes.{hidden, boxes_of}
use Rattle.placement.specs.Placement.{source_page}
use Rattle.placement.specs.declared.Placement.{Placement}
use Rattle.filter.specs.Seen.{View}
use Rattle.filter.specs.Filters as filters
use Rattle.filter.specs.Filters.{on_line, erosion, dilation, opening, closing}
use Rattle.filter.specs.Engine.{back_of}
use Rattle.filter.proofs.Laws.{same_line}
use Rattle.job.specs.Order.{line_of, segment_of, white}
use Rattle.job.specs.Job.{finished}
use Rattle.job.specs.Laws.{finished_allowed, line_sound}
use Rattle.nearby.specs.declared.Pixel.{Pixel}
use Rattle.why.proofs.Laws as laws
use Rattle.why.specs.Named as named
use Rattle.why.specs.Named.{Once, Twice, NamedStep, SameWindow, along_of, beside_of, first_seen}
use Rattle.why.specs.Reason.{seen_by, by_steps, reason_of}
use Rattle.why.specs.Told.{why_answer, lengths_of, told}
use Rattle.demands.specs.Reach.{AgreeNear}
use Rattle.demands.specs.Why.{WhyReach}
use Rattle.demands.proofs.Reach.{steps_same, finished_same}
use Rattle.demands.proofs.Windows.{window_same, line_same}
use Rattle.demands.proofs.Why.{Shown, back_below, second_found}
use Rattle.demands.proofs.WhyAnswers.{answers_same, why_same_refused}

-- the two windows are end to end
backs_whole : (t : Ticket) → Allowed t → (low : Bool)
    → suc (back_of (segment_of t) low + back_of (segment_of t) (not low)) ≡ t.length
unfolding back_of segment_of filters.dilation_back
backs_whole t ok true = omega (arith, ok.origin_below)
backs_whole t ok false = omega (arith, ok.origin_below)

module _ (t : Ticket) (p : Placement) (source source' : List ℕ) (ok : Allowed t) (at : Pixel)
    (agree : AgreeNear t p source source' at.column at.row) where
  abbrev l : Line
  l = line_of t

  abbrev L : ℕ
  L = t.length

  abbrev M : ℕ
  M = along_of l at

  abbrev m : ℕ
  m = beside_of l at

  abbrev page : View
  page = seen_by t p source

  abbrev page' : View
  page' = seen_by t p source'

  sound : Sound l
  sound = line_sound t ok

  near_same : (s : ℕ) → step_of l M < s + L → s < step_of l M + L → on_line l page M m s ≡ on_line l page' M m s
  unfolding seen_by
  near_same s h k = steps_same t p source source' at.column at.row agree s h k

  result_same : finished t p source at.column at.row ≡ finished t p source' at.column at.row
  result_same = finished_same t p source source' at.column at.row agree white ok

  module _ (low : Bool) where
    abbrev back : ℕ
    back = back_of (segment_of t) low

    abbrev second : ℕ
    second = back_of (segment_of t) (not low)

    -- the pixel's own window
    own_window : SameWindow l page page' back L at
    own_window k h =
        let short : back < L = back_below t ok low in
        window_same l sound page page' back L M m (λ s lo hi. near_same s (omega arith) (omega arith)) k h

    -- its second window, after the first pass
    second_window : SameWindow l (first_seen t low p source) (first_seen t low p source') second L at
    second_window k h =
        window_same l sound (first_seen t low p source) (first_seen t low p source') second L M m
        (line_same l sound L M m page page' near_same low (not low) back second (backs_whole t ok low)) k h

    -- and the window of a step of the second window
    step_window : (w : ℕ) (to : Pixel) → NamedStep l (first_seen t low p source) second L w at to
        → SameWindow l page page' back L to
    step_window w to n k h =
        let whole = backs_whole t ok low in
        let own : step_of l (along_of l to) ≡ n.step =
        ap (step_of l) (sym n.along) ∙ step_of_major l sound M n.step in
        let on_line_lem : (view : View) (s : ℕ) → on_line l view (along_of l to) (beside_of l to) s ≡ on_line l view M m s =
        λ view s.
        ap (λ (R : ℕ). on_line l view R (beside_of l to) s) (sym n.along)
        ∙ same_line l sound view M m n.step (beside_of l to) s n.across in
        window_same l sound page page' back L (along_of l to) (beside_of l to)
        (λ s lo hi.
        on_line_lem page s
        ∙ near_same s (omega (arith, n.in_window.from)) (omega (arith, n.in_window.to))
        ∙ sym (on_line_lem page' s))
        k h

    once_same : (n : Operation) → Once n low → t.operation ≡ n → by_steps t p source at ≡ by_steps t p source' at
    once_same n how e =
        named.once_same t p source source' at low result_same (subst (λ (k : Operation). Once k low) (sym e) how) own_window

    twice_same : (n : Operation) → Twice n low → t.operation ≡ n → Shown t p at.column at.row
        → by_steps t p source at ≡ by_steps t p source' at
    twice_same n how e shown =
        let orders : Twice t.operation low = subst (λ (k : Operation). Twice k low) (sym e) how in
        named.twice_same t p source source' at low result_same orders
        (second_found t p source ok at shown low orders)
        second_window
        (step_window (finished t p source at.column at.row))

  steps_told : Shown t p at.column at.row → by_steps t p source at ≡ by_steps t p source' at
  steps_told shown = by t.operation refl
    where
      by : (n : Operation) → t.operation ≡ n → by_steps t p source at ≡ by_steps t p source' at
      by Erode e = once_same true erosion named.erosion_once e
      by Dilate e = once_same false dilation named.dilation_once e
      by Open e = twice_same true opening named.opening_twice e shown
      by Close e = twice_same false closing named.closing_twice e shown

  reasons_same : at.column < p.width → at.row < p.height → reason_of t p source at ≡ reason_of t p source' at
  reasons_same column row = by_hidden (hidden (boxes_of t) at.column at.row) refl
    where
      by_hidden : (b : Bool) → hidden (boxes_of t) at.column at.row ≡ b
          → reason_of t p source at ≡ reason_of t p source' at
      by_hidden true e = laws.reason_box t p source at e ∙ sym (laws.reason_box t p source' at e)
      by_hidden false e =
          laws.reason_steps t p source at e
          ∙ steps_told (record { column = column; row = row; unhidden = e })
          ∙ sym (laws.reason_steps t p source' at e)

-- ---- what is told

pub why_reach : WhyReach
unfolding source_page
why_reach ticket p source source' output scratch at bytes same agree =
    by_answer (is_done (why_answer ticket p (lengths_of source output scratch) at)) refl
  where
    by_answer :
        (b : Bool) → is_done (why_answer ticket p (lengths_of source output scratch) at) ≡ b
        → told ticket p source output scratch at ≡ told ticket p source' output scratch at
    by_answer true done =
        let asked = laws.why_answered ticket p (lengths_of source output scratch) at done in
        let ok = finished_allowed ticket p (lengths_of source output scratch) asked.work bytes asked.job in
        let answers = answers_same ticket p source source' output scratch at same in
        let second = sym (ap is_done answers) ∙ done in
        laws.told_ok ticket p source output scratch at done
        ∙ ap Ok (reasons_same (shown ticket) (source_page p) source source' ok at agree asked.column asked.row)
        ∙ sym (laws.told_ok ticket p source' output scratch at second)
    by_answer false refused =
        why_same_refused ticket p source source' output scratch at same
        (ap is_done (laws.told_answer ticket p source output scratch at) ∙ refused)
