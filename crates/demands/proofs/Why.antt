-- The steps that are told of an unhidden pixel: the filter's pages by their axes are pages by column and row with the
-- hidden pixels left out, and the first step of a window on the one is the first on the other.
-- Assumes nothing.
use mathlib.Core.Path.{◌≡◌, refl, sym, ap, ap₂, ◌∙◌, subst}
use mathlib.Core.Bool.{Bool, true, false, not, ◌&&◌, cond, and-eq-true_iff}
use mathlib.Core.List.{List}
use mathlib.Core.Option.{Option, none, some, some-injective, none-ne-some}
use Prim.Native.Nat.{ℕ, ◌<◌}
use native.Mathlib.Omega.{arith}
use borrow.Author.Tests.{ltb-true, not-true}
use lib.Dec.{ltb}
use lib.ListN.{length}
use Rattle.geometry.specs.Line.{landing, step_of, major_at}
use Rattle.geometry.specs.Drift.{Sound}
use Rattle.geometry.proofs.Laws.{landed_in_page, landed_on_page}
use Rattle.geometry.specs.declared.Line.{Line}
use Rattle.refusal.specs.Answer.{is_done}
use Rattle.ticket.specs.Laws.{Allowed}
use Rattle.ticket.specs.Reading.{shown}
use Rattle.ticket.specs.declared.Ticket.{Ticket}
use Rattle.ticket.specs.declared.Operation.{Operation}
use Rattle.boxes.specs.Boxes.{hidden, boxes_of}
use Rattle.placement.specs.Placement.{pixel_in, source_page}
use Rattle.placement.specs.declared.Placement.{Placement}
use Rattle.placement.specs.declared.Placements.{Placements}
use Rattle.tray.specs.Turned.{down_of, across_of}
use Rattle.tray.specs.Laws.{down_in, across_in}
use Rattle.filter.specs.Seen.{View, seen, runs_steep}
use Rattle.filter.specs.Axes.{turned_back, turned_in, down_back, across_back}
use Rattle.filter.specs.Filters as filters
use Rattle.filter.specs.Filters.{value_at, on_line, pass, operated, or_white, erosion, dilation, opening, closing}
use Rattle.filter.specs.Engine.{back_of}
use Rattle.filter.proofs.Laws.{pass_absent, pass_some, pass_found}
use Rattle.filter.specs.Windows.{InWindow, Found}
use Rattle.job.specs.Order.{line_of, segment_of, white}
use Rattle.job.specs.Job.{finished, lengths}
use Rattle.job.specs.Laws.{finished_allowed, line_sound, output_pixel}
use Rattle.nearby.specs.declared.Pixel.{Pixel}
use Rattle.why.proofs.Laws as laws
use Rattle.why.specs.Named as named
use Rattle.why.specs.Named.{Once, Twice, NamedStep, along_of, beside_of, first_seen}
use Rattle.why.specs.Reason.{seen_by, by_steps}
use Rattle.why.specs.Told.{reason_told}
use Rattle.why.specs.declared.Reason.{Reason}
use Rattle.demands.specs.Near.{major_place, minor_place}
use Rattle.demands.specs.Why.{told_of, came_out, Gives, Names, ByOnePass, ByTwoPasses}
use Rattle.demands.specs.Why.{NamesOne, Unhidden, ordering, WhyErosion, WhyDilation, WhyOpening, WhyClosing}
use Rattle.demands.proofs.Pages.{seen_in, finished_at, seen_there}

-- ---- a page by its axes, and by column and row

module _ (t : Ticket) (p : Placement) where
  abbrev l : Line
  l = line_of t

  abbrev steep : Bool
  steep = runs_steep l

  -- an unhidden pixel of the page
  pub record Shown (c r : ℕ) : Type 0 where
    pub column : c < p.width
    pub row : r < p.height
    pub unhidden : hidden (boxes_of t) c r ≡ false

  -- the page by its axes has a grey at each unhidden pixel, that of the page by column and row, and at no other pixel
  record Shows (page : ℕ → ℕ → ℕ) (view : View) : Type 0 where
    there : (c r : ℕ) → Shown c r → view (major_place l c r) (minor_place l c r) ≡ some (page c r)
    only : (c r v : ℕ) → view (major_place l c r) (minor_place l c r) ≡ some v → Shown c r

  -- the source
  seen_only : (tray : List ℕ) (c r v : ℕ) → seen_in t p tray c r ≡ some v → Shown c r
  unfolding seen
  seen_only tray c r v e = by_test ((ltb c p.width && ltb r p.height) && not (hidden (boxes_of t) c r)) refl e
    where
      by_test :
          (b : Bool) → ((ltb c p.width && ltb r p.height) && not (hidden (boxes_of t) c r)) ≡ b
          → cond b (some (pixel_in tray p c r)) none ≡ some v
          → Shown c r
      by_test true test there =
          let both = (and-eq-true_iff (ltb c p.width && ltb r p.height) (not (hidden (boxes_of t) c r))).0 test in
          let sides = (and-eq-true_iff (ltb c p.width) (ltb r p.height)).0 both.0 in
          record {
            column = ltb-true _ _ sides.0;
            row = ltb-true _ _ sides.1;
            unhidden = not-true _ both.1;
          }
      by_test false test there = absurd (none-ne-some v there)

  seen_at : (tray : List ℕ) (c r : ℕ) → seen_by t p tray (major_place l c r) (minor_place l c r) ≡ seen_in t p tray c r
  seen_at tray c r =
      ap (λ (view : View). view (major_place l c r) (minor_place l c r)) (named.seen_by_lem t p tray)
      ∙ turned_back steep (seen_in t p tray) c r

  source_shows : (tray : List ℕ) → Shows (pixel_in tray p) (seen_by t p tray)
  source_shows tray =
      record {
        there = λ c r h. seen_at tray c r ∙ seen_there t p tray c r h.column h.row h.unhidden;
        only = λ c r v e. seen_only tray c r v (sym (seen_at tray c r) ∙ e);
      }

  -- a pass leaves the hidden pixels out too
  pass_only : (page : ℕ → ℕ → ℕ) (view : View) → Shows page view → (low : Bool) (a n c r v : ℕ)
      → pass low l a n view (major_place l c r) (minor_place l c r) ≡ some v → Shown c r
  pass_only page view shows low a n c r v e =
      by_value (view (major_place l c r) (minor_place l c r)) refl
    where
      by_value : (o : Option ℕ) → view (major_place l c r) (minor_place l c r) ≡ o → Shown c r
      by_value none absent =
          absurd (none-ne-some v (sym (pass_absent low l a n view _ _ absent) ∙ e))
      by_value (some x) there = shows.only c r x there

  -- ---- the first step of a window

  module _ (page : ℕ → ℕ → ℕ) (view : View) (shows : Shows page view) (back w : ℕ) (at : Pixel) where
    abbrev M : ℕ
    M = major_place l at.column at.row

    abbrev m : ℕ
    m = minor_place l at.column at.row

    step_gives : (s : ℕ) (to : Pixel) → InWindow back t.length (step_of l M) s
        → major_at l M s ≡ along_of l to → landing l m (step_of l M) s ≡ some (beside_of l to)
        → view (along_of l to) (beside_of l to) ≡ some w
        → Gives t p page back w at s to
    step_gives s to within along across there =
        let shown = shows.only to.column to.row w there in
        let low =
        down_in steep to.column to.row p.width p.height shown.column shown.row in
        let grey = sym (shows.there to.column to.row shown) ∙ there in
        record {
          in_window = within;
          on_page_lem = landed_in_page l _ _ M m s (beside_of l to) across
              (omega (arith, along, low))
              (across_in steep to.column to.row p.width p.height shown.column shown.row);
          is_step = record { along = along; across = across };
          unhidden = shown.unhidden;
          grey = some-injective _ w grey;
        }

    gives_value : (s : ℕ) (to : Pixel) → Gives t p page back w at s to → on_line l view M m s ≡ some w
    unfolding on_line value_at
    gives_value s to g =
        let on = landed_on_page l _ _ M m s (beside_of l to) g.on_page_lem g.is_step.across in
        let sides =
        turned_in steep p.width p.height to.column to.row (omega (arith, on.0, g.is_step.along)) on.1
        in
        ap₂ (value_at view) g.is_step.along g.is_step.across
        ∙ shows.there to.column to.row
        (record { column = sides.0; row = sides.1; unhidden = g.unhidden })
        ∙ ap {B = Option ℕ} some g.grey

    names : (to : Pixel) → NamedStep l view back t.length w at to → Names t p page back w at to
    names to n =
        record {
          step = n.step;
          gives = step_gives n.step to n.in_window n.along n.across n.there;
          first =
              λ s other earlier g. n.before s earlier g.in_window (gives_value s other g);
        }

-- an earlier step that gives w would be named
pub names_one : NamesOne
names_one t p page back w at to to' one two =
    let l : Line = line_of t in
    let steep : Bool = runs_steep l in
    let before : one.step < two.step → ⊥ = λ h. two.first one.step to h one.gives in
    let behind : two.step < one.step → ⊥ = λ h. one.first two.step to' h two.gives in
    let steps : one.step ≡ two.step = omega (arith, before, behind) in
    let along : along_of l to ≡ along_of l to' =
    sym one.gives.is_step.along ∙ ap (major_at l (along_of l at)) steps ∙ two.gives.is_step.along in
    let beside : beside_of l to ≡ beside_of l to' =
    some-injective (beside_of l to) (beside_of l to')
    (sym one.gives.is_step.across
    ∙ ap (landing l (beside_of l at) (step_of l (along_of l at))) steps
    ∙ two.gives.is_step.across) in
    let column : to.column ≡ to'.column =
    sym (down_back steep to.column to.row)
    ∙ ap₂ (down_of steep) along beside
    ∙ down_back steep to'.column to'.row in
    let row : to.row ≡ to'.row =
    sym (across_back steep to.column to.row)
    ∙ ap₂ (across_of steep) along beside
    ∙ across_back steep to'.column to'.row in
    λ i. record { column = column i; row = row i }

-- ---- the passes

-- what is there comes out as it is
settled : (o : Option ℕ) (w x : ℕ) → o ≡ some w → x ≡ or_white white o → o ≡ some x
unfolding or_white
settled o w x there is = there ∙ ap {B = Option ℕ} some (sym (is ∙ ap (or_white white) there))

pub back_below : (t : Ticket) → Allowed t → (low : Bool) → back_of (segment_of t) low < t.length
unfolding back_of segment_of filters.dilation_back
back_below t ok true = ok.origin_below
back_below t ok false = omega (arith, ok.origin_below)

module _ (t : Ticket) (p : Placement) (tray : List ℕ) (c r : ℕ) where
  abbrev line : Line
  line = line_of t

  abbrev along : ℕ
  along = major_place (line_of t) c r

  abbrev beside : ℕ
  beside = minor_place (line_of t) c r

  finished_by :
      finished t p tray c r
      ≡ or_white white (operated t.operation (segment_of t) (seen_by t p tray) along beside)
  finished_by =
      finished_at t p tray c r white
      ∙ ap (λ (view : View). or_white white (operated t.operation (segment_of t) view along beside))
      (sym (named.seen_by_lem t p tray))

  -- a ticket of one pass, at a pixel that is there
  finished_once : Sound (line_of t) → (low : Bool) → back_of (segment_of t) low < t.length → Once t.operation low
      → Shown t p c r
      → first_seen t low p tray along beside ≡ some (finished t p tray c r)
  unfolding segment_of
  finished_once sound low short how shown =
      let there = (source_shows t p tray).there c r shown in
      let stays = pass_some line sound low _ _ short (seen_by t p tray) along beside _ there in
      settled _ stays.0 _ stays.1
      (finished_by
      ∙ ap (λ (view : View). or_white white (view along beside)) (how.filter (segment_of t) (seen_by t p tray)))

-- the same ticket that orders the first pass alone
first_shows : (t : Ticket) (p : Placement) (tray : List ℕ) → Allowed t → (n : Operation) (low : Bool) → Once n low
    → Shows t p (finished (ordering n t) p tray) (first_seen t low p tray)
unfolding ordering segment_of line_of boxes_of seen_by
first_shows t p tray ok n low how =
    record {
      there = λ c r h.
          finished_once (ordering n t) p tray c r (line_sound t ok) low (back_below t ok low) how
          (record { column = h.column; row = h.row; unhidden = h.unhidden });
      only = pass_only t p _ (seen_by t p tray) (source_shows t p tray) low _ _;
    }

-- ---- what is told

module _ (t : Ticket) (p : Placement) (tray : List ℕ) (ok : Allowed t) (at : Pixel)
    (shown : Shown t p at.column at.row) (low : Bool) where
  abbrev c : ℕ
  c = at.column

  abbrev r : ℕ
  r = at.row

  abbrev result : ℕ
  result = finished t p tray c r

  abbrev back : ℕ
  back = back_of (segment_of t) low

  abbrev second : ℕ
  second = back_of (segment_of t) (not low)

  once : Once t.operation low
      → ByOnePass t p (pixel_in tray p) back result at (by_steps t p tray at)
  unfolding line_of
  once how =
      let there = finished_once t p tray c r (line_sound t ok) low (back_below t ok low) how shown in
      let found = pass_found low (line_of t) back t.length (seen_by t p tray) _ _ result there in
      let told = named.steps_once t p tray at low how found in
      record {
        kind = told.kind;
        number = told.number;
        phase = told.phase;
        through = told.through;
        from = names t p (pixel_in tray p) (seen_by t p tray) (source_shows t p tray) back result at _ told.from;
      }

  -- some step of the second window has the result after the first pass
  pub second_found : Twice t.operation low
      → Found (line_of t) (first_seen t low p tray) second t.length (along_of (line_of t) at) (beside_of (line_of t) at)
      result
  unfolding segment_of
  second_found how =
      let line : Line = line_of t in
      let sound : Sound line = line_sound t ok in
      let view : View = first_seen t low p tray in
      let first =
      pass_some line sound low back t.length (back_below t ok low) (seen_by t p tray) _ _ _
      ((source_shows t p tray).there c r shown) in
      let stays =
      pass_some line sound (not low) second t.length (back_below t ok (not low)) view _ _ _ first.1 in
      pass_found (not low) line second t.length view _ _ result
      (settled _ stays.0 result stays.1
      (finished_by t p tray c r
      ∙ ap (λ (page : View). or_white white (page (major_place line c r) (minor_place line c r)))
      (how.filter (segment_of t) (seen_by t p tray))))

  twice : Twice t.operation low → (n : Operation) → Once n low
      → ByTwoPasses t p (pixel_in tray p) (finished (ordering n t) p tray) back second result at (by_steps t p tray at)
  unfolding line_of
  twice how n first =
      let told = named.steps_twice t p tray at low how (second_found how) in
      record {
        kind = told.kind;
        number = told.number;
        phase = told.phase;
        through =
            names t p (finished (ordering n t) p tray) (first_seen t low p tray) (first_shows t p tray ok n low first)
            second result at _ told.through;
        from = names t p (pixel_in tray p) (seen_by t p tray) (source_shows t p tray) back result _ _ told.from;
      }

-- ---- the job

module _ (ticket : List ℕ) (p : Placements) (source out scratch : List ℕ) (at : Pixel)
    (h : Unhidden ticket p source out scratch at) where
  abbrev t : Ticket
  t = shown ticket

  allowed : Allowed t
  allowed = finished_allowed ticket p (lengths source out scratch) h.work h.bytes h.done

  is_shown : Shown t (source_page p) at.column at.row
  unfolding source_page
  is_shown = record { column = h.on.column; row = h.on.row; unhidden = h.unhidden }

  came_out_lem : came_out ticket p source out scratch at ≡ finished t (source_page p) source at.column at.row
  came_out_lem =
      output_pixel ticket p source out scratch h.work h.done at.column at.row h.on.column h.on.row

  reason_is : reason_told (told_of ticket p source out scratch at) ≡ by_steps t (source_page p) source at
  unfolding is_done
  reason_is =
      let judged =
      laws.why_judged ticket p (lengths source out scratch) at h.work h.done
      ∙ laws.pixel_on p at h.on.column h.on.row in
      laws.told_done ticket p source (length out) (length scratch) at (ap is_done judged)
      ∙ laws.reason_steps t (source_page p) source at h.unhidden

  -- a statement on the finished page and on the steps is one on the output tray and on what is told
  of_job : (P : ℕ → Reason → Type 0)
      → P (finished t (source_page p) source at.column at.row) (by_steps t (source_page p) source at)
      → P (came_out ticket p source out scratch at) (reason_told (told_of ticket p source out scratch at))
  of_job P holds =
      subst (λ (w : ℕ). P w (reason_told (told_of ticket p source out scratch at))) (sym came_out_lem)
      (subst (P (finished t (source_page p) source at.column at.row)) (sym reason_is) holds)

  abbrev page : ℕ → ℕ → ℕ
  page = pixel_in source (source_page p)

  abbrev back_by : Bool → ℕ
  back_by low = back_of (segment_of t) low

  job_once : (n : Operation) (low : Bool) → Once n low → t.operation ≡ n
      → ByOnePass t (source_page p) page (back_by low) (came_out ticket p source out scratch at) at
      (reason_told (told_of ticket p source out scratch at))
  job_once n low how e =
      of_job (λ w reason. ByOnePass t (source_page p) page (back_by low) w at reason)
      (once t (source_page p) source allowed at is_shown low (subst (λ (k : Operation). Once k low) (sym e) how))

  job_twice : (n first : Operation) (low : Bool) → Twice n low → Once first low → t.operation ≡ n
      → ByTwoPasses t (source_page p) page (finished (ordering first t) (source_page p) source) (back_by low)
      (back_by (not low)) (came_out ticket p source out scratch at) at (reason_told (told_of ticket p source out scratch at))
  job_twice n first low how one e =
      let between : ℕ → ℕ → ℕ = finished (ordering first t) (source_page p) source in
      of_job (λ w reason. ByTwoPasses t (source_page p) page between (back_by low) (back_by (not low)) w at reason)
      (twice t (source_page p) source allowed at is_shown low (subst (λ (k : Operation). Twice k low) (sym e) how) first one)

pub why_erosion : WhyErosion
unfolding back_of segment_of
why_erosion ticket p source out scratch at h e =
    job_once ticket p source out scratch at h erosion true named.erosion_once e

pub why_dilation : WhyDilation
unfolding back_of segment_of filters.dilation_back
why_dilation ticket p source out scratch at h e =
    job_once ticket p source out scratch at h dilation false named.dilation_once e

pub why_opening : WhyOpening
unfolding back_of segment_of filters.dilation_back
why_opening ticket p source out scratch at h e =
    job_twice ticket p source out scratch at h opening erosion true named.opening_twice named.erosion_once e

pub why_closing : WhyClosing
unfolding back_of segment_of filters.dilation_back
why_closing ticket p source out scratch at h e =
    job_twice ticket p source out scratch at h closing dilation false named.closing_twice named.dilation_once e
