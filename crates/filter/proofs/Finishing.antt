-- From its buffer into the scratch and out again: what stands in the scratch is the filtered page. Assumes nothing.
use mathlib.Core.Path.{◌≡◌, refl, sym, ap, ◌∙◌, subst}
use mathlib.Core.Bool.{Bool, true, false, not, ◌&&◌, cond}
use mathlib.Core.Option.{none, some, some-injective, none-ne-some}
use mathlib.Core.List.{List}
use Prim.Native.Nat.{ℕ, ◌+◌, ◌*◌, ◌≤◌, ◌<◌}
use native.Mathlib.Omega.{arith}
use lib.Dec.{ltb}
use lib.ListN.{length, get_or}
use Rattle.boxes.specs.Boxes.{hidden}
use Rattle.hiding.specs.Hiding.{BoxesLie, BoxesPainted}
use Rattle.geometry.specs.Drift.{reach}
use Rattle.geometry.specs.Tables.{ProfileTable, ReachTable}
use Rattle.geometry.specs.declared.Line.{Line}
use Rattle.runs.specs.Grid.{Tabled}
use Rattle.ticket.specs.declared.HiddenBox.{HiddenBox}
use Rattle.placement.specs.Placement.{pixel_in}
use Rattle.placement.specs.declared.Placement.{Placement}
use Rattle.turning.specs.Promises.{SameSides, PageIn, compact_pixel}
use Rattle.tray.specs.Written.{written}
use Rattle.tray.specs.Laws.{written_same}
use Rattle.tray.specs.Turned.{down_of, compact_height, compact_at}
use Rattle.tray.specs.declared.Layout.{Layout}
use Rattle.filter.specs.Seen.{View, seen, turned}
use Rattle.filter.specs.Filters.{operated, filtered, or_white, recipe_boxes, filtered_page}
use Rattle.filter.proofs.Absence.{seen_hidden, seen_shown, absent_turned}
use Rattle.filter.specs.Work.{work_of}
use Rattle.filter.specs.Engine.{Bytes, steep_of, layout_of, grid_of, scratch_place, Held, PassDone, PassReady, Tables}
use Rattle.filter.specs.Engine.{Enters, Ready}
use Rattle.filter.specs.Promises.{Fits, Filtered}
use Rattle.filter.specs.declared.Recipe.{Recipe}

-- ---- the page as it is seen

turned_twice : (steep : Bool) (page : View) (c r : ℕ) → turned steep (turned steep page) c r ≡ page c r
unfolding turned
turned_twice true page c r = refl
turned_twice false page c r = refl

module _ (boxes : List HiddenBox) (width height : ℕ) (pixel : ℕ → ℕ → ℕ) where
  picked : (b : Bool) (x v : ℕ) → cond b (some x) none ≡ some v → x ≡ v
  picked true x v e = some-injective x v e
  picked false x v e = absurd (none-ne-some v e)

  seen_value : (c r v : ℕ) → seen boxes width height pixel c r ≡ some v → pixel c r ≡ v
  unfolding seen
  seen_value c r v e = picked ((ltb c width && ltb r height) && not (hidden boxes c r)) (pixel c r) v e

  seen_small : ((c r : ℕ) → pixel c r < 256) → (c r v : ℕ) → seen boxes width height pixel c r ≡ some v → v ≤ 255
  seen_small bytes c r v e = let same : pixel c r ≡ v = seen_value c r v e in omega (arith, bytes c r)

  bytes_turned : ((c r : ℕ) → pixel c r < 256) → (steep : Bool) → Bytes (turned steep (seen boxes width height pixel))
  unfolding turned Bytes
  bytes_turned bytes true M m v e = seen_small bytes m M v e
  bytes_turned bytes false M m v e = seen_small bytes M m v e

-- ---- into the scratch, filtered, hidden pixels white

module _ (how : Recipe) (p : Placement) (source : List ℕ) (bytes : (k : ℕ) → get_or source k 0 < 256) where
  pixel_small : (c r : ℕ) → pixel_in source p c r < 256
  unfolding pixel_in
  pixel_small c r = bytes (Rattle.placement.specs.Placement.byte_of p c r)

  abbrev shown : View
  shown = seen (recipe_boxes how) p.width p.height (pixel_in source p)

  abbrev page : View
  page = turned (steep_of how) shown

  entered : (before after : List ℕ) → PageIn source p (layout_of how p.width p.height) before after
      → Held how p.width p.height page after
  entered before after into =
      record {
        absent = absent_turned (recipe_boxes how) p.width p.height (pixel_in source p) (steep_of how);
        bytes = bytes_turned (recipe_boxes how) p.width p.height (pixel_in source p) pixel_small (steep_of how);
        none_there = λ r r_in c c_in e.
            turned_twice (steep_of how) shown c r
            ∙ seen_hidden (recipe_boxes how) p.width p.height (pixel_in source p) c r e;
        one_there = λ r r_in c c_in e.
            turned_twice (steep_of how) shown c r
            ∙ seen_shown (recipe_boxes how) p.width p.height (pixel_in source p) c r c_in r_in e
            ∙ ap some (sym (into.pixel r r_in c c_in));
      }

  module _ (one two three four : List ℕ) (work : ℕ)
      (into : PageIn source p (layout_of how p.width p.height) one two)
      (through : PassDone how (layout_of how p.width p.height) (operated how.operation how.segment)
      (work_of how.operation how.segment p.width p.height) 6 two three work)
      (whited : BoxesPainted (recipe_boxes how) (layout_of how p.width p.height) how.white three four) where
    held : Held how p.width p.height (operated how.operation how.segment page) three
    held = through.page page (entered one two into)

    pixel_by_lem :
        (hid : Bool) (c r : ℕ) → hidden (recipe_boxes how) c r ≡ hid → c < p.width → r < p.height
        → get_or four (scratch_place how p.width p.height c r) 0
        ≡ filtered_page how p.width p.height (pixel_in source p) c r
    unfolding filtered_page filtered or_white
    pixel_by_lem true c r e c_in r_in =
        whited.hides r r_in c c_in e ∙ sym (ap (or_white how.white) (held.none_there r r_in c c_in e))
    pixel_by_lem false c r e c_in r_in =
        whited.shows r r_in c c_in e ∙ sym (ap (or_white how.white) (held.one_there r r_in c c_in e))

    pub ready : Ready how p source one four work
    ready =
        record {
          same_length = whited.same_length ∙ through.same_length ∙ into.size;
          rest = λ i h. whited.rest i (omega arith) ∙ through.rest i h ∙ into.rest i (omega arith);
          pixel = λ r r_in c c_in. pixel_by_lem (hidden (recipe_boxes how) c r) c r refl c_in r_in;
          work_is = through.counted;
          work_few = through.few;
        }

-- ---- the tables

pub tables : (how : Recipe) (n : ℕ) (profile reaches : List ℕ) → length profile ≡ n → length reaches ≡ n
    → ProfileTable how.segment.line profile → ReachTable how.segment.line (length profile) reaches
    → Tables how n profile reaches
tables how n profile reaches np nr profiled reached =
    record {
      profile_size = np;
      reaches_size = nr;
      profile_is = λ i h. profiled.entry i (omega arith);
      reaches_is = λ v h. reached.entry v (omega arith) ∙ ap (reach how.segment.line v) np;
    }

tabled :
    (how : Recipe) (lay : Layout) → lay ≡ layout_of how lay.width lay.height → (profile reaches : List ℕ)
    → Tables how (compact_height lay) profile reaches → (low : Bool)
    → Tabled (grid_of how lay.width lay.height low) profile reaches
unfolding grid_of
tabled how lay laid profile reaches given low =
    record {
      profile_long = omega (arith, all.profile_size);
      reaches_long = omega (arith, all.reaches_size);
      profile_is = all.profile_is;
      reaches_is = all.reaches_is;
    }
  where
    all : Tables how (compact_height (layout_of how lay.width lay.height)) profile reaches
    all = subst (λ (l : Layout). Tables how (compact_height l) profile reaches) laid given

pub tables_as : (how : Recipe) (n : ℕ) (line : Line) (profile reaches : List ℕ) → line ≡ how.segment.line
    → length profile ≡ n → length reaches ≡ n → ProfileTable line profile
    → ((l : Line) → ProfileTable l profile → ReachTable l (length profile) reaches) → Tables how n profile reaches
tables_as how n line profile reaches is np nr profiled reached =
    let mine : ProfileTable how.segment.line profile = subst (λ (l : Line). ProfileTable l profile) is profiled in
    tables how n profile reaches np nr mine (reached how.segment.line mine)

pub tables_long : (how : Recipe) (n m : ℕ) (profile reaches : List ℕ) → n ≡ m → Tables how n profile reaches
    → Tables how m profile reaches
tables_long how n m profile reaches e all = subst (λ (k : ℕ). Tables how k profile reaches) e all

pub rows_most : (how : Recipe) (lay : Layout) → BoxesLie (recipe_boxes how) lay → compact_height lay ≤ 8192
unfolding down_of
rows_most how lay lie = by_way lay.steep
  where
    by_way : (steep : Bool) → down_of steep lay.width lay.height ≤ 8192
    by_way true = lie.height_most
    by_way false = lie.width_most

-- ---- what the code found, as the laws have it

module _ (how : Recipe) (p : Placement) (lay : Layout) (laid : lay ≡ layout_of how p.width p.height) where
  -- the layout by its own sides
  pub laid_so : lay ≡ layout_of how lay.width lay.height
  laid_so =
      subst
      (λ (l : Layout). l ≡ layout_of how l.width l.height) {x = layout_of how p.width p.height} {y = lay}
      (sym laid) refl

  pub same_sides : SameSides lay p
  same_sides = subst (λ (l : Layout). SameSides l p) (sym laid) (record { across = refl; down = refl })

  pub runs_asks :
      (source scratch : ℕ) → Enters how p source scratch → (profile reaches : List ℕ)
      → Tables how (compact_height lay) profile reaches
      → (n : ℕ) → n ≡ scratch → PassReady how lay profile reaches n
  runs_asks source scratch enters profile reaches all n same =
      record {
        segment = enters.segment;
        laid = laid_so;
        count_most = enters.count_most;
        boxes = boxes_on enters;
        tables = tabled how lay laid_so profile reaches all;
        two_pages = room_in enters n same;
      }
    where
      boxes_on : Enters how p source scratch → BoxesLie (recipe_boxes how) lay
      boxes_on e = subst (BoxesLie (recipe_boxes how)) (sym laid) e.boxes

      room_in : Enters how p source scratch → (n : ℕ) → n ≡ scratch
          → lay.width * lay.height + lay.width * lay.height ≤ n
      room_in e n same =
          subst (λ (l : Layout). l.width * l.height + l.width * l.height ≤ n) (sym laid) (omega (arith, e.room))

  pub boxes_lie : (source scratch : ℕ) → Enters how p source scratch → BoxesLie (recipe_boxes how) lay
  boxes_lie source scratch e = subst (BoxesLie (recipe_boxes how)) (sym laid) e.boxes

  pub room_one : (source scratch : ℕ) → Enters how p source scratch → lay.width * lay.height ≤ scratch
  room_one source scratch e = subst (λ (l : Layout). l.width * l.height ≤ scratch) (sym laid) (omega (arith, e.room))

  pub ready_as :
      (source : List ℕ) → ((k : ℕ) → get_or source k 0 < 256) → (one two three four : List ℕ) (work : ℕ)
      → PageIn source p lay one two
      → PassDone how lay (operated how.operation how.segment)
      (work_of how.operation how.segment lay.width lay.height) 6 two three work
      → BoxesPainted (recipe_boxes how) lay how.white three four → Ready how p source one four work
  ready_as source bytes one two three four work into through whited =
      ready how p source bytes one two three four work
      (subst (λ (l : Layout). PageIn source p l one two) laid into)
      (subst
      (λ (l : Layout). PassDone how l (operated how.operation how.segment)
      (work_of how.operation how.segment l.width l.height) 6 two three work) laid through)
      (subst (λ (l : Layout). BoxesPainted (recipe_boxes how) l how.white three four) laid whited)

-- ---- out of it

module _ (how : Recipe) (from to : Placement) (n m k : ℕ) (fits : Fits how from to n m k) (lay : Layout)
    (laid : lay ≡ layout_of how from.width from.height) where
  pub sides_out : SameSides lay to
  sides_out =
      subst (λ (l : Layout). SameSides l to) (sym laid) (record { across = fits.same_width; down = fits.same_height })

  pub given_out :
      (source output scratch used after : List ℕ) (work : ℕ) → Ready how from source scratch used work
      → after ≡ written to (compact_pixel used lay) output → Filtered how from to source output scratch after used work
  unfolding compact_pixel
  given_out source output scratch used after work ready out =
      record {
        written_is =
            out
            ∙ written_same to _ _ output
            (λ r r_in c c_in. ap (λ (l : Layout). get_or used (compact_at l c r) 0) laid
            ∙ ready.pixel r (omega (arith, fits.same_height)) c (omega (arith, fits.same_width)));
        same_length = ready.same_length;
        rest = ready.rest;
        work_is = ready.work_is;
        work_few = ready.work_few;
      }

  pub rows_fit : compact_height lay ≤ 8192
  rows_fit = rows_most how lay (boxes_lie how from lay laid n k fits.enters)
