-- One pass over the scratch filters the page that it holds. Assumes nothing.
use mathlib.Core.Path.{◌≡◌, refl, sym, ap, ap₂, ◌∙◌, subst, subst₂}
use mathlib.Core.Bool.{Bool, true, false, cond}
use mathlib.Core.Option.{none, some}
use mathlib.Core.List.{List}
use Prim.Native.Nat.{ℕ, ◌+◌, ◌*◌, ◌≤◌, ◌<◌, zero-le}
use native.Mathlib.Nat.{zero-add, mul-le-mul_left, mul-le-mul_right}
use native.Mathlib.Omega.{arith}
use lib.ListN.{get_or}
use Rattle.geometry.specs.Drift.{mirrored}
use Rattle.runs.specs.Grid.{Page, Sized, Tabled, windowed_at}
use Rattle.runs.specs.Scratch.{size}
use Rattle.sweep.specs.Sweeps.{RowsHold, Passed}
use Rattle.runs.specs.declared.Grid.{Grid}
use Rattle.filter.proofs.Absence.{pass_off}
use Rattle.ticket.specs.declared.Operation.{Operation}
use Rattle.ticket.specs.declared.Operation.TheVariants.{Erode, Dilate, Open, Close}
use Rattle.filter.specs.declared.Recipe.{Recipe}
use Rattle.tray.specs.Turned.{across_of, down_of, compact_column, compact_at}
use Rattle.tray.specs.declared.Layout.{Layout}
use Rattle.tray.specs.Laws.{down_in, across_in, compact_column_in, sides_product}
use Rattle.boxes.specs.Boxes.{hidden}
use Rattle.hiding.specs.Hiding.{BoxesLie, BoxesPainted}
use Rattle.filter.specs.Seen.{View, turned}
use Rattle.filter.specs.Filters.{pass, eroded, dilation_back, dilated, opened, closed, operated, recipe_boxes}
use Rattle.filter.specs.Work.{pass_work, erosion_work, dilation_work, work_of}
use Rattle.filter.specs.Engine.{neutral, or_neutral, Absent, Shows, steep_of, falls_of, layout_of, back_of}
use Rattle.filter.specs.Engine.{passed, pass_cost, passed_twice, twice_cost, grid_of, scratch_place, Held, Fair}
use Rattle.filter.specs.Engine.{PassReady, PassDone}
use Rattle.filter.proofs.Bridge.{bridge}
use Rattle.filter.proofs.Charges.{work}
use Rattle.filter.proofs.Grids.{grid_sized}
use Rattle.filter.proofs.Laws.{pass_absent}
use Rattle.filter.proofs.Kept.{pass_bytes}

-- ---- columns and rows, and places on the axes

-- a page by its axes is the page by columns and rows
pub turned_is : (steep : Bool) (page : View) (c r : ℕ)
    → turned steep page c r ≡ page (down_of steep c r) (across_of steep c r)
unfolding turned down_of across_of
turned_is true page c r = refl
turned_is false page c r = refl

pub turned_back : (steep : Bool) (page : View) (M m : ℕ)
    → turned steep page (down_of steep M m) (across_of steep M m) ≡ page M m
unfolding turned down_of across_of
turned_back true page M m = refl
turned_back false page M m = refl

-- the column and the row of a place on the axes
record Pixel (steep : Bool) (width height M m : ℕ) : Type 0 where
  column : down_of steep M m < width
  row : across_of steep M m < height
  down : down_of steep (down_of steep M m) (across_of steep M m) ≡ M
  across : across_of steep (down_of steep M m) (across_of steep M m) ≡ m

pixel : (steep : Bool) (width height M m : ℕ) → M < down_of steep width height → m < across_of steep width height
    → Pixel steep width height M m
unfolding down_of across_of
pixel true width height M m rows columns = record { column = columns; row = rows; down = refl; across = refl }
pixel false width height M m rows columns = record { column = rows; row = columns; down = refl; across = refl }

-- the compact column, written out
column_as :
    (lay : Layout) (c r : ℕ) → compact_column lay c r < across_of lay.steep lay.width lay.height
    → mirrored lay.falls (across_of lay.steep lay.width lay.height) (across_of lay.steep c r)
    < across_of lay.steep lay.width lay.height
unfolding compact_column
column_as lay c r h = h

-- ---- one pass

module _ (how : Recipe) (ok : Fair how.segment) (width height : ℕ)
    (lie : BoxesLie (recipe_boxes how) (layout_of how width height)) (low : Bool) where
  abbrev W : ℕ
  W = across_of (steep_of how) width height

  abbrev H : ℕ
  H = down_of (steep_of how) width height

  abbrev g : Grid
  g = grid_of how width height low

  sized : Sized g
  sized = grid_sized how ok width height lie.wide lie.high lie.width_most lie.height_most low

  -- a pixel's place, by its axes
  place_is : (c r : ℕ)
      → scratch_place how width height c r
      ≡ down_of (steep_of how) c r * W + mirrored (falls_of how) W (across_of (steep_of how) c r)
  unfolding compact_at compact_column
  place_is c r = refl

  module _ (old mid new : List ℕ) (count : ℕ)
      (painted : BoxesPainted (recipe_boxes how) (layout_of how width height) (neutral low) old mid)
      (swept : Passed g mid new count) where
    -- the page that the sweeps see
    abbrev f : Page
    f R x = get_or mid (0 + (R * W + x)) 0

    -- the place of (M, m), found by its column and row
    found : (M m : ℕ) → M < H → m < W
        → f M (mirrored (falls_of how) W m)
        ≡ get_or mid (scratch_place how width height (down_of (steep_of how) M m) (across_of (steep_of how) M m)) 0
    found M m rows columns =
        let p = pixel (steep_of how) width height M m rows columns in
        ap (λ (i : ℕ). get_or mid i 0)
        (zero-add (M * W + mirrored (falls_of how) W m)
        ∙ ap₂ (λ (a b : ℕ). a * W + mirrored (falls_of how) W b) (sym p.down) (sym p.across)
        ∙ sym (place_is (down_of (steep_of how) M m) (across_of (steep_of how) M m)))

    module _ (page : View) (held : Held how width height page old) where
      shown_by : (hid : Bool) (M m : ℕ) → M < H → m < W
          → hidden (recipe_boxes how) (down_of (steep_of how) M m) (across_of (steep_of how) M m) ≡ hid
          → f M (mirrored (falls_of how) W m) ≡ or_neutral low (page M m)
      unfolding or_neutral
      shown_by true M m rows columns e =
          let p = pixel (steep_of how) width height M m rows columns in
          let there : page M m ≡ none =
          sym (turned_back (steep_of how) page M m) ∙ held.none_there _ p.row _ p.column e in
          found M m rows columns ∙ painted.hides _ p.row _ p.column e ∙ sym (ap (or_neutral low) there)
      shown_by false M m rows columns e =
          let p = pixel (steep_of how) width height M m rows columns in
          let there = sym (turned_back (steep_of how) page M m) ∙ held.one_there _ p.row _ p.column e in
          found M m rows columns ∙ painted.shows _ p.row _ p.column e ∙ sym (ap (or_neutral low) there)

      shows : Shows g page f
      unfolding Shows grid_of
      shows M m rows columns = shown_by _ M m rows columns refl

      absent : Absent g.height g.width page
      unfolding grid_of
      absent = held.absent

      abbrev after : View
      after = pass low how.segment.line (back_of how.segment low) how.segment.length page

      made : (M : ℕ) → M < H → (x : ℕ) → x < W → get_or new (0 + (M * W + x)) 0 ≡ windowed_at g f M x
      unfolding RowsHold grid_of
      made M rows x columns = swept.made f (λ R lo hi x' k. refl) M zero-le rows x columns

      one_after : (r : ℕ) → r < height → (c : ℕ) → c < width → hidden (recipe_boxes how) c r ≡ false
          → turned (steep_of how) after c r ≡ some (get_or new (scratch_place how width height c r) 0)
      unfolding grid_of
      one_after r r_in c c_in e =
          let M : ℕ = down_of (steep_of how) c r in
          let m : ℕ = across_of (steep_of how) c r in
          let rows : M < H = down_in (steep_of how) c r width height c_in r_in in
          let columns : m < W = across_in (steep_of how) c r width height c_in r_in in
          let there = sym (turned_is (steep_of how) page c r) ∙ held.one_there r r_in c c_in e in
          let value = bridge g sized page absent held.bytes f shows M m _ rows columns there in
          let column = compact_column_in (layout_of how width height) c r c_in r_in in
          turned_is (steep_of how) after c r
          ∙ value
          ∙ ap some
          (sym
          (ap (λ (i : ℕ). get_or new i 0) (place_is c r ∙ sym (zero-add _))
          ∙ made M rows (mirrored (falls_of how) W m) (column_as (layout_of how width height) c r column)))

      pub held_after : Held how width height after new
      held_after =
          record {
            absent =
                pass_off low how.segment.line (back_of how.segment low) how.segment.length H W page
                held.absent;
            bytes =
                pass_bytes page held.bytes low how.segment.line (back_of how.segment low)
                how.segment.length;
            none_there = λ r r_in c c_in e.
                turned_is (steep_of how) after c r
                ∙ pass_absent low how.segment.line (back_of how.segment low) how.segment.length page _ _
                (sym (turned_is (steep_of how) page c r) ∙ held.none_there r r_in c c_in e);
            one_there = one_after;
          }

    pub pass_done : PassDone how (layout_of how width height) (passed how low)
        (pass_cost how (layout_of how width height) low) 3 old new count
    unfolding grid_of
    pass_done =
        let product = sides_product (steep_of how) width height in
        record {
          same_length = swept.kept.same_length ∙ painted.same_length;
          rest = λ i h. swept.kept.above i (omega arith) ∙ painted.rest i (omega arith);
          page = held_after;
          counted = swept.counted ∙ sym (work g sized);
          few = omega (arith, swept.most);
        }

-- ---- what the code found, as the laws have it

two_pages : (how : Recipe) (width height : ℕ) (low : Bool) (n : ℕ) → width * height + width * height ≤ n
    → size (grid_of how width height low) + size (grid_of how width height low) ≤ n
unfolding grid_of
two_pages how width height low n h = omega (arith, sides_product (steep_of how) width height)

painted_as :
    (how : Recipe) (lay : Layout) (value : ℕ) (low : Bool) (old mid : List ℕ)
    → lay ≡ layout_of how lay.width lay.height
    → value ≡ neutral low → BoxesPainted (recipe_boxes how) lay value old mid
    → BoxesPainted (recipe_boxes how) (layout_of how lay.width lay.height) (neutral low) old mid
painted_as how lay value low old mid el ev painted =
    subst₂ (λ (l : Layout) (v : ℕ). BoxesPainted (recipe_boxes how) l v old mid) el ev painted

passed_as : (g h : Grid) (old new : List ℕ) (count : ℕ) → g ≡ h → Passed g old new count → Passed h old new count
passed_as g h old new count e swept = subst (λ (q : Grid). Passed q old new count) e swept

-- what a pass asks of its grid
pub pass_asks :
    (how : Recipe) (lay : Layout) (profile reaches : List ℕ) (room : ℕ) → PassReady how lay profile reaches room
    → (low : Bool) (g : Grid)
    → g ≡ grid_of how lay.width lay.height low → (n : ℕ) → n ≡ room
    → Sized g × Tabled g profile reaches × (size g + size g ≤ n)
pass_asks how lay profile reaches room runs low g is n same =
    subst (λ (q : Grid). Sized q × Tabled q profile reaches × (size q + size q ≤ n)) (sym is) (
      grid_sized how runs.segment lay.width lay.height lie.wide lie.high lie.width_most
          lie.height_most low,
      runs.tables low,
      two_pages how lay.width lay.height low n (omega (arith, runs.two_pages)),
    )
  where
    lie : BoxesLie (recipe_boxes how) lay
    lie = runs.boxes

-- a pass over a page laid out so
pub pass_done_as :
    (how : Recipe) (lay : Layout) (profile reaches : List ℕ) (room : ℕ) → PassReady how lay profile reaches room
    → (low : Bool) (g : Grid)
    → g ≡ grid_of how lay.width lay.height low → (value : ℕ) → value ≡ neutral low
    → (old mid new : List ℕ) (count : ℕ)
    → BoxesPainted (recipe_boxes how) lay value old mid → Passed g mid new count
    → PassDone how lay (passed how low) (pass_cost how lay low) 3 old new count
pass_done_as how lay profile reaches room runs low g is value ev old mid new count painted swept =
    subst (λ (l : Layout). PassDone how l (passed how low) (pass_cost how l low) 3 old new count) (sym runs.laid)
    (pass_done how runs.segment lay.width lay.height
    (subst (BoxesLie (recipe_boxes how)) runs.laid runs.boxes) low old mid new count
    (painted_as how lay value low old mid runs.laid ev painted)
    (passed_as g (grid_of how lay.width lay.height low) mid new count is swept))

-- ---- two passes

module _ (how : Recipe) (lay : Layout) where
  pub passes_then : (F G : View → View) (a b : ℕ) (old mid new : List ℕ) (n m : ℕ) → PassDone how lay F a 3 old mid n
      → PassDone how lay G b 3 mid new m
      → PassDone how lay (λ (page : View). G (F page)) (a + b) 6 old new (n + m)
  passes_then F G a b old mid new n m first second =
      record {
        same_length = second.same_length ∙ first.same_length;
        rest = λ i h. second.rest i h ∙ first.rest i h;
        page = λ page held. second.page (F page) (first.page page held);
        counted = omega (arith, first.counted, second.counted);
        few = omega (arith, first.few, second.few);
      }

-- ---- the four operations

module _ (how : Recipe) (lay : Layout) (laid : lay ≡ layout_of how lay.width lay.height) where
  eroded_is : (page : View) → passed how true page ≡ eroded how.segment page
  unfolding eroded back_of
  eroded_is page = refl

  dilated_is : (page : View) → passed how false page ≡ dilated how.segment page
  unfolding dilated back_of
  dilated_is page = refl

  sides_as :
      (steep : Bool)
      → (cond steep lay.height lay.width ≡ down_of steep lay.width lay.height)
      × (cond steep lay.width lay.height ≡ across_of steep lay.width lay.height)
  unfolding down_of across_of
  sides_as true = (refl, refl)
  sides_as false = (refl, refl)

  eroding_is : pass_cost how lay true ≡ erosion_work how.segment lay.width lay.height
  unfolding back_of erosion_work
  eroding_is =
      ap
      (λ (steep : Bool). pass_work how.segment.line (down_of steep lay.width lay.height)
      (across_of steep lay.width lay.height) how.segment.length how.segment.origin)
      (ap (λ (l : Layout). l.steep) laid)
      ∙ ap₂ (λ (h w : ℕ). pass_work how.segment.line h w how.segment.length how.segment.origin)
      (sym (sides_as (steep_of how)).0)
      (sym (sides_as (steep_of how)).1)

  dilating_is : pass_cost how lay false ≡ dilation_work how.segment lay.width lay.height
  unfolding back_of dilation_work
  dilating_is =
      ap
      (λ (steep : Bool). pass_work how.segment.line (down_of steep lay.width lay.height)
      (across_of steep lay.width lay.height) how.segment.length (dilation_back how.segment))
      (ap (λ (l : Layout). l.steep) laid)
      ∙ ap₂ (λ (h w : ℕ). pass_work how.segment.line h w how.segment.length (dilation_back how.segment))
      (sym (sides_as (steep_of how)).0)
      (sym (sides_as (steep_of how)).1)

  -- what an operation makes and costs
  pub record Is (operation : Operation) (filter : View → View) (work : ℕ) : Type 0 where
    pub filter_is : (page : View) → filter page ≡ operated operation how.segment page
    pub work_is : work ≡ work_of operation how.segment lay.width lay.height

  pub erosion_is : Is Erode (passed how true) (pass_cost how lay true)
  unfolding operated work_of
  erosion_is = record { filter_is = eroded_is; work_is = eroding_is }

  pub dilation_is : Is Dilate (passed how false) (pass_cost how lay false)
  unfolding operated work_of
  dilation_is = record { filter_is = dilated_is; work_is = dilating_is }

  pub opening_is : Is Open (passed_twice how true) (twice_cost how lay true)
  unfolding operated opened work_of
  opening_is =
      record {
        filter_is = λ page. dilated_is (passed how true page) ∙ ap (dilated how.segment) (eroded_is page);
        work_is = ap₂ ◌+◌ eroding_is dilating_is;
      }

  pub closing_is : Is Close (passed_twice how false) (twice_cost how lay false)
  unfolding operated closed work_of
  closing_is =
      record {
        filter_is = λ page. eroded_is (passed how false page) ∙ ap (eroded how.segment) (dilated_is page);
        work_is = ap₂ ◌+◌ dilating_is eroding_is;
      }

  pub operated_as :
      (F : View → View) (a k : ℕ) (old new : List ℕ) (n : ℕ)
      → k * (lay.width * lay.height) ≤ 6 * (lay.width * lay.height) → {operation : Operation}
      → how.operation ≡ operation → Is operation F a
      → PassDone how lay F a k old new n
      → PassDone how lay (operated how.operation how.segment)
      (work_of how.operation how.segment lay.width lay.height) 6 old new n
  operated_as F a k old new n grows e is done =
      record {
        same_length = done.same_length;
        rest = done.rest;
        page =
            λ page held. subst (λ (p : View). Held how lay.width lay.height p new) (is.filter_is page ∙ ap (λ (o : Operation). operated o how.segment page) (sym e))
            (done.page page held);
        counted = done.counted ∙ is.work_is
            ∙ ap (λ (o : Operation). work_of o how.segment lay.width lay.height) (sym e);
        few = omega (arith, done.few);
      }

pub runs_as : (how : Recipe) (lay : Layout) (profile reaches : List ℕ) (n m : ℕ) → n ≡ m
    → PassReady how lay profile reaches m → PassReady how lay profile reaches n
runs_as how lay profile reaches n m e runs = subst (PassReady how lay profile reaches) (sym e) runs

-- how many pixels a page may have
pub pixels_most : (how : Recipe) (lay : Layout) → BoxesLie (recipe_boxes how) lay → lay.width * lay.height ≤ 67108864
pixels_most how lay lie =
    let rows : lay.width * lay.height ≤ lay.width * 8192 = mul-le-mul_left lay.width lie.height_most in
    let columns : lay.width * 8192 ≤ 8192 * 8192 = mul-le-mul_right 8192 lie.width_most in
    omega arith
