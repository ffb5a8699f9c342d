-- Boxes on the compact page: a rectangle of the page is a rectangle there, and painting the one paints the other.
-- Assumes nothing.
use mathlib.Core.Path.{◌≡◌, sym, subst}
use mathlib.Core.Bool.{Bool, true, false}
use mathlib.Core.List.{List}
use Prim.Native.Nat.{ℕ, ◌*◌, ◌/◌, ◌%◌, ◌≤◌, ◌<◌}
use native.Mathlib.Nat.{mul-le-mul_right, mod-lt, div-add-mod', le-div_iff_mul-le}
use native.Mathlib.Omega.{arith}
use lib.ListN.{get_or}
use Rattle.geometry.specs.Drift.{mirrored}
use Rattle.geometry.proofs.Laws.{mirrored_falling, mirrored_rising}
use Rattle.tray.specs.declared.Layout.{Layout}
use Rattle.tray.specs.declared.Rectangle.{Rectangle}
use Rattle.tray.specs.Turned.{down_of, across_of, compact_width, compact_height, compact_row, compact_column}
use Rattle.tray.specs.Turned.{compact_at}
use Rattle.tray.specs.Turned.{InRectangle, mirrored_from, mirrored_to, turned_box}
use Rattle.tray.specs.Promises.{RectangleFits, RectangleInRows, RectanglePainted, BoxPainted}
use Rattle.tray.specs.Laws.{laid_so, sides_product, compact_column_in}

mirrored_between :
    (falls : Bool) (w m n k : ℕ) → n ≤ w → k < w → m ≤ k → k < n
    → (mirrored_from falls w m n ≤ mirrored falls w k) × (mirrored falls w k < mirrored_to falls w m n)
unfolding mirrored_from mirrored_to
mirrored_between true w m n k n-in k-in from to =
    (omega (arith, mirrored_falling w k), omega (arith, mirrored_falling w k))
mirrored_between false w m n k n-in k-in from to =
    (omega (arith, mirrored_rising w k), omega (arith, mirrored_rising w k))

between_mirrored :
    (falls : Bool) (w m n k : ℕ) → n ≤ w → k < w → mirrored_from falls w m n ≤ mirrored falls w k
    → mirrored falls w k < mirrored_to falls w m n → (m ≤ k) × (k < n)
unfolding mirrored_from mirrored_to
between_mirrored true w m n k n-in k-in from to =
    (omega (arith, mirrored_falling w k), omega (arith, mirrored_falling w k))
between_mirrored false w m n k n-in k-in from to =
    (omega (arith, mirrored_rising w k), omega (arith, mirrored_rising w k))

-- a pixel of the page lies in a rectangle of the page exactly where its compact place lies in the turned rectangle
module _
    (lay : Layout) (x : Rectangle) (right_in : x.right ≤ lay.width) (bottom_in : x.bottom ≤ lay.height) (c r : ℕ)
    (c_in : c < lay.width) (r_in : r < lay.height)
  where
    abbrev Turned : Bool → Type 0
    Turned steep =
        let so = laid_so lay steep in
        InRectangle (turned_box so x) (compact_row so c r) (compact_column so c r)

    in_turned : InRectangle x r c → InRectangle (turned_box lay x) (compact_row lay c r) (compact_column lay c r)
    unfolding turned_box compact_column down_of across_of
    in_turned i = by_way lay.steep
      where
        by_way : (steep : Bool) → Turned steep
        by_way true =
            let across =
            mirrored_between lay.falls lay.width x.left x.right c right_in c_in i.from_left i.before_right in
            record {
              below_top = i.below_top;
              above_bottom = i.above_bottom;
              from_left = across.0;
              before_right = across.1;
            }
        by_way false =
            let across =
            mirrored_between lay.falls lay.height x.top x.bottom r bottom_in r_in i.below_top i.above_bottom in
            record {
              below_top = i.from_left;
              above_bottom = i.before_right;
              from_left = across.0;
              before_right = across.1;
            }

    turned_in : InRectangle (turned_box lay x) (compact_row lay c r) (compact_column lay c r) → InRectangle x r c
    unfolding turned_box compact_column down_of across_of
    turned_in = by_way lay.steep
      where
        by_way : (steep : Bool) → Turned steep → InRectangle x r c
        by_way true i =
            let across =
            between_mirrored lay.falls lay.width x.left x.right c right_in c_in i.from_left i.before_right in
            record {
              below_top = i.below_top;
              above_bottom = i.above_bottom;
              from_left = across.0;
              before_right = across.1;
            }
        by_way false i =
            let across =
            between_mirrored lay.falls lay.height x.top x.bottom r bottom_in r_in i.from_left i.before_right in
            record {
              below_top = across.0;
              above_bottom = across.1;
              from_left = i.below_top;
              before_right = i.above_bottom;
            }

module _ (lay : Layout) (x : Rectangle) (on : RectangleFits x lay.width lay.height) where
  bottom_turned : (turned_box lay x).bottom ≤ compact_height lay
  unfolding turned_box down_of
  bottom_turned = by_way lay.steep
    where
      by_way : (steep : Bool) → down_of steep x.right x.bottom ≤ down_of steep lay.width lay.height
      by_way true = on.bottom_in
      by_way false = on.right_in

  across_least : 1 ≤ compact_width lay
  unfolding across_of
  across_least = by_way lay.steep
    where
      by_way : (steep : Bool) → 1 ≤ across_of steep lay.width lay.height
      by_way true = on.width_least
      by_way false = on.height_least

  abbrev so : Bool → Bool → Rectangle
  so steep falls = turned_box (record { steep = steep; falls = falls; width = lay.width; height = lay.height }) x

  box_in_rows : (n : ℕ) → lay.width * lay.height ≤ n → RectangleInRows (turned_box lay x) (compact_width lay) n
  unfolding turned_box down_of across_of mirrored_from mirrored_to
  box_in_rows n room =
      record {
        row_least = across_least;
        high = high_way lay.steep;
        wide = wide_way lay.steep lay.falls;
        right_in = right_way lay.steep lay.falls;
        rows_in =
            let product = sides_product lay.steep lay.width lay.height in
            omega (arith, mul-le-mul_right (compact_width lay) bottom_turned, product);
      }
    where
      high_way : (steep : Bool) → down_of steep x.left x.top ≤ down_of steep x.right x.bottom
      high_way true = on.high
      high_way false = on.wide

      wide_way : (steep falls : Bool) → (so steep falls).left ≤ (so steep falls).right
      wide_way true true = omega (arith, on.wide)
      wide_way true false = on.wide
      wide_way false true = omega (arith, on.high)
      wide_way false false = on.high

      right_way : (steep falls : Bool) → (so steep falls).right ≤ across_of steep lay.width lay.height
      right_way true true = omega arith
      right_way true false = on.right_in
      right_way false true = omega arith
      right_way false false = on.bottom_in

  -- painting the turned rectangle paints the box's pixels, and no others
  box_painted :
      (value : ℕ) (before after : List ℕ) → RectanglePainted (compact_width lay) (turned_box lay x) value before after
      → BoxPainted lay x value before after
  unfolding compact_at
  box_painted value before after p =
      record {
        size = p.size;
        hidden = λ r r_in c c_in i.
            p.painted (compact_row lay c r) (compact_column lay c r)
            (in_turned lay x on.right_in on.bottom_in c r c_in r_in i);
        shown = λ r r_in c c_in out.
            p.kept (compact_row lay c r) (compact_column lay c r) (compact_column_in lay c r c_in r_in)
            (λ i. out (turned_in lay x on.right_in on.bottom_in c r c_in r_in i));
        rest = λ i l.
            let w = compact_width lay in
            let product = sides_product lay.steep lay.width lay.height in
            let past : compact_height lay ≤ i / w = (le-div_iff_mul-le across_least).1 (omega (arith, product)) in
            let same =
            p.kept (i / w) (i % w) (mod-lt i across_least)
            (λ q. omega (arith, q.above_bottom, bottom_turned, past)) in
            subst (λ (k : ℕ). get_or after k 0 ≡ get_or before k 0) (div-add-mod' i w) same;
      }

  -- the same for the rectangle and the row's length that were computed
  module _ (y : Rectangle) (w : ℕ) (turned : y ≡ turned_box lay x) (across : w ≡ compact_width lay) where
    pub box_in_rows_as : (n : ℕ) → lay.width * lay.height ≤ n → RectangleInRows y w n
    box_in_rows_as n room =
        subst (λ (v : ℕ). RectangleInRows y v n) (sym across)
        (subst (λ (z : Rectangle). RectangleInRows z (compact_width lay) n) (sym turned) (box_in_rows n room))

    pub box_painted_as :
        (value : ℕ) (before after : List ℕ) → RectanglePainted w y value before after
        → BoxPainted lay x value before after
    box_painted_as value before after p =
        box_painted value before after
        (subst (λ (v : ℕ). RectanglePainted v (turned_box lay x) value before after) across
        (subst (λ (z : Rectangle). RectanglePainted w z value before after) turned p))
