-- The compact page: that it fits its tray, and what pages taken in and given out hold.
-- Assumes nothing.
use Rattle.std.proofs.Common.{◌≡◌, ℕ, ◌+◌, ◌-◌, ◌*◌, ◌<◌, ◌≤◌, Bool, true, false, List, length, get_or, sym, ap, ◌∙◌}
use Rattle.std.proofs.Common.{subst, le_refl, mul_comm, arith}
use Rattle.geometry.specs.Drift.{mirrored}
use Rattle.geometry.proofs.Laws.{mirrored_rising, mirrored_twice}
use Rattle.placement.specs.Placement.{byte_of, pixel_in, longest_side, Placed}
use Rattle.placement.proofs.Laws.{outside_past}
use Rattle.placement.specs.declared.Placement.{Placement}
use Rattle.tray.specs.declared.Layout.{Layout}
use Rattle.turning.specs.declared.turn.Turn.{Turn}
use Rattle.tray.specs.Written.{written}
use Rattle.tray.specs.Turned.{down_of, across_of, compact_row, compact_column, compact_at, compact_of}
use Rattle.turning.specs.Promises.{SameSides, PageIn, compact_pixel}
use Rattle.tray.specs.Laws.{length_written, written_outside, written_pixel, written_same}
use Rattle.tray.specs.Laws.{laid_so, compact_row_in, compact_column_in, compact_below, compact_byte}
use Rattle.turning.specs.Pieces.{Alike, Turnable, copied_pixel, source_pixel, turned_pixel}

rows_fit : (w h m : ℕ) → 1 ≤ h → h * w ≤ m → 0 + (h - 1) * w + w ≤ m
rows_fit w h m some fits =
    let back : (h - 1 + 1) * w ≡ h * w = ap (λ (k : ℕ). k * w) (omega arith) in
    omega (arith, back)

module _
    (lay : Layout) (p : Placement) (n m : ℕ) (placed : Placed p n) (same : SameSides lay p)
    (room : lay.width * lay.height ≤ m)
  where
    width_least : 1 ≤ lay.width
    width_least = omega (arith, placed.width_least, same.across)

    width_most : lay.width ≤ longest_side
    width_most = omega (arith, placed.width_most, same.across)

    height_least : 1 ≤ lay.height
    height_least = omega (arith, placed.height_least, same.down)

    height_most : lay.height ≤ longest_side
    height_most = omega (arith, placed.height_most, same.down)

    compact_placed : Placed (compact_of lay) m
    unfolding compact_of down_of across_of
    compact_placed = by_way lay.steep
      where
        by_way : (steep : Bool) → Placed (compact_of (laid_so lay steep)) m
        by_way true =
            record {
              width_least = width_least;
              width_most = width_most;
              height_least = height_least;
              height_most = height_most;
              stride_least = le_refl lay.width;
              stride_most = omega (arith, width_most);
              fitting =
                  let turned = mul_comm lay.width lay.height in
                  rows_fit lay.width lay.height m height_least (omega (arith, turned, room));
            }
        by_way false =
            record {
              width_least = height_least;
              width_most = height_most;
              height_least = width_least;
              height_most = width_most;
              stride_least = le_refl lay.height;
              stride_most = omega (arith, height_most);
              fitting = rows_fit lay.height lay.width m width_least room;
            }

-- a page taken in: whatever was written holds the page's pixels in their compact places
module _
    (source : List ℕ) (p : Placement) (lay : Layout) (n : ℕ) (before : List ℕ) (placed : Placed p n)
    (same : SameSides lay p) (room : lay.width * lay.height ≤ length before)
  where
    byte_in :
        (c r : ℕ) → c < lay.width → r < lay.height
        → byte_of (compact_of lay) (compact_column lay c r) (compact_row lay c r) < length before
    byte_in c r c_in r_in = rw (compact_byte lay c r) (omega (arith, compact_below lay c r c_in r_in, room))

    page_in :
        (page : ℕ → ℕ → ℕ) (after : List ℕ) → after ≡ written (compact_of lay) page before
        → ((r : ℕ) → r < lay.height → (c : ℕ) → c < lay.width
        → page (compact_column lay c r) (compact_row lay c r) ≡ pixel_in source p c r)
        → PageIn source p lay before after
    unfolding compact_of
    page_in page after is pixels =
        record {
          size = ap length is ∙ length_written (compact_of lay) page before;
          pixel = λ r r_in c c_in.
              let column = compact_column_in lay c r c_in r_in in
              ap (λ (xs : List ℕ). get_or xs (compact_at lay c r) 0) is
              ∙ ap (λ (k : ℕ). get_or (written (compact_of lay) page before) k 0) (sym (compact_byte lay c r))
              ∙ written_pixel (compact_of lay) page before (compact_column lay c r) (compact_row lay c r) column column
              (compact_row_in lay c r c_in r_in)
              (byte_in c r c_in r_in)
              ∙ pixels r r_in c c_in;
          rest = λ i l.
              let all = lay.width * lay.height in
              let past = outside_past (compact_of lay) all i (compact_placed lay p n all placed same (le_refl all)) l in
              ap (λ (xs : List ℕ). get_or xs i 0) is ∙ written_outside (compact_of lay) page before i past;
        }

-- ---- a pixel's compact place, by the way of the lines

module _ (lay : Layout) (c r : ℕ) where
  row_steep : lay.steep ≡ true → compact_row lay c r ≡ r
  unfolding down_of
  row_steep way = ap (λ (s : Bool). down_of s c r) way

  column_steep : lay.steep ≡ true → compact_column lay c r ≡ mirrored lay.falls lay.width c
  unfolding compact_column across_of
  column_steep way =
      ap (λ (s : Bool). mirrored lay.falls (across_of s lay.width lay.height) (across_of s c r)) way

  row_shallow : lay.steep ≡ false → compact_row lay c r ≡ c
  unfolding down_of
  row_shallow way = ap (λ (s : Bool). down_of s c r) way

  column_shallow : lay.steep ≡ false → compact_column lay c r ≡ mirrored lay.falls lay.height r
  unfolding compact_column across_of
  column_shallow way =
      ap (λ (s : Bool). mirrored lay.falls (across_of s lay.width lay.height) (across_of s c r)) way

-- ---- the four ways: q is where the compact page of p stands

module _ (lay : Layout) (p q : Placement) (same : SameSides lay p) (is : q ≡ compact_of lay) where
  wide : (s : Bool) → lay.steep ≡ s → q.width ≡ across_of s lay.width lay.height
  unfolding compact_of
  wide s way = ap (λ (x : Placement). x.width) is ∙ ap (λ (b : Bool). across_of b lay.width lay.height) way

  high : (s : Bool) → lay.steep ≡ s → q.height ≡ down_of s lay.width lay.height
  unfolding compact_of
  high s way = ap (λ (x : Placement). x.height) is ∙ ap (λ (b : Bool). down_of b lay.width lay.height) way

  pub placed_compact : (n m : ℕ) → Placed p n → lay.width * lay.height ≤ m → Placed q m
  placed_compact n m placed room =
      subst (λ (x : Placement). Placed x m) (sym is) (compact_placed lay p n m placed same room)

  pub alike_in : lay.steep ≡ true → Alike p q
  unfolding down_of across_of
  alike_in way = record { across = wide true way ∙ sym same.across; down = high true way ∙ sym same.down }

  pub alike_out : lay.steep ≡ true → Alike q p
  unfolding down_of across_of
  alike_out way = record { across = same.across ∙ sym (wide true way); down = same.down ∙ sym (high true way) }

  pub turnable_in :
      (n m : ℕ) (up down : Bool) → lay.steep ≡ false → Placed p n → Placed q m
      → Turnable (record { source = p; target = q; readup = up; writeup = down }) n m
  unfolding down_of across_of
  turnable_in n m up down way from to =
      record {
        from_tray = from;
        to_tray = to;
        across = wide false way ∙ sym same.down;
        down = high false way ∙ sym same.across;
      }

  pub turnable_out :
      (n m : ℕ) (up down : Bool) → lay.steep ≡ false → Placed q n → Placed p m
      → Turnable (record { source = q; target = p; readup = up; writeup = down }) n m
  unfolding down_of across_of
  turnable_out n m up down way from to =
      record {
        from_tray = from;
        to_tray = to;
        across = same.across ∙ sym (high false way);
        down = same.down ∙ sym (wide false way);
      }

  -- a shallow page is turned on its way in, and on its way out
  abbrev turn_in : Turn
  turn_in = record { source = p; target = q; readup = lay.falls; writeup = false }

  abbrev turn_out : Turn
  turn_out = record { source = q; target = p; readup = false; writeup = lay.falls }

  module _ (tray : List ℕ) (c r : ℕ) where
    copied_in :
        lay.steep ≡ true → c < lay.width
        → copied_pixel tray p lay.falls (compact_column lay c r) (compact_row lay c r) ≡ pixel_in tray p c r
    unfolding copied_pixel
    copied_in way c_in =
        ap (pixel_in tray p (mirrored lay.falls p.width (compact_column lay c r))) (row_steep lay c r way)
        ∙ ap (λ (k : ℕ). pixel_in tray p (mirrored lay.falls k (compact_column lay c r)) r) same.across
        ∙ ap (λ (k : ℕ). pixel_in tray p (mirrored lay.falls lay.width k) r) (column_steep lay c r way)
        ∙ ap (λ (k : ℕ). pixel_in tray p k r) (mirrored_twice lay.falls lay.width c c_in)

    turned_in :
        lay.steep ≡ false → r < lay.height
        → turned_pixel tray turn_in (compact_column lay c r) (compact_row lay c r) ≡ pixel_in tray p c r
    unfolding turned_pixel source_pixel
    turned_in way r_in =
        ap (λ (k : ℕ). pixel_in tray p k (mirrored lay.falls p.height (compact_column lay c r)))
        (mirrored_rising q.height (compact_row lay c r) ∙ row_shallow lay c r way)
        ∙ ap (λ (k : ℕ). pixel_in tray p c (mirrored lay.falls k (compact_column lay c r))) same.down
        ∙ ap (λ (k : ℕ). pixel_in tray p c (mirrored lay.falls lay.height k)) (column_shallow lay c r way)
        ∙ ap (pixel_in tray p c) (mirrored_twice lay.falls lay.height r r_in)

    -- a byte of q, found by a compact place
    found : get_or tray (byte_of q (compact_column lay c r) (compact_row lay c r)) 0 ≡ compact_pixel tray lay c r
    unfolding compact_pixel
    found =
        ap (λ (x : Placement). get_or tray (byte_of x (compact_column lay c r) (compact_row lay c r)) 0) is
        ∙ ap (λ (k : ℕ). get_or tray k 0) (compact_byte lay c r)

    copied_out : lay.steep ≡ true → copied_pixel tray q lay.falls c r ≡ compact_pixel tray lay c r
    unfolding copied_pixel pixel_in across_of
    copied_out way =
        ap (λ (k : ℕ). get_or tray (byte_of q (mirrored lay.falls k c) r) 0) (wide true way)
        ∙ ap (λ (k : ℕ). get_or tray (byte_of q k r) 0) (sym (column_steep lay c r way))
        ∙ ap (λ (k : ℕ). get_or tray (byte_of q (compact_column lay c r) k) 0) (sym (row_steep lay c r way))
        ∙ found

    turned_out : lay.steep ≡ false → turned_pixel tray turn_out c r ≡ compact_pixel tray lay c r
    unfolding turned_pixel source_pixel pixel_in
    turned_out way =
        ap (λ (k : ℕ). get_or tray (byte_of q (mirrored lay.falls k r) (mirrored false q.height c)) 0) same.down
        ∙ ap (λ (k : ℕ). get_or tray (byte_of q k (mirrored false q.height c)) 0) (sym (column_shallow lay c r way))
        ∙ ap (λ (k : ℕ). get_or tray (byte_of q (compact_column lay c r) k) 0)
        (mirrored_rising q.height c ∙ sym (row_shallow lay c r way))
        ∙ found

  module _ (before after : List ℕ) where
    pub in_steep :
        (source : List ℕ) (n : ℕ) → lay.steep ≡ true → Placed p n → lay.width * lay.height ≤ length before
        → after ≡ written q (copied_pixel source p lay.falls) before → PageIn source p lay before after
    in_steep source n way placed room done =
        let page = copied_pixel source p lay.falls in
        page_in source p lay n before placed same room page after
        (done ∙ ap (λ (x : Placement). written x page before) is)
        (λ r r_in c c_in. copied_in source c r way c_in)

    pub in_shallow :
        (source : List ℕ) (n : ℕ) → lay.steep ≡ false → Placed p n → lay.width * lay.height ≤ length before
        → after ≡ written q (turned_pixel source turn_in) before → PageIn source p lay before after
    in_shallow source n way placed room done =
        let page = turned_pixel source turn_in in
        page_in source p lay n before placed same room page after
        (done ∙ ap (λ (x : Placement). written x page before) is)
        (λ r r_in c c_in. turned_in source c r way r_in)

    pub out_steep :
        (page : List ℕ) → lay.steep ≡ true → after ≡ written p (copied_pixel page q lay.falls) before
        → after ≡ written p (compact_pixel page lay) before
    out_steep page way done =
        done
        ∙ written_same p (copied_pixel page q lay.falls) (compact_pixel page lay) before
        (λ r r_in c c_in. copied_out page c r way)

    pub out_shallow :
        (page : List ℕ) → lay.steep ≡ false → after ≡ written p (turned_pixel page turn_out) before
        → after ≡ written p (compact_pixel page lay) before
    out_shallow page way done =
        done
        ∙ written_same p (turned_pixel page turn_out) (compact_pixel page lay) before
        (λ r r_in c c_in. turned_out page c r way)
