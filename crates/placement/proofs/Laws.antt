-- Laws of placements, for those who build on them. Nothing above opens where a row starts (row_start), but for the byte
-- of a compact page, in `tray`, and worked cases.
-- Assumes nothing.
use Rattle.std.specs.Prelude.{◌≡◌, refl, ◌⊎◌, Bool, true, false, ◌&&◌, List, ℕ, suc, ◌+◌, ◌-◌, ◌*◌, ◌/◌, ◌%◌, ◌≤◌, ◌<◌, get_or, take, drop, leb, ltb}
use Rattle.std.proofs.Common.{sym, ◌∙◌, ap, inl, inr, add-zero, mul-le-mul_right, mul_comm, mul_assoc, suc-mul, mod-lt, div-add-mod', div-lt_iff_lt-mul, get_or-take, get_or-drop}
use Rattle.std.proofs.Math.Logic.{by_cases}
use Rattle.std.proofs.Math.Bool.{and-eq-true_iff}
use Rattle.std.proofs.Math.Nat.{mod-eq_of_lt, div-eq_of_lt, mul-add-mod_self_right, mul-add-div_right}
use Rattle.std.proofs.Math.Decide.{dec_lt}
use native.Mathlib.Omega.{arith}
use borrow.Author.Tests.{leb-true, ltb-true, le-leb, lt-ltb}
use Rattle.placement.specs.declared.Placement.{Placement}
use Rattle.placement.specs.Placement.{row_start, byte_of, pixel_in, column_of, row_of, inside}
use Rattle.placement.specs.Placement.{longest_side, side_allowed, allowed, fits, Placed, scratch_needed}

-- ---- pages that fit, and their rows

-- what a side within its limits is, as a fact
pub side_most : (n : ℕ) → side_allowed n ≡ true → n ≤ longest_side
unfolding side_allowed
side_most n ok = leb-true n longest_side ((and-eq-true_iff (leb 1 n) (leb n longest_side)).0 ok).1

pub sides_most : (p : Placement) → allowed p ≡ true → (p.width ≤ longest_side) × (p.height ≤ longest_side)
unfolding allowed
sides_most p ok =
    let sides = ((and-eq-true_iff (side_allowed p.width && side_allowed p.height) _).0 ok).0 in
    let both = (and-eq-true_iff (side_allowed p.width) (side_allowed p.height)).0 sides in
    (side_most p.width both.0, side_most p.height both.1)

-- what the two decisions say, as facts
pub placed : (p : Placement) (n : ℕ) → allowed p ≡ true → fits p n ≡ true → Placed p n
unfolding allowed side_allowed fits
placed p n ok room =
    let sides-stride = (and-eq-true_iff _ _).0 ok in
    let sides = (and-eq-true_iff _ _).0 sides-stride.0 in
    let width = (and-eq-true_iff _ _).0 sides.0 in
    let height = (and-eq-true_iff _ _).0 sides.1 in
    let stride = (and-eq-true_iff _ _).0 sides-stride.1 in
    record {
      width_least = leb-true _ _ width.0;
      width_most = leb-true _ _ width.1;
      height_least = leb-true _ _ height.0;
      height_most = leb-true _ _ height.1;
      stride_least = leb-true _ _ stride.0;
      stride_most = leb-true _ _ stride.1;
      fitting = leb-true _ _ room;
    }

-- each row of a page that fits lies in the tray
pub row_room : (p : Placement) (n r : ℕ) → Placed p n → r < p.height → row_start p r + p.width ≤ n
unfolding row_start
row_room p n r h l =
    let steps : r ≤ p.height - 1 = omega arith in
    omega (arith, mul-le-mul_right p.stride steps, h.fitting)

-- two rows of it do not overlap
pub rows_apart :
    (p : Placement) (n r k : ℕ) → Placed p n → r < p.height → k < p.height → (r ≡ k → ⊥)
    → (row_start p r + p.width ≤ row_start p k) ⊎ (row_start p k + p.width ≤ row_start p r)
unfolding row_start
rows_apart p n r k h r_in k-in other =
    by_cases (dec_lt r k)
    (λ l. inl (omega (arith, mul-le-mul_right p.stride l, h.stride_least)))
    (λ g.
    let l : k < r = omega arith in
    inr (omega (arith, mul-le-mul_right p.stride l, h.stride_least)))

-- from one row to the next it is a stride
pub row_next : (p : Placement) (r : ℕ) → row_start p (r + 1) ≡ row_start p r + p.stride
unfolding row_start
row_next p r = omega arith

-- a row, handed out as a part of the tray, holds the row's pixels
pub row_pixel :
    (tray : List ℕ) (p : Placement) (c r : ℕ) → c < p.width
    → get_or (take p.width (drop (row_start p r) tray)) c 0 ≡ pixel_in tray p c r
unfolding pixel_in byte_of
row_pixel tray p c r l = rw (get_or-take, get_or-drop)

-- ---- a pixel's byte, and back

pub byte_is : (p : Placement) (c r : ℕ) → byte_of p c r ≡ row_start p r + c
unfolding byte_of
byte_is p c r = refl

-- a pixel's byte lies in the tray
pub byte_below : (p : Placement) (n c r : ℕ) → Placed p n → c < p.width → r < p.height → byte_of p c r < n
byte_below p n c r h c_in r_in = omega (arith, byte_is p c r, row_room p n r h r_in)

pub byte_from : (p : Placement) (c r : ℕ) → p.offset ≤ byte_of p c r
unfolding byte_of row_start
byte_from p c r = omega arith

module _ (p : Placement) (c r : ℕ) (wide : c < p.stride) where
  gone : byte_of p c r - p.offset ≡ r * p.stride + c
  unfolding byte_of row_start
  gone = omega arith

  pub column_of_byte : column_of p (byte_of p c r) ≡ c
  unfolding column_of
  column_of_byte = rw gone (mul-add-mod_self_right r p.stride c ∙ mod-eq_of_lt wide)

  pub row_of_byte : row_of p (byte_of p c r) ≡ r
  unfolding row_of
  row_of_byte =
      let some : 0 < p.stride = omega arith in
      rw gone (mul-add-div_right some r c ∙ (rw (div-eq_of_lt wide) (add-zero r)))

  pub inside_byte : c < p.width → r < p.height → inside p (byte_of p c r) ≡ true
  unfolding inside
  inside_byte c_in r_in =
      let c_now : column_of p (byte_of p c r) < p.width = rw column_of_byte c_in in
      let r_now : row_of p (byte_of p c r) < p.height = rw row_of_byte r_in in
      rw (le-leb _ _ (byte_from p c r), lt-ltb _ _ c_now, lt-ltb _ _ r_now)

-- two pixels with the same byte are the same pixel
module _ (p : Placement) (n c r c' r' : ℕ) (h : Placed p n) where
  pub byte_same :
      c < p.width → r < p.height → c' < p.width → r' < p.height → byte_of p c r ≡ byte_of p c' r'
      → (c ≡ c') × (r ≡ r')
  byte_same c_in r_in c'-in r'-in e =
      let wide : c < p.stride = omega (arith, h.stride_least) in
      let wide' : c' < p.stride = omega (arith, h.stride_least) in (
        sym (column_of_byte p c r wide) ∙ ap (column_of p) e ∙ column_of_byte p c' r' wide',
        sym (row_of_byte p c r wide) ∙ ap (row_of p) e ∙ row_of_byte p c' r' wide',
      )

-- a byte of the page is the byte of a pixel
pub record PixelOf (p : Placement) (i : ℕ) : Type 0 where
  pub column : column_of p i < p.width
  pub row : row_of p i < p.height
  pub byte : byte_of p (column_of p i) (row_of p i) ≡ i

pub inside_pixel : (p : Placement) (i : ℕ) → inside p i ≡ true → PixelOf p i
unfolding inside byte_of row_start column_of row_of
inside_pixel p i h =
    let within = ltb (column_of p i) p.width && ltb (row_of p i) p.height in
    let parts = (and-eq-true_iff (leb p.offset i) within).0 h in
    let sides = (and-eq-true_iff (ltb (column_of p i) p.width) (ltb (row_of p i) p.height)).0 parts.1 in
    let from : p.offset ≤ i = leb-true p.offset i parts.0 in
    let away : p.offset + (i - p.offset) ≡ i = omega arith in
    record {
      column = ltb-true _ _ sides.0;
      row = ltb-true _ _ sides.1;
      byte = omega (arith, away, div-add-mod' (i - p.offset) p.stride);
    }

-- rows that follow one another leave no byte between them
pub inside_rows :
    (p : Placement) (i : ℕ) → p.stride ≡ p.width → 0 < p.width → i < p.width * p.height
    → inside p (p.offset + i) ≡ true
unfolding inside column_of row_of
inside_rows p i close wide i-in =
    let gone : p.offset + i - p.offset ≡ i = omega arith in
    let some : 0 < p.stride = omega arith in
    let down : i < p.height * p.stride = rw (close, mul_comm p.height p.width) i-in in
    let column : i % p.stride < p.width = omega (arith, mod-lt i some) in
    let row : i / p.stride < p.height = (div-lt_iff_lt-mul some).1 down in
    rw (gone, le-leb p.offset (p.offset + i) (omega arith), lt-ltb _ _ column, lt-ltb _ _ row)

-- past the bytes that a page needs there is nothing of it
pub outside_past : (p : Placement) (n i : ℕ) → Placed p n → n ≤ i → inside p i ≡ false
outside_past p n i h past = by_place (inside p i) refl
  where
    by_place : (b : Bool) → inside p i ≡ b → b ≡ false
    by_place true e =
        let x = inside_pixel p i e in
        absurd (omega (arith, x.byte, byte_below p n (column_of p i) (row_of p i) h x.column x.row))
    by_place false e = refl

-- ---- the scratch

-- room for one page more
pub scratch_more : (n w h : ℕ) → scratch_needed (suc n) w h ≡ scratch_needed n w h + w * h
unfolding scratch_needed
scratch_more n w h = omega (arith, mul_assoc (suc n) w h, mul_assoc n w h, suc-mul n (w * h))

-- the pages come first
pub scratch_pages : (n w h : ℕ) → n * (w * h) ≤ scratch_needed n w h
unfolding scratch_needed
scratch_pages n w h = omega (arith, mul_assoc n w h)
