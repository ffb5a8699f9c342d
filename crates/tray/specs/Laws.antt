-- Laws of the definitions, for those who build on pages in trays. Nothing here opens where a row starts (row_start), but
-- for the byte of a compact page.
-- Assumes nothing.
use Rattle.std.specs.Prelude.{◌≡◌, Bool, cond, length, get_or, drop, replicate}
use Rattle.std.proofs.Math.Path.{refl, ap}
use Rattle.std.proofs.Common.{sym, ◌∙◌, subst, add-zero, mul-le-mul_right, mul_comm, mod-eq_of_lt, mod-lt, div-add-mod', div-lt_iff_lt-mul, mul-zero, length-append, length-drop, ext_get_or, get_or-drop, get_or-append-add}
use Rattle.std.proofs.Math.Logic.{by_cases}
use Rattle.std.proofs.Math.Bool.{true, false}
use mathlib.Core.List.{List, [], ◌∷◌, ◌++◌}
use Prim.Native.Nat.{ℕ, zero, suc, ◌+◌, ◌-◌, ◌*◌, ◌/◌, ◌%◌, ◌≤◌, ◌<◌}
use Rattle.std.proofs.Math.Nat.{div-eq_of_lt, mul-add-mod_self_right, mul-add-div_right}
use Rattle.std.proofs.Math.Decide.{dec_lt}
use native.Mathlib.Omega.{arith}
use Rattle.std.proofs.lemmas.List.{length-replicate, get_or-replicate}
use Rattle.std.proofs.Math.ListN.{get_or-append, get_or-eq_default}
use Rattle.geometry.specs.Drift.{mirrored}
use Rattle.geometry.proofs.Laws.{mirrored_below, mirrored_twice}
use Rattle.placement.specs.declared.Placement.{Placement}
use Rattle.placement.specs.Placement.{row_start, byte_of, column_of, row_of, inside}
use Rattle.placement.proofs.Laws.{column_of_byte, row_of_byte, inside_byte, inside_pixel}
use Rattle.tray.specs.declared.Layout.{Layout}
use Rattle.tray.specs.Written.{written_from, written, cleared}
use Rattle.tray.specs.Turned.{down_of, across_of, compact_width, compact_height, compact_row, compact_column, compact_at}
use Rattle.tray.specs.Turned.{page_column, page_row, compact_of}

-- ---- a tray with a page written into it

module _ (p : Placement) (page : ℕ → ℕ → ℕ) where
  length_written_from : (at : ℕ) (tray : List ℕ) → length (written_from p page at tray) ≡ length tray
  unfolding written_from
  length_written_from at [] = refl
  length_written_from at (old ∷ tray) = ap suc (length_written_from (suc at) tray)

  written_from_at :
      (at : ℕ) (tray : List ℕ) (i k : ℕ) → i < length tray → k ≡ at + i
      → get_or (written_from p page at tray) i 0 ≡ cond (inside p k) (page (column_of p k) (row_of p k)) (get_or tray i 0)
  unfolding written_from
  written_from_at at [] i k l e = absurd (omega arith)
  written_from_at at (old ∷ tray) zero k l e =
      let same : k ≡ at = omega arith in
      rw same
  written_from_at at (old ∷ tray) (suc i) k l e = written_from_at (suc at) tray i k (omega arith) (omega arith)

  pub length_written : (tray : List ℕ) → length (written p page tray) ≡ length tray
  unfolding written
  length_written tray = length_written_from 0 tray

  -- each byte, as the definition has it
  pub written_at :
      (tray : List ℕ) (i : ℕ) → i < length tray
      → get_or (written p page tray) i 0 ≡ cond (inside p i) (page (column_of p i) (row_of p i)) (get_or tray i 0)
  unfolding written
  written_at tray i l = written_from_at 0 tray i i l (omega arith)

  -- a byte outside the page is as it was
  pub written_outside : (tray : List ℕ) (i : ℕ) → inside p i ≡ false → get_or (written p page tray) i 0 ≡ get_or tray i 0
  written_outside tray i out =
      by_cases (dec_lt i (length tray))
      (λ l. rw (written_at tray i l, out))
      (λ past.
      let old : length tray ≤ i = omega arith in
      let new : length (written p page tray) ≤ i = rw length_written old in
      get_or-eq_default (written p page tray) 0 new ∙ sym (get_or-eq_default tray 0 old))

  -- the byte of a pixel is the pixel
  pub written_pixel :
      (tray : List ℕ) (c r : ℕ) → c < p.stride → c < p.width → r < p.height → byte_of p c r < length tray
      → get_or (written p page tray) (byte_of p c r) 0 ≡ page c r
  written_pixel tray c r wide c_in r_in l =
      let column = column_of_byte p c r wide in
      let row = row_of_byte p c r wide in
      rw (written_at tray (byte_of p c r) l, inside_byte p c r wide c_in r_in, column, row)

-- only the page's own pixels count
pub written_same :
    (p : Placement) (one two : ℕ → ℕ → ℕ) (tray : List ℕ)
    → ((r : ℕ) → r < p.height → (c : ℕ) → c < p.width → one c r ≡ two c r)
    → written p one tray ≡ written p two tray
written_same p one two tray same =
    let size = length_written p one tray ∙ sym (length_written p two tray) in
    ext_get_or 0 (written p one tray) (written p two tray) size each
  where
    by_place :
        (i : ℕ) (b : Bool) → inside p i ≡ b
        → cond b (one (column_of p i) (row_of p i)) (get_or tray i 0)
        ≡ cond b (two (column_of p i) (row_of p i)) (get_or tray i 0)
    by_place i true h =
        let x = inside_pixel p i h in
        same (row_of p i) x.row (column_of p i) x.column
    by_place i false h = refl

    each : (i : ℕ) → i < length (written p one tray) → get_or (written p one tray) i 0 ≡ get_or (written p two tray) i 0
    each i l =
        let here : i < length tray = omega (arith, length_written p one tray) in
        written_at p one tray i here ∙ by_place i (inside p i) refl ∙ sym (written_at p two tray i here)

-- ---- the scratch, cleared

pub length_cleared : (n : ℕ) (scratch : List ℕ) → n ≤ length scratch → length (cleared n scratch) ≡ length scratch
unfolding cleared
length_cleared n scratch h = simp (length-append, length-replicate, length-drop) (omega arith)

pub cleared_below : (n : ℕ) (scratch : List ℕ) (i : ℕ) → i < n → get_or (cleared n scratch) i 0 ≡ 0
unfolding cleared
cleared_below n scratch i l =
    let here : i < length {A = ℕ} (replicate n 0) = rw length-replicate l in
    get_or-append (replicate n 0) (drop n scratch) 0 i here ∙ get_or-replicate n i 0 0 l

pub cleared_above : (n : ℕ) (scratch : List ℕ) (i : ℕ) → n ≤ i → get_or (cleared n scratch) i 0 ≡ get_or scratch i 0
unfolding cleared
cleared_above n scratch i l =
    let past : i ≡ length {A = ℕ} (replicate n 0) + (i - n) = rw length-replicate (omega arith) in
    let back : n + (i - n) ≡ i = omega arith in
    ap (λ (k : ℕ). get_or (replicate n 0 ++ drop n scratch) k 0) past
    ∙ get_or-append-add (replicate n 0) (drop n scratch) (i - n) 0
    ∙ get_or-drop n scratch (i - n) 0
    ∙ ap (λ (k : ℕ). get_or scratch k 0) back

-- ---- the compact page

module _ (steep : Bool) (c r width height : ℕ) (c_in : c < width) (r_in : r < height) where
  pub across_in : across_of steep c r < across_of steep width height
  unfolding across_of
  across_in = by_way steep
    where
      by_way : (steep : Bool) → across_of steep c r < across_of steep width height
      by_way true = c_in
      by_way false = r_in

  pub down_in : down_of steep c r < down_of steep width height
  unfolding down_of
  down_in = by_way steep
    where
      by_way : (steep : Bool) → down_of steep c r < down_of steep width height
      by_way true = r_in
      by_way false = c_in

pub sides_product :
    (steep : Bool) (width height : ℕ) → down_of steep width height * across_of steep width height ≡ width * height
unfolding down_of across_of
sides_product true width height = mul_comm height width
sides_product false width height = refl

-- row a, column b of rows that are w long
pub cell_below : (a b h w : ℕ) → a < h → b < w → a * w + b < h * w
cell_below a b h w a_in b-in =
    let next : a + 1 ≤ h = omega arith in
    omega (arith, mul-le-mul_right w next)

pub record SameCell (a b a' b' : ℕ) : Type 0 where
  pub row : a ≡ a'
  pub column : b ≡ b'

pub cell_same : (w a b a' b' : ℕ) → b < w → b' < w → a * w + b ≡ a' * w + b' → SameCell a b a' b'
cell_same w a b a' b' b-in b'-in e =
    let some : 0 < w = omega arith in
    record {
      row = sym (row_of_lem some a b b-in) ∙ ap (λ (k : ℕ). k / w) e ∙ row_of_lem some a' b' b'-in;
      column = sym (column_of_lem a b b-in) ∙ ap (λ (k : ℕ). k % w) e ∙ column_of_lem a' b' b'-in;
    }
  where
    row_of_lem : 0 < w → (a b : ℕ) → b < w → (a * w + b) / w ≡ a
    row_of_lem some a b l = mul-add-div_right some a b ∙ (rw (div-eq_of_lt l) (add-zero a))

    column_of_lem : (a b : ℕ) → b < w → (a * w + b) % w ≡ b
    column_of_lem a b l = mul-add-mod_self_right a w b ∙ mod-eq_of_lt l

module _ (lay : Layout) (c r : ℕ) (c_in : c < lay.width) (r_in : r < lay.height) where
  pub compact_row_in : compact_row lay c r < compact_height lay
  compact_row_in = down_in lay.steep c r lay.width lay.height c_in r_in

  pub compact_column_in : compact_column lay c r < compact_width lay
  unfolding compact_column
  compact_column_in = mirrored_below lay.falls _ _ (across_in lay.steep c r lay.width lay.height c_in r_in)

  -- the compact page takes width * height bytes
  pub compact_below : compact_at lay c r < lay.width * lay.height
  unfolding compact_at
  compact_below =
      let here = cell_below _ _ _ _ compact_row_in compact_column_in in
      rw (sides_product lay.steep lay.width lay.height) at here

-- different pixels have different bytes
module _ (lay : Layout) (c r c' r' : ℕ) where
  pub compact_same :
      c < lay.width → r < lay.height → c' < lay.width → r' < lay.height → compact_at lay c r ≡ compact_at lay c' r'
      → (c ≡ c') × (r ≡ r')
  unfolding compact_at compact_column down_of across_of
  compact_same c_in r_in c'-in r'-in e =
      let falls = lay.falls in
      let across = across_in lay.steep c r lay.width lay.height c_in r_in in
      let across' = across_in lay.steep c' r' lay.width lay.height c'-in r'-in in
      let cell = cell_same _ _ _ _ _ (mirrored_below falls _ _ across) (mirrored_below falls _ _ across') e in
      by_way lay.steep cell.row
      (sym (mirrored_twice falls _ _ across)
      ∙ ap (mirrored falls (compact_width lay)) cell.column
      ∙ mirrored_twice falls _ _ across')
    where
      by_way :
          (steep : Bool) → down_of steep c r ≡ down_of steep c' r' → across_of steep c r ≡ across_of steep c' r'
          → (c ≡ c') × (r ≡ r')
      by_way true down across = (across, down)
      by_way false down across = (down, across)

-- each place of the compact page is a pixel's
pub record PixelAt (lay : Layout) (a b c r : ℕ) : Type 0 where
  pub column_in : c < lay.width
  pub row_in : r < lay.height
  pub down : compact_row lay c r ≡ a
  pub across : compact_column lay c r ≡ b

-- the same sides, with lines that are steep, or not
abbrev pub laid_so : Layout → Bool → Layout
laid_so lay steep = record { steep = steep; falls = lay.falls; width = lay.width; height = lay.height }

pub compact_pixel_lem :
    (lay : Layout) (a b : ℕ) → a < compact_height lay → b < compact_width lay
    → PixelAt lay a b (page_column lay a b) (page_row lay a b)
unfolding page_column page_row compact_column down_of across_of
compact_pixel_lem lay a b = by_way lay.steep
  where
    by_way :
        (steep : Bool) → a < compact_height (laid_so lay steep) → b < compact_width (laid_so lay steep)
        → PixelAt (laid_so lay steep) a b (page_column (laid_so lay steep) a b) (page_row (laid_so lay steep) a b)
    by_way true a_in b-in =
        record {
          column_in = mirrored_below lay.falls lay.width b b-in;
          row_in = a_in;
          down = refl;
          across = mirrored_twice lay.falls lay.width b b-in;
        }
    by_way false a_in b-in =
        record {
          column_in = a_in;
          row_in = mirrored_below lay.falls lay.height b b-in;
          down = refl;
          across = mirrored_twice lay.falls lay.height b b-in;
        }

-- the compact page is a page of its own: the byte of its column b, row a
pub compact_byte :
    (lay : Layout) (c r : ℕ) → byte_of (compact_of lay) (compact_column lay c r) (compact_row lay c r) ≡ compact_at lay c r
unfolding byte_of row_start compact_of compact_at
compact_byte lay c r = omega arith

-- each byte of the compact page is a pixel's
pub record PlaceOf (lay : Layout) (i : ℕ) : Type 0 where
  pub column : ℕ
  pub row : ℕ
  pub column_in : column < lay.width
  pub row_in : row < lay.height
  pub byte : compact_at lay column row ≡ i

pub place_of : (lay : Layout) (i : ℕ) → i < lay.width * lay.height → PlaceOf lay i
unfolding compact_at
place_of lay i i-in =
    let w = compact_width lay in
    let below : i < compact_height lay * w = rw (sides_product lay.steep lay.width lay.height) i-in in
    by_cases (dec_lt 0 w)
    (λ some.
    let p = compact_pixel_lem lay (i / w) (i % w) ((div-lt_iff_lt-mul some).1 below) (mod-lt i some) in
    record {
      column = page_column lay (i / w) (i % w);
      row = page_row lay (i / w) (i % w);
      column_in = p.column_in;
      row_in = p.row_in;
      byte =
          let column = compact_column lay (page_column lay (i / w) (i % w)) (page_row lay (i / w) (i % w)) in
          ap (λ (k : ℕ). k * w + column) p.down
          ∙ ap (λ (k : ℕ). i / w * w + k) p.across
          ∙ div-add-mod' i w;
    })
    (λ none.
    let zero_wide : compact_width lay ≡ 0 = omega arith in
    absurd (omega (arith, below, ap (λ (k : ℕ). compact_height lay * k) zero_wide, mul-zero (compact_height lay))))

-- two buffers that agree on every pixel of the compact page and on all that follows it are the same
pub compact_one :
    (lay : Layout) (one two : List ℕ) → length one ≡ length two
    → ((r : ℕ) → r < lay.height → (c : ℕ) → c < lay.width
    → get_or one (compact_at lay c r) 0 ≡ get_or two (compact_at lay c r) 0)
    → ((i : ℕ) → lay.width * lay.height ≤ i → get_or one i 0 ≡ get_or two i 0) → one ≡ two
compact_one lay one two size pixels rest =
    ext_get_or 0 one two size
    (λ i i-in.
    by_cases (dec_lt i (lay.width * lay.height))
    (λ l.
    let x = place_of lay i l in
    subst (λ (k : ℕ). get_or one k 0 ≡ get_or two k 0) x.byte (pixels x.row x.row_in x.column x.column_in))
    (λ past. rest i (omega arith)))
