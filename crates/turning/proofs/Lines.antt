-- Rows that were handed out, and what is made of them.
-- Assumes nothing.
use Rattle.std.proofs.Common.{◌≡◌, ℕ, ◌+◌, ◌-◌, ◌*◌, ◌%◌, ◌^◌, ◌<◌, ◌≤◌, Bool, true, false, ◌⊎◌, List, length, get_or}
use Rattle.std.proofs.Common.{take, drop, sym, refl, ap, ◌∙◌, subst, inl, inr, mod-eq_of_lt, arith, get_or-drop}
use Rattle.std.proofs.Common.{get_or-take, ext_get_or}
use mathlib.Core.Logic.{by_cases}
use native.Mathlib.Nat.{add-mod_right}
use native.Mathlib.Decide.{dec_lt}
use borrow.Rule.Slice.PartMut.{put_mid}
use Rattle.placement.specs.Placement.{row_start, byte_of, pixel_in, Placed}
use Rattle.placement.proofs.Laws.{row_room, row_next, row_pixel, byte_is}
use Rattle.placement.specs.declared.Placement.{Placement}
use Rattle.turning.specs.declared.turn.Turn.{Turn}
use Rattle.geometry.specs.Drift.{mirrored}
use Rattle.geometry.proofs.Laws.{mirrored_falling, mirrored_rising, mirrored_below, mirrored_twice}
use Rattle.tray.specs.Promises.{RowFilled}
use Rattle.turning.specs.Tiles.{Copied, Transposed}
use Rattle.turning.specs.Pieces.{Right, Moved, Taken, Part, PutRows}
use Rattle.turning.specs.Pieces.{copied_pixel, source_pixel, turned_pixel, row_step_of}
use Rattle.tray.proofs.Lent.{part_length, lent_length, lent_below, lent_within, lent_above}
use Rattle.turning.proofs.Pieces.{row_moved, join_down}

module _ (tray line : List ℕ) (p : Placement) (r : ℕ) (is : line ≡ take p.width (drop (row_start p r) tray)) where
  pub line_length : Placed p (length tray) → r < p.height → length line ≡ p.width
  line_length placed r_in =
      ap length is ∙ part_length (row_start p r) p.width tray (row_room p (length tray) r placed r_in)

  pub line_pixel : (c : ℕ) → c < p.width → get_or line c 0 ≡ pixel_in tray p c r
  line_pixel c c_in = ap (λ (xs : List ℕ). get_or xs c 0) is ∙ row_pixel tray p c r c_in

  -- a row that is filled with it
  pub filled_pixel :
      (falls : Bool) (ys : List ℕ) → length line ≡ p.width → RowFilled line falls ys → (c : ℕ) → c < p.width
      → get_or ys c 0 ≡ copied_pixel tray p falls c r
  unfolding copied_pixel
  filled_pixel falls ys long f c c_in =
      f.each c (omega arith)
      ∙ ap (λ (n : ℕ). get_or line (mirrored falls n c) 0) long
      ∙ line_pixel (mirrored falls p.width c) (mirrored_below falls p.width c c_in)

-- ---- from row to row, down or up

-- a row that is taken mirrored lies in the tray
pub mirrored_room :
    (up : Bool) (p : Placement) (n m start : ℕ) → Placed p n → m < p.height
    → start ≡ row_start p (mirrored up p.height m)
    → start + p.width ≤ n
mirrored_room up p n m start placed m_in starts =
    omega (arith, row_room p n (mirrored up p.height m) placed (mirrored_below up p.height m m_in))

-- a step on from a row's start, modulo 2^64, is the next one's
step_on :
    (up : Bool) (p : Placement) (n m : ℕ) → Placed p n → n < 2 ^ 64 → m + 1 < p.height
    → (row_start p (mirrored up p.height m) + row_step_of up p.stride) % 2 ^ 64
    ≡ row_start p (mirrored up p.height (m + 1))
unfolding row_step_of
step_on true p n m placed n-in m_in =
    let r = p.height - 1 - (m + 1) in
    let before : p.height - 1 - m ≡ r + 1 = omega arith in
    let here = ap (row_start p) (mirrored_falling p.height m ∙ before) in
    let small : row_start p r < 2 ^ 64 = omega (arith, row_room p n r placed (omega arith)) in
    let on : row_start p (mirrored true p.height m) + (2 ^ 64 - p.stride) ≡ row_start p r + 2 ^ 64 =
    omega (arith, here, row_next p r, placed.stride_most) in
    ap (λ (k : ℕ). k % 2 ^ 64) on
    ∙ add-mod_right (row_start p r) (2 ^ 64)
    ∙ mod-eq_of_lt small
    ∙ ap (row_start p) (sym (mirrored_falling p.height (m + 1)))
step_on false p n m placed n-in m_in =
    let here = ap (row_start p) (mirrored_rising p.height m) in
    let small : row_start p (m + 1) < 2 ^ 64 = omega (arith, row_room p n (m + 1) placed m_in) in
    let on : row_start p (mirrored false p.height m) + p.stride ≡ row_start p (m + 1) =
    omega (arith, here, row_next p m) in
    ap (λ (k : ℕ). k % 2 ^ 64) on ∙ mod-eq_of_lt small ∙ ap (row_start p) (sym (mirrored_rising p.height (m + 1)))

pub stepped :
    (up : Bool) (p : Placement) (n m next start step : ℕ) → Placed p n → n < 2 ^ 64 → next ≡ m + 1 → next < p.height
    → start ≡ row_start p (mirrored up p.height m) → step ≡ row_step_of up p.stride
    → (start + step) % 2 ^ 64 ≡ row_start p (mirrored up p.height next)
stepped up p n m next start step placed n-in after next-in starts steps =
    ap (λ (k : ℕ). (k + step) % 2 ^ 64) starts
    ∙ ap (λ (k : ℕ). (row_start p (mirrored up p.height m) + k) % 2 ^ 64) steps
    ∙ step_on up p n m placed n-in (omega arith)
    ∙ ap (λ (k : ℕ). row_start p (mirrored up p.height k)) (sym after)

module _ (tray : List ℕ) (t : Turn) where
  -- the row that goes to the target's column b
  pub line_source :
      (line : List ℕ) (m b : ℕ) → line ≡ take t.source.width (drop (row_start t.source m) tray)
      → m ≡ mirrored t.readup t.source.height b → (a : ℕ) → a < t.source.width
      → get_or line a 0 ≡ source_pixel tray t a b
  unfolding source_pixel
  line_source line m b is mirror a a_in =
      line_pixel tray line t.source m is a a_in ∙ ap (pixel_in tray t.source a) mirror

  -- where the source's column a goes
  pub turned_is :
      (a b : ℕ) → a < t.target.height
      → source_pixel tray t a b ≡ turned_pixel tray t b (mirrored t.writeup t.target.height a)
  unfolding turned_pixel
  turned_is a b a_in = ap (λ (m : ℕ). source_pixel tray t m b) (sym (mirrored_twice t.writeup t.target.height a a_in))

  -- ---- a tile taken row by row

  -- the row that goes to the target's column b + n starts at start
  pub taken_more :
      (n a b start : ℕ) (before after : List ℕ) → start ≡ row_start t.source (mirrored t.readup t.source.height (b + n))
      → Copied 16 tray (start + a) (16 * n) before after → Taken n tray t a b before → Taken (n + 1) tray t a b after
  unfolding source_pixel pixel_in byte_of
  taken_more n a b start before after starts copied so_far =
      record {
        size = copied.size ∙ so_far.size;
        each = λ k k-in i i-in.
            by_cases (dec_lt k n)
            (λ l. copied.below (16 * k + i) (omega arith) ∙ so_far.each k l i i-in)
            (λ g.
            let same : k ≡ n = omega arith in
            subst (λ (j : ℕ). get_or after (16 * j + i) 0 ≡ source_pixel tray t (a + i) (b + j)) (sym same)
            (copied.each i i-in ∙ ap (λ (m : ℕ). get_or tray m 0) (omega arith)));
      }

  -- a tile taken, transposed and put in its place
  pub tile_part :
      (a b : ℕ) (tile turned before after : List ℕ) → a + 16 ≤ t.target.height → Taken 16 tray t a b tile
      → Transposed tile turned
      → PutRows 16 turned t a b before after → Part (turned_pixel tray t) t a (a + 16) b (b + 16) before after
  tile_part a b tile turned before after a_in taken flipped put =
      put.part (turned_pixel tray t)
      (λ i i-in k k-in.
      flipped.turned i k i-in k-in ∙ taken.each k k-in i i-in ∙ turned_is (a + i) (b + k) (omega arith))

-- ---- a tile put row by row

-- sixteen bytes of a tile were written to the target: whatever page they hold pixels of, these pixels of it are right
record PutRow (tile : List ℕ) (at : ℕ) (t : Turn) (a b : ℕ) (before after : List ℕ) : Type 0 where
  pub size : length after ≡ length before
  pub part :
      (page : ℕ → ℕ → ℕ)
      → ((k : ℕ) → k < 16 → get_or tile (at + k) 0 ≡ page (b + k) (mirrored t.writeup t.target.height a))
      → Part page t a (a + 1) b (b + 16) before after

-- sixteen bytes stored in a row, from its column b on
module _
    (tile : List ℕ) (t : Turn) (at a b : ℕ) (before after : List ℕ) (placed : Placed t.target (length before))
    (a_in : a < t.target.height)
    (b-in : b + 16 ≤ t.target.width)
  where
    abbrev row : ℕ
    row = mirrored t.writeup t.target.height a

    abbrev first : ℕ
    first = row_start t.target row

    module _ (copied : Copied 16 tile at (first + b) before after) where
      abbrev ys : List ℕ
      ys = take t.target.width (drop first after)

      room : first + t.target.width ≤ length before
      room = mirrored_room t.writeup t.target (length before) a first placed a_in refl

      long : length ys ≡ t.target.width
      long = part_length first t.target.width after (omega (arith, room, copied.size))

      held : (c : ℕ) → c < t.target.width → get_or ys c 0 ≡ get_or after (first + c) 0
      held c c_in = get_or-take t.target.width (drop first after) c 0 c_in ∙ get_or-drop first after c 0

      -- nothing but the row was changed
      back : put_mid first t.target.width before ys ≡ after
      back =
          ext_get_or 0 (put_mid first t.target.width before ys) after
          (lent_length first t.target.width before ys room long ∙ sym copied.size) (λ i i-in.
          by_cases (dec_lt i first)
          (λ l. lent_below first t.target.width before ys room long i l ∙ sym (copied.below i (omega arith)))
          (λ from. by_cases (dec_lt i (first + t.target.width))
          (λ l.
          let place : i ≡ first + (i - first) = omega arith in
          let c_in : i - first < t.target.width = omega arith in
          ap (λ (m : ℕ). get_or (put_mid first t.target.width before ys) m 0) place
          ∙ lent_within first t.target.width before ys room long (i - first) c_in
          ∙ held (i - first) c_in
          ∙ ap (λ (m : ℕ). get_or after m 0) (sym place))
          (λ past.
          lent_above first t.target.width before ys room long i (omega arith) ∙ sym (copied.above i (omega arith)))))

      module _ (page : ℕ → ℕ → ℕ) (all : (k : ℕ) → k < 16 → get_or tile (at + k) 0 ≡ page (b + k) row) where
        stored : (c : ℕ) → b ≤ c → c < b + 16 → get_or after (first + c) 0 ≡ page c row
        stored c from to =
            let place : first + c ≡ first + b + (c - b) = omega arith in
            let column : b + (c - b) ≡ c = omega arith in
            ap (λ (m : ℕ). get_or after m 0) place
            ∙ copied.each (c - b) (omega arith)
            ∙ all (c - b) (omega arith)
            ∙ ap (λ (m : ℕ). page m row) column

        each :
            (c : ℕ) → c < t.target.width
            → (get_or ys c 0 ≡ get_or before (byte_of t.target c row) 0) ⊎ (get_or ys c 0 ≡ page c row)
        each c c_in =
            let byte = ap (λ (m : ℕ). get_or before m 0) (sym (byte_is t.target c row)) in
            by_cases (dec_lt c b) (λ l. inl (held c c_in ∙ copied.below (first + c) (omega arith) ∙ byte))
            (λ from. by_cases (dec_lt c (b + 16)) (λ l. inr (held c c_in ∙ stored c (omega arith) l))
            (λ past. inl (held c c_in ∙ copied.above (first + c) (omega arith) ∙ byte)))

        put_part : Part page t a (a + 1) b (b + 16) before after
        put_part =
            record {
              moved = subst (Moved t.target page before) back
                  (row_moved t.target page before ys row placed (mirrored_below t.writeup t.target.height a a_in) long
                  each);
              right = λ i from to k low high.
                  let same : a ≡ i = omega arith in
                  subst (λ (m : ℕ). Right t.target page after k (mirrored t.writeup t.target.height m)) same
                  (ap (λ (m : ℕ). get_or after m 0) (byte_is t.target k row) ∙ stored k low high);
            }

      put_row : PutRow tile at t a b before after
      put_row = record { size = copied.size; part = put_part }

module _ (tile : List ℕ) (t : Turn) (a b : ℕ) where
  pub put_more :
      (n start : ℕ) (before tray after : List ℕ) → Placed t.target (length before) → a + n < t.target.height
      → b + 16 ≤ t.target.width
      → start ≡ row_start t.target (mirrored t.writeup t.target.height (a + n))
      → Copied 16 tile (16 * n) (start + b) tray after
      → PutRows n tile t a b before tray → PutRows (n + 1) tile t a b before after
  put_more n start before tray after placed a_in b-in starts copied so_far =
      let placed' = subst (Placed t.target) (sym so_far.size) placed in
      let copied' = subst (λ (k : ℕ). Copied 16 tile (16 * n) (k + b) tray after) starts copied in
      let row = put_row tile t (16 * n) (a + n) b tray after placed' a_in b-in copied' in
      record {
        size = row.size ∙ so_far.size;
        part = λ page all.
            let first = so_far.part page (λ i l. all i (omega arith)) in
            let last = row.part page (λ k k-in. all n (omega arith) k k-in) in
            let end : a + n + 1 ≡ a + (n + 1) = omega arith in
            subst (λ (e : ℕ). Part page t a e b (b + 16) before after) end
            (join_down t page before tray after a (a + n) (a + n + 1) b (b + 16) (omega arith) b-in first last);
      }
