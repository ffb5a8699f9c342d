-- A page written piece by piece, each piece through a row that is lent.
-- Assumes nothing.
use Rattle.std.proofs.Common.{◌≡◌, ℕ, ◌+◌, ◌-◌, ◌<◌, ◌≤◌, Bool, true, false, cond, ◌⊎◌, List, length, get_or, take}
use Rattle.std.proofs.Common.{drop, set, sym, refl, ap, ◌∙◌, subst, inl, inr, ⊎_elim, true≢false, arith, length-set}
use Rattle.std.proofs.Common.{get_or-drop, get_or-set_other, get_or-take, get_or-set_same, ext_get_or}
use mathlib.Core.Logic.{by_cases}
use native.Mathlib.Decide.{dec_lt}
use borrow.Rule.Slice.PartMut.{put_mid}
use Rattle.placement.specs.Placement.{row_start, byte_of, column_of, row_of, inside, Placed}
use Rattle.placement.proofs.Laws.{row_room, rows_apart, byte_is, inside_byte, inside_pixel}
use Rattle.placement.specs.declared.Placement.{Placement}
use Rattle.turning.specs.declared.turn.Turn.{Turn}
use Rattle.tray.specs.Written.{written}
use Rattle.geometry.specs.Drift.{mirrored}
use Rattle.geometry.proofs.Laws.{mirrored_below, mirrored_twice}
use Rattle.turning.specs.Pieces.{Right, Moved, Stored, Part}
use Rattle.tray.specs.Laws.{length_written, written_at}
use Rattle.tray.proofs.Lent.{lent_length, lent_below, lent_within, lent_above}

-- ---- changes of a tray, one after the other

module _ (p : Placement) (page : ℕ → ℕ → ℕ) where
  pub moved_then : (a b d : List ℕ) → Moved p page a b → Moved p page b d → Moved p page a d
  moved_then a b d one two =
      record {
        outside = two.outside ∙ one.outside;
        kept = λ c r c_in r_in h. two.kept c r c_in r_in (one.kept c r c_in r_in h);
      }

  pub moved_length : (a b : List ℕ) → Moved p page a b → length b ≡ length a
  moved_length a b m = sym (length_written p page b) ∙ ap length m.outside ∙ length_written p page a

  -- with every pixel right, the page is written
  pub moved_all :
      (before after : List ℕ) → Moved p page before after
      → ((r : ℕ) → r < p.height → (c : ℕ) → c < p.width → Right p page after c r) → after ≡ written p page before
  moved_all before after m all =
      ext_get_or 0 after (written p page after) (sym (length_written p page after)) each ∙ m.outside
    where
      same :
          (i : ℕ) (b : Bool) → inside p i ≡ b
          → cond b (page (column_of p i) (row_of p i)) (get_or after i 0) ≡ get_or after i 0
      same i true h =
          let x = inside_pixel p i h in
          sym (all (row_of p i) x.row (column_of p i) x.column) ∙ ap (λ (k : ℕ). get_or after k 0) x.byte
      same i false h = refl

      each : (i : ℕ) → i < length after → get_or after i 0 ≡ get_or (written p page after) i 0
      each i l = sym (written_at p page after i l ∙ same i (inside p i) refl)

-- ---- one row

module _
    (q : Placement) (page : ℕ → ℕ → ℕ) (tray ys : List ℕ) (r : ℕ) (placed : Placed q (length tray))
    (r_in : r < q.height)
    (long : length ys ≡ q.width)
  where
    room : row_start q r + q.width ≤ length tray
    room = row_room q (length tray) r placed r_in

    at_row : (c : ℕ) → c < q.width → get_or (put_mid (row_start q r) q.width tray ys) (byte_of q c r) 0 ≡ get_or ys c 0
    at_row c l =
        ap (λ (m : ℕ). get_or (put_mid (row_start q r) q.width tray ys) m 0) (byte_is q c r)
        ∙ lent_within (row_start q r) q.width tray ys room long c l

    below_row : (i : ℕ) → i < row_start q r → get_or (put_mid (row_start q r) q.width tray ys) i 0 ≡ get_or tray i 0
    below_row i l = lent_below (row_start q r) q.width tray ys room long i l

    above_row :
        (i : ℕ) → row_start q r + q.width ≤ i → get_or (put_mid (row_start q r) q.width tray ys) i 0 ≡ get_or tray i 0
    above_row i l = lent_above (row_start q r) q.width tray ys room long i l

    -- a byte that is not the page's is not the row's
    off_page : (i : ℕ) → inside q i ≡ false → get_or (put_mid (row_start q r) q.width tray ys) i 0 ≡ get_or tray i 0
    off_page i out =
        by_cases (dec_lt i (row_start q r)) (below_row i)
        (λ from. by_cases (dec_lt i (row_start q r + q.width))
        (λ to.
        let c_in : i - row_start q r < q.width = omega arith in
        let wide : i - row_start q r < q.stride = omega (arith, placed.stride_least) in
        let place : byte_of q (i - row_start q r) r ≡ i = byte_is q (i - row_start q r) r ∙ omega arith in
        absurd (true≢false (sym (inside_byte q (i - row_start q r) r wide c_in r_in) ∙ ap (inside q) place ∙ out)))
        (λ past. above_row i (omega arith)))

    -- a pixel of another row is as it was
    other_row :
        (c k : ℕ) → c < q.width → k < q.height → (k ≡ r → ⊥)
        → get_or (put_mid (row_start q r) q.width tray ys) (byte_of q c k) 0 ≡ get_or tray (byte_of q c k) 0
    other_row c k c_in k-in other =
        ⊎_elim
        (λ (l : row_start q k + q.width ≤ row_start q r). below_row (byte_of q c k) (omega (arith, byte_is q c k)))
        (λ (l : row_start q r + q.width ≤ row_start q k). above_row (byte_of q c k) (omega (arith, byte_is q c k)))
        (rows_apart q (length tray) k r placed k-in r_in other)

    pub row_right :
        (c : ℕ) → c < q.width → get_or ys c 0 ≡ page c r → Right q page (put_mid (row_start q r) q.width tray ys) c r
    row_right c c_in e = at_row c c_in ∙ e

    -- a row of which each byte is as it was, or right
    pub row_moved :
        ((c : ℕ) → c < q.width → (get_or ys c 0 ≡ get_or tray (byte_of q c r) 0) ⊎ (get_or ys c 0 ≡ page c r))
        → Moved q page tray (put_mid (row_start q r) q.width tray ys)
    row_moved each =
        record {
          outside =
              ext_get_or 0 (written q page after) (written q page tray)
              (length_written q page after ∙ sized ∙ sym (length_written q page tray)) same;
          kept = λ c k c_in k-in h.
              by_cases (dec_lt k r)
              (λ l. other_row c k c_in k-in (λ e. omega arith) ∙ h)
              (λ g. by_cases (dec_lt r k)
              (λ l. other_row c k c_in k-in (λ e. omega arith) ∙ h)
              (λ m. here c k c_in (omega arith) h));
        }
      where
        after : List ℕ
        after = put_mid (row_start q r) q.width tray ys

        sized : length after ≡ length tray
        sized = lent_length (row_start q r) q.width tray ys room long

        by_place :
            (i : ℕ) (b : Bool) → inside q i ≡ b
            → cond b (page (column_of q i) (row_of q i)) (get_or after i 0)
            ≡ cond b (page (column_of q i) (row_of q i)) (get_or tray i 0)
        by_place i true h = refl
        by_place i false h = off_page i h

        same :
            (i : ℕ) → i < length (written q page after)
            → get_or (written q page after) i 0 ≡ get_or (written q page tray) i 0
        same i l =
            let l_after : i < length after = omega (arith, length_written q page after) in
            let l_tray : i < length tray = omega (arith, sized) in
            written_at q page after i l_after ∙ by_place i (inside q i) refl ∙ sym (written_at q page tray i l_tray)

        here : (c k : ℕ) → c < q.width → k ≡ r → Right q page tray c k → Right q page after c k
        here c k c_in e h =
            let old : get_or tray (byte_of q c r) 0 ≡ page c r =
            subst (λ (m : ℕ). get_or tray (byte_of q c m) 0 ≡ page c m) e h in
            subst (λ (m : ℕ). get_or after (byte_of q c m) 0 ≡ page c m) (sym e)
            (at_row c c_in
            ∙ ⊎_elim (λ (was : get_or ys c 0 ≡ get_or tray (byte_of q c r) 0). was ∙ old) (λ is. is) (each c c_in))

-- ---- whole rows, the first n

pub record Rows (q : Placement) (page : ℕ → ℕ → ℕ) (n : ℕ) (before after : List ℕ) : Type 0 where
  pub moved : Moved q page before after
  pub right : (r : ℕ) → r < n → (c : ℕ) → c < q.width → Right q page after c r

module _ (q : Placement) (page : ℕ → ℕ → ℕ) where
  rows_next :
      (before tray ys : List ℕ) (r : ℕ) → Placed q (length tray) → r < q.height → length ys ≡ q.width
      → ((c : ℕ) → c < q.width → get_or ys c 0 ≡ page c r) → Rows q page r before tray
      → Rows q page (r + 1) before (put_mid (row_start q r) q.width tray ys)
  rows_next before tray ys r placed r_in long each so_far =
      let step = row_moved q page tray ys r placed r_in long (λ c c_in. inr (each c c_in)) in
      record {
        moved = moved_then q page before tray (put_mid (row_start q r) q.width tray ys) so_far.moved step;
        right = λ k k-in c c_in.
            by_cases (dec_lt k r)
            (λ l. step.kept c k c_in (omega arith) (so_far.right k l c c_in))
            (λ g.
            let same : r ≡ k = omega arith in
            subst (λ (m : ℕ). Right q page (put_mid (row_start q r) q.width tray ys) c m) same
            (row_right q page tray ys r placed r_in long c c_in (each c c_in)));
      }

  -- the row that was lent starts at at and is n long
  pub rows_more :
      (before tray ys : List ℕ) (r at n : ℕ) → at ≡ row_start q r → n ≡ q.width → Placed q (length tray) → r < q.height
      → length ys ≡ q.width → ((c : ℕ) → c < q.width → get_or ys c 0 ≡ page c r) → Rows q page r before tray
      → Rows q page (r + 1) before (put_mid at n tray ys)
  rows_more before tray ys r at n starts wide placed r_in long each so_far =
      subst (λ (k : ℕ). Rows q page (r + 1) before (put_mid k n tray ys)) (sym starts)
      (subst (λ (k : ℕ). Rows q page (r + 1) before (put_mid (row_start q r) k tray ys)) (sym wide)
      (rows_next before tray ys r placed r_in long each so_far))

  pub rows_all : (before after : List ℕ) → Rows q page q.height before after → after ≡ written q page before
  rows_all before after h = moved_all q page before after h.moved h.right

-- ---- a part of a row of the target

pub stored_more :
    (value : ℕ → ℕ) (b k v : ℕ) (before after : List ℕ) → k < length after → v ≡ value k → Stored value b k before after
    → b ≤ k → Stored value b (k + 1) before (set after k v)
stored_more value b k v before after room is s from =
    record {
      size = length-set after k v ∙ s.size;
      each = λ i low high.
          by_cases (dec_lt i k)
          (λ l. get_or-set_other after k i v 0 (λ e. omega arith) ∙ s.each i low l)
          (λ g.
          let same : i ≡ k = omega arith in
          subst (λ (j : ℕ). get_or (set after k v) j 0 ≡ value j) (sym same) (get_or-set_same after k v 0 room ∙ is));
      below = λ i l. get_or-set_other after k i v 0 (λ e. omega arith) ∙ s.below i l;
      above = λ i l. get_or-set_other after k i v 0 (λ e. omega arith) ∙ s.above i (omega arith);
    }

pub stored_as :
    (value other : ℕ → ℕ) (b e : ℕ) (before after : List ℕ) → ((k : ℕ) → b ≤ k → k < e → value k ≡ other k)
    → Stored value b e before after
    → Stored other b e before after
stored_as value other b e before after same s =
    record { size = s.size; each = λ k from to. s.each k from to ∙ same k from to; below = s.below; above = s.above }

module _
    (t : Turn) (page : ℕ → ℕ → ℕ) (a b e : ℕ) (before ys : List ℕ) (r : ℕ)
    (is : r ≡ mirrored t.writeup t.target.height a)
    (placed : Placed t.target (length before)) (a_in : a < t.target.height)
  where
    pub part_row :
        Stored (λ (k : ℕ). page k r) b e (take t.target.width (drop (row_start t.target r) before)) ys
        → length ys ≡ t.target.width
        → e ≤ t.target.width
        → Part page t a (a + 1) b e before (put_mid (row_start t.target r) t.target.width before ys)
    part_row s long e-in =
        record {
          moved = row_moved t.target page before ys r placed r_in long each;
          right = λ i from to k low high.
              let same : i ≡ a = omega arith in
              let row : r ≡ mirrored t.writeup t.target.height i =
              is ∙ ap (mirrored t.writeup t.target.height) (sym same) in
              subst (λ (m : ℕ). Right t.target page (put_mid (row_start t.target r) t.target.width before ys) k m) row
              (row_right t.target page before ys r placed r_in long k (omega arith) (s.each k low high));
        }
      where
        r_in : r < t.target.height
        r_in = subst (λ (m : ℕ). m < t.target.height) (sym is) (mirrored_below t.writeup t.target.height a a_in)

        old :
            (c : ℕ) → c < t.target.width
            → get_or (take t.target.width (drop (row_start t.target r) before)) c 0
            ≡ get_or before (byte_of t.target c r) 0
        old c c_in =
            get_or-take t.target.width (drop (row_start t.target r) before) c 0 c_in
            ∙ get_or-drop (row_start t.target r) before c 0
            ∙ ap (λ (m : ℕ). get_or before m 0) (sym (byte_is t.target c r))

        each :
            (c : ℕ) → c < t.target.width
            → (get_or ys c 0 ≡ get_or before (byte_of t.target c r) 0) ⊎ (get_or ys c 0 ≡ page c r)
        each c c_in =
            by_cases (dec_lt c b) (λ l. inl (s.below c l ∙ old c c_in))
            (λ from. by_cases (dec_lt c e) (λ l. inr (s.each c (omega arith) l))
            (λ past. inl (s.above c (omega arith) ∙ old c c_in)))

    -- the row that was lent starts at at and is n long
    pub part_row_at :
        (at n : ℕ) → at ≡ row_start t.target r → n ≡ t.target.width
        → Stored (λ (k : ℕ). page k r) b e (take n (drop at before)) ys
        → length ys ≡ t.target.width → e ≤ t.target.width → Part page t a (a + 1) b e before (put_mid at n before ys)
    part_row_at at n starts wide s long e-in =
        let s' : Stored (λ (k : ℕ). page k r) b e (take t.target.width (drop (row_start t.target r) before)) ys =
        subst (λ (k : ℕ). Stored (λ (j : ℕ). page j r) b e (take k (drop (row_start t.target r) before)) ys) wide
        (subst (λ (k : ℕ). Stored (λ (j : ℕ). page j r) b e (take n (drop k before)) ys) starts s) in
        subst (λ (k : ℕ). Part page t a (a + 1) b e before (put_mid k n before ys)) (sym starts)
        (subst (λ (k : ℕ). Part page t a (a + 1) b e before (put_mid (row_start t.target r) k before ys)) (sym wide)
        (part_row s' long e-in))

-- ---- parts joined

module _ (t : Turn) (page : ℕ → ℕ → ℕ) where
  pub part_end : (a e e' b f : ℕ) (x y : List ℕ) → e ≡ e' → Part page t a e b f x y → Part page t a e' b f x y
  part_end a e e' b f x y same p = subst (λ (q : ℕ). Part page t a q b f x y) same p

  pub part_size : (a e b f : ℕ) (x y : List ℕ) → Part page t a e b f x y → length y ≡ length x
  part_size a e b f x y p = moved_length t.target page x y p.moved

  module _ (x y z : List ℕ) where
    still_right :
        (e f : ℕ) → e ≤ t.target.height → f ≤ t.target.width → Moved t.target page y z
        → (i : ℕ) → i < e → (k : ℕ) → k < f
        → Right t.target page y k (mirrored t.writeup t.target.height i)
        → Right t.target page z k (mirrored t.writeup t.target.height i)
    still_right e f e-in f-in m i i-in k k-in h =
        m.kept k (mirrored t.writeup t.target.height i) (omega arith)
        (mirrored_below t.writeup t.target.height i (omega arith)) h

    pub join_down :
        (a e g b f : ℕ) → e ≤ t.target.height → f ≤ t.target.width → Part page t a e b f x y → Part page t e g b f y z
        → Part page t a g b f x z
    join_down a e g b f e-in f-in one two =
        record {
          moved = moved_then t.target page x y z one.moved two.moved;
          right = λ i from to k low high.
              by_cases (dec_lt i e)
              (λ l. still_right e f e-in f-in two.moved i l k high (one.right i from l k low high))
              (λ past. two.right i (omega arith) to k low high);
        }

    pub join_across :
        (a e b f g : ℕ) → e ≤ t.target.height → f ≤ t.target.width → Part page t a e b f x y → Part page t a e f g y z
        → Part page t a e b g x z
    join_across a e b f g e-in f-in one two =
        record {
          moved = moved_then t.target page x y z one.moved two.moved;
          right = λ i from to k low high.
              by_cases (dec_lt k f)
              (λ l. still_right e f e-in f-in two.moved i to k l (one.right i from to k low l))
              (λ past. two.right i from to k (omega arith) high);
        }

  -- with every part right, the page is written
  pub part_all :
      (before after : List ℕ) → Part page t 0 t.target.height 0 t.target.width before after
      → after ≡ written t.target page before
  part_all before after p =
      moved_all t.target page before after p.moved
      (λ r r_in c c_in.
      let i = mirrored t.writeup t.target.height r in
      subst (λ (m : ℕ). Right t.target page after c m) (mirrored_twice t.writeup t.target.height r r_in)
      (p.right i (omega arith) (mirrored_below t.writeup t.target.height r r_in) c (omega arith) c_in))
