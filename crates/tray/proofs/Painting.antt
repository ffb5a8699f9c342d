-- A rectangle painted row by row.
-- Assumes nothing.
use mathlib.Core.Path.{◌≡◌, refl, sym, ◌∙◌, ap, subst}
use mathlib.Core.List.{List}
use mathlib.Core.Logic.{by_cases}
use Prim.Native.Nat.{ℕ, ◌+◌, ◌-◌, ◌*◌, ◌≤◌, ◌<◌}
use native.Mathlib.Nat.{mul-le-mul_right}
use native.Mathlib.Decide.{dec_lt}
use native.Mathlib.Omega.{arith}
use lib.ListN.{length, get_or, replicate, length-replicate, get_or-replicate}
use borrow.Rule.Slice.PartMut.{mid_of, put_mid}
use Rattle.tray.specs.declared.Rectangle.{Rectangle}
use Rattle.tray.specs.Turned.{InRectangle}
use Rattle.tray.specs.Promises.{RectanglePainted}
use Rattle.tray.specs.Laws.{cell_below}
use Rattle.tray.proofs.Lent.{part_length, lent_length, lent_below, lent_within, lent_above}

abbrev pub rows : ℕ → ℕ → ℕ → ℕ → Rectangle
rows top left right r = record { top = top; bottom = r; left = left; right = right }

-- so far no row is painted
pub painted_none :
    (w top left right value : ℕ) (page : List ℕ) → RectanglePainted w (rows top left right top) value page page
painted_none w top left right value page =
    record {
      size = refl;
      painted = λ a b i. absurd (omega (arith, i.below_top, i.above_bottom));
      kept = λ a b b-in out. refl;
    }

module _ (w top left right value r : ℕ) (before page ys : List ℕ) where
  -- where the row's part starts, and the page with the row
  abbrev at : ℕ
  at = r * w + left

  abbrev after : List ℕ
  after = put_mid at (right - left) page ys

  -- one row more
  painted_more :
      top ≤ r → left ≤ right → right ≤ w → (r + 1) * w ≤ length page → length ys ≡ right - left
      → ((k : ℕ) → k < right - left → get_or ys k 0 ≡ value)
      → RectanglePainted w (rows top left right r) value before page
      → RectanglePainted w (rows top left right (r + 1)) value before after
  painted_more top_in wide right_in room long all so_far =
      record {
        size = lent_length at (right - left) page ys room_now long ∙ so_far.size;
        painted = λ a b i.
            by_cases (dec_lt a r)
            (λ l. earlier a b l (omega (arith, i.before_right)) ∙ so_far.painted a b (before_now a b l i))
            (λ g. here a b i (omega (arith, i.above_bottom)));
        kept = λ a b b-in out. untouched a b b-in out ∙ so_far.kept a b b-in (λ i. out (later a b i));
      }
    where
      room_now : at + (right - left) ≤ length page
      room_now = omega arith

      earlier : (a b : ℕ) → a < r → b < w → get_or after (a * w + b) 0 ≡ get_or page (a * w + b) 0
      earlier a b l b-in =
          let low : a * w + b < at = omega (arith, cell_below a b r w l b-in) in
          lent_below at (right - left) page ys room_now long (a * w + b) low

      before_now :
          (a b : ℕ) → a < r → InRectangle (rows top left right (r + 1)) a b → InRectangle (rows top left right r) a b
      before_now a b l i =
          record {
            below_top = i.below_top;
            above_bottom = l;
            from_left = i.from_left;
            before_right = i.before_right;
          }

      later : (a b : ℕ) → InRectangle (rows top left right r) a b → InRectangle (rows top left right (r + 1)) a b
      later a b i =
          record {
            below_top = i.below_top;
            above_bottom = omega (arith, i.above_bottom);
            from_left = i.from_left;
            before_right = i.before_right;
          }

      here : (a b : ℕ) → InRectangle (rows top left right (r + 1)) a b → a ≡ r → get_or after (a * w + b) 0 ≡ value
      here a b i e =
          let place : a * w + b ≡ at + (b - left) = rw e (omega (arith, i.from_left)) in
          let in_part : b - left < right - left = omega (arith, i.from_left, i.before_right) in
          ap (λ (m : ℕ). get_or after m 0) place
          ∙ lent_within at (right - left) page ys room_now long (b - left) in_part
          ∙ all (b - left) in_part

      above : (a b : ℕ) → r * w + right ≤ a * w + b → get_or after (a * w + b) 0 ≡ get_or page (a * w + b) 0
      above a b l = lent_above at (right - left) page ys room_now long (a * w + b) (omega arith)

      untouched :
          (a b : ℕ) → b < w → (InRectangle (rows top left right (r + 1)) a b → ⊥)
          → get_or after (a * w + b) 0 ≡ get_or page (a * w + b) 0
      untouched a b b-in out =
          by_cases (dec_lt a r) (λ l. earlier a b l b-in)
          (λ g. by_cases (dec_lt r a)
          (λ m. above a b (omega (arith, mul-le-mul_right w m)))
          (λ n.
          let e : a ≡ r = omega arith in
          let row : a * w ≡ r * w = ap (λ (k : ℕ). k * w) e in
          by_cases (dec_lt b left)
          (λ l. lent_below at (right - left) page ys room_now long (a * w + b) (omega arith))
          (λ l. by_cases (dec_lt b right) (λ q. absurd (out (within a b e (omega arith) q)))
          (λ q. above a b (omega arith)))))
        where
          within : (a b : ℕ) → a ≡ r → left ≤ b → b < right → InRectangle (rows top left right (r + 1)) a b
          within a b e from to =
              record { below_top = omega arith; above_bottom = omega arith; from_left = from; before_right = to }

-- the same where the part that was lent starts at at and is n long, and was filled whole
pub painted_row :
    (w top left right value r at n : ℕ) (before page ys : List ℕ)
    → ys ≡ replicate (length (mid_of at n page)) value → at ≡ r * w + left
    → n ≡ right - left → top ≤ r → left ≤ right → right ≤ w → (r + 1) * w ≤ length page
    → RectanglePainted w (rows top left right r) value before page
    → RectanglePainted w (rows top left right (r + 1)) value before (put_mid at n page ys)
painted_row w top left right value r at n before page ys filled starts wide top_in left_in right_in room so_far =
    let Next : ℕ → ℕ → Type 0 =
    λ at n. RectanglePainted w (rows top left right (r + 1)) value before (put_mid at n page ys) in
    let part : length (mid_of at n page) ≡ right - left = part_length at n page (omega arith) ∙ wide in
    let whole : ys ≡ replicate (right - left) value = filled ∙ ap (λ (k : ℕ). replicate k value) part in
    subst (λ (k : ℕ). Next k n) (sym starts)
    (subst (λ (k : ℕ). Next (r * w + left) k) (sym wide)
    (painted_more w top left right value r before page ys top_in left_in right_in room
    (ap length whole ∙ length-replicate (right - left) value)
    (λ k k-in. ap (λ (zs : List ℕ). get_or zs k 0) whole ∙ get_or-replicate (right - left) k value 0 k-in)
    so_far))
