-- Flipped boxes: they hide the flipped pixels, they lie on the page, and flipped again they are as they were.
-- Assumes nothing.
use mathlib.Core.Path.{◌≡◌, refl, sym, ap, ap₂}
use mathlib.Core.Bool.{Bool, true, false, not, ◌||◌, false≢true}
use mathlib.Core.List.{List, [], ◌∷◌, map}
use Prim.Native.Nat.{ℕ, zero, suc, ◌+◌, ◌-◌, ◌<◌}
use native.Mathlib.Omega.{arith}
use Rattle.geometry.specs.Drift.{mirrored}
use Rattle.ticket.specs.declared.HiddenBox.{HiddenBox}
use Rattle.boxes.specs.Boxes.{covers, hidden, box_allowed}
use Rattle.boxes.specs.Laws.{covers_inside, inside_covers, Lies, allowed_lies, lies_allowed}
use Rattle.demands.specs.Flip.{flipped_box, OnPage}

-- tests that hold together are equal
same_test : (a b : Bool) → (a ≡ true → b ≡ true) → (b ≡ true → a ≡ true) → a ≡ b
same_test true b h k = sym (h refl)
same_test false true h k = absurd (false≢true (k refl))
same_test false false h k = refl

module _ (w h : ℕ) where
  -- ---- one box

  module _ (b : HiddenBox) (ok : box_allowed w h b ≡ true) where
    lies : Lies w h b
    lies = allowed_lies w h b ok

    covers_flipped :
        (steep : Bool) (c r : ℕ) → c < w → r < h
        → covers (flipped_box steep w h b) (mirrored steep w c) (mirrored (not steep) h r) ≡ covers b c r
    unfolding flipped_box mirrored
    covers_flipped true c r c_in r_in =
        same_test _ _
        (λ e.
        let x = covers_inside _ (w - 1 - c) r e in
        inside_covers b c r
        (record {
          from_left = omega (arith, lies, x);
          before_right = omega (arith, lies, x);
          from_top = x.from_top;
          before_bottom = x.before_bottom;
        }))
        (λ e.
        let x = covers_inside b c r e in
        inside_covers _ (w - 1 - c) r
        (record {
          from_left = omega (arith, lies, x);
          before_right = omega (arith, lies, x);
          from_top = x.from_top;
          before_bottom = x.before_bottom;
        }))
    covers_flipped false c r c_in r_in =
        same_test _ _
        (λ e.
        let x = covers_inside _ c (h - 1 - r) e in
        inside_covers b c r
        (record {
          from_left = x.from_left;
          before_right = x.before_right;
          from_top = omega (arith, lies, x);
          before_bottom = omega (arith, lies, x);
        }))
        (λ e.
        let x = covers_inside b c r e in
        inside_covers _ c (h - 1 - r)
        (record {
          from_left = x.from_left;
          before_right = x.before_right;
          from_top = omega (arith, lies, x);
          before_bottom = omega (arith, lies, x);
        }))

    allowed_flipped : (steep : Bool) → box_allowed w h (flipped_box steep w h b) ≡ true
    unfolding flipped_box
    allowed_flipped true =
        lies_allowed w h _
        (record {
          some_wide = lies.some_wide;
          some_high = lies.some_high;
          right_in = omega (arith, lies);
          bottom_in = lies.bottom_in;
        })
    allowed_flipped false =
        lies_allowed w h _
        (record {
          some_wide = lies.some_wide;
          some_high = lies.some_high;
          right_in = lies.right_in;
          bottom_in = omega (arith, lies);
        })

    flipped_again : (steep : Bool) → flipped_box steep w h (flipped_box steep w h b) ≡ b
    unfolding flipped_box
    flipped_again true =
        let back : w - (w - (b.left + b.width) + b.width) ≡ b.left = omega (arith, lies) in
        ap (λ (x : ℕ). record { left = x; top = b.top; width = b.width; height = b.height }) back
    flipped_again false =
        let back : h - (h - (b.top + b.height) + b.height) ≡ b.top = omega (arith, lies) in
        ap (λ (x : ℕ). record { left = b.left; top = x; width = b.width; height = b.height }) back

  -- ---- a list of boxes

  first_on : (b : HiddenBox) (boxes : List HiddenBox) → OnPage w h (b ∷ boxes) → box_allowed w h b ≡ true
  first_on b boxes ok = ok 0 b (omega arith)

  rest_on : (b : HiddenBox) (boxes : List HiddenBox) → OnPage w h (b ∷ boxes) → OnPage w h boxes
  rest_on b boxes ok i d below = ok (suc i) d (omega arith)

  module _ (steep : Bool) where
    abbrev flip : HiddenBox → HiddenBox
    flip b = flipped_box steep w h b

    pub hidden_flipped :
        (boxes : List HiddenBox) → OnPage w h boxes → (c r : ℕ) → c < w → r < h
        → hidden (map flip boxes) (mirrored steep w c) (mirrored (not steep) h r) ≡ hidden boxes c r
    unfolding hidden
    hidden_flipped [] ok c r c_in r_in = refl
    hidden_flipped (b ∷ boxes) ok c r c_in r_in =
        ap₂ ◌||◌ (covers_flipped b (first_on b boxes ok) steep c r c_in r_in)
        (hidden_flipped boxes (rest_on b boxes ok) c r c_in r_in)

    pub on_page_flipped : (boxes : List HiddenBox) → OnPage w h boxes → OnPage w h (map flip boxes)
    on_page_flipped [] ok i d below = absurd (omega arith)
    on_page_flipped (b ∷ boxes) ok zero d below = allowed_flipped b (first_on b boxes ok) steep
    on_page_flipped (b ∷ boxes) ok (suc i) d below =
        on_page_flipped boxes (rest_on b boxes ok) i d (omega arith)

    pub boxes_again : (boxes : List HiddenBox) → OnPage w h boxes → map flip (map flip boxes) ≡ boxes
    boxes_again [] ok = refl
    boxes_again (b ∷ boxes) ok =
        ap₂ (λ (x : HiddenBox) (xs : List HiddenBox). x ∷ xs) (flipped_again b (first_on b boxes ok) steep)
        (boxes_again boxes (rest_on b boxes ok))
