-- Painting the boxes one by one. Assumes nothing.
use mathlib.Core.Path.{◌≡◌, refl, sym, ap, ◌∙◌, subst}
use mathlib.Core.Bool.{Bool, true, false, ◌||◌, or-false, true≢false}
use mathlib.Core.List.{List, [], ◌∷◌, ◌++◌}
use Prim.Native.Nat.{ℕ, ◌+◌, ◌≤◌, ◌<◌}
use native.Mathlib.Numerals.{add-one}
use native.Mathlib.Omega.{arith}
use lib.ListN.{length, get_or, take}
use lib.Seq.{take-suc}
use Rattle.ticket.specs.declared.HiddenBox.{HiddenBox}
use Rattle.tray.specs.Turned.{compact_at, InRectangle, boxed}
use Rattle.tray.specs.Promises.{RectangleFits, BoxPainted}
use Rattle.tray.specs.declared.Rectangle.{Rectangle}
use Rattle.boxes.specs.Boxes.{covers, hidden, box_allowed}
use Rattle.boxes.specs.Laws.{covers_inside, inside_covers, hidden_append, allowed_lies}
use Rattle.tray.specs.declared.Layout.{Layout}
use Rattle.hiding.specs.Hiding.{BoxesPainted}

-- ---- a box as a rectangle

abbrev pub rectangle : HiddenBox → Rectangle
rectangle b = boxed b.left b.top b.width b.height

covers_within : (b : HiddenBox) (c r : ℕ) → covers b c r ≡ true → InRectangle (rectangle b) r c
unfolding boxed
covers_within b c r e =
    let i = covers_inside b c r e in
    record {
      below_top = i.from_top;
      above_bottom = i.before_bottom;
      from_left = i.from_left;
      before_right = i.before_right;
    }

within_covers : (b : HiddenBox) (c r : ℕ) → InRectangle (rectangle b) r c → covers b c r ≡ true
unfolding boxed
within_covers b c r w =
    inside_covers b c r
    (record {
      from_left = w.from_left;
      before_right = w.before_right;
      from_top = w.below_top;
      before_bottom = w.above_bottom;
    })

pub on_page_lem : (w h : ℕ) (b : HiddenBox) → box_allowed w h b ≡ true → 1 ≤ w → 1 ≤ h → RectangleFits (rectangle b) w h
unfolding boxed
on_page_lem w h b e wide high =
    let lies = allowed_lies w h b e in
    record {
      width_least = wide;
      height_least = high;
      wide = omega arith;
      high = omega arith;
      right_in = lies.right_in;
      bottom_in = lies.bottom_in;
    }

-- ---- no box, one box, and more

or_none : (p q : Bool) → p || q ≡ false → (p ≡ false) × (q ≡ false)
or_none true q e = (e, absurd (true≢false e))
or_none false q e = (refl, e)

module _ (lay : Layout) (value : ℕ) where
  pub painted_none : (page : List ℕ) → BoxesPainted [] lay value page page
  unfolding hidden
  painted_none page =
      record {
        same_length = refl;
        hides = λ r r_in c c_in e. absurd (true≢false (sym e));
        shows = λ r r_in c c_in e. refl;
        rest = λ i h. refl;
      }

  pub painted_one :
      (b : HiddenBox) (old new : List ℕ)
      → BoxPainted lay (rectangle b) value old new
      → BoxesPainted (b ∷ []) lay value old new
  unfolding hidden
  painted_one b old new box =
      record {
        same_length = box.size;
        hides = λ r r_in c c_in e. box.hidden r r_in c c_in (covers_within b c r (sym (or-false (covers b c r)) ∙ e));
        shows = λ r r_in c c_in e.
            let not_covered = sym (or-false (covers b c r)) ∙ e in
            box.shown r r_in c c_in (λ w. true≢false (sym (within_covers b c r w) ∙ not_covered));
        rest = box.rest;
      }

  module _ (xs ys : List HiddenBox) (old mid new : List ℕ)
      (done : BoxesPainted xs lay value old mid) (more : BoxesPainted ys lay value mid new) where
    -- a pixel that the boxes before hid, or these do
    hides_case :
        (before here : Bool) (c r : ℕ) → hidden xs c r ≡ before → hidden ys c r ≡ here → before || here ≡ true
        → r < lay.height → c < lay.width → get_or new (compact_at lay c r) 0 ≡ value
    hides_case before true c r was is either r_in c_in = more.hides r r_in c c_in is
    hides_case before false c r was is either r_in c_in =
        more.shows r r_in c c_in is ∙ done.hides r r_in c c_in (was ∙ sym (or-false before) ∙ either)

    pub painted_append : BoxesPainted (xs ++ ys) lay value old new
    painted_append =
        record {
          same_length = more.same_length ∙ done.same_length;
          hides = λ r r_in c c_in e.
              hides_case (hidden xs c r) (hidden ys c r) c r refl refl (sym (hidden_append xs ys c r) ∙ e) r_in c_in;
          shows = λ r r_in c c_in e.
              let neither = or_none (hidden xs c r) (hidden ys c r) (sym (hidden_append xs ys c r) ∙ e) in
              more.shows r r_in c c_in neither.1 ∙ done.shows r r_in c c_in neither.0;
          rest = λ i h. more.rest i h ∙ done.rest i h;
        }

  -- one box more
  pub painted_more :
      (boxes : List HiddenBox) (k : ℕ) (d : HiddenBox) (old mid new : List ℕ) → k < length boxes
      → BoxesPainted (take k boxes) lay value old mid → BoxesPainted (get_or boxes k d ∷ []) lay value mid new
      → BoxesPainted (take (k + 1) boxes) lay value old new
  painted_more boxes k d old mid new below done more =
      subst (λ (l : List HiddenBox). BoxesPainted l lay value old new)
      (sym (ap (λ (i : ℕ). take i boxes) (add-one k) ∙ take-suc boxes k d below))
      (painted_append (take k boxes) (get_or boxes k d ∷ []) old mid new done more)
