-- What the tests on boxes say, as facts about numbers: nobody above unfolds them.
-- Assumes nothing.
use Rattle.std.specs.Prelude.{◌≡◌, refl, Bool, true, false, ◌&&◌, ◌||◌, List, [], ◌∷◌, ◌++◌, ℕ, ◌+◌, ◌≤◌, ◌<◌, leb, ltb, length, get_or}
use Rattle.std.proofs.Common.{sym, ap, ◌∙◌, true≢false, leb-true, ltb-true, le-leb, lt-ltb}
use Rattle.std.proofs.Math.Bool.{or_assoc}
use Rattle.std.proofs.lemmas.Bool.{not-false}
use Rattle.ticket.specs.declared.HiddenBox.{HiddenBox}
use Rattle.boxes.specs.declared.Question.TheVariants.{NotAllowed}
use Rattle.boxes.specs.Boxes.{covers, hidden, box_allowed, answers}
use Rattle.boxes.specs.First.{first_of, none_before}

both : (a b : Bool) → a && b ≡ true → (a ≡ true) × (b ≡ true)
both true b e = (refl, e)
both false b e = absurd (true≢false (sym e))

-- ---- a box and a pixel

-- the pixel at column c, row r lies in the box
pub record InBox (b : HiddenBox) (c r : ℕ) : Type 0 where
  pub from_left : b.left ≤ c
  pub before_right : c < b.left + b.width
  pub from_top : b.top ≤ r
  pub before_bottom : r < b.top + b.height

pub covers_inside : (b : HiddenBox) (c r : ℕ) → covers b c r ≡ true → InBox b c r
unfolding covers
covers_inside b c r e =
    let sides = both (leb b.left c && ltb c (b.left + b.width)) _ e in
    let across = both (leb b.left c) _ sides.0 in
    let down = both (leb b.top r) _ sides.1 in
    record {
      from_left = leb-true _ _ across.0;
      before_right = ltb-true _ _ across.1;
      from_top = leb-true _ _ down.0;
      before_bottom = ltb-true _ _ down.1;
    }

pub inside_covers : (b : HiddenBox) (c r : ℕ) → InBox b c r → covers b c r ≡ true
unfolding covers
inside_covers b c r i =
    rw (
      le-leb b.left c i.from_left,
      lt-ltb c (b.left + b.width) i.before_right,
      le-leb b.top r i.from_top,
      lt-ltb r (b.top + b.height) i.before_bottom,
    ) refl

-- ---- two lists of boxes hide what one of them hides

pub hidden_append :
    (boxes more : List HiddenBox) (c r : ℕ) → hidden (boxes ++ more) c r ≡ hidden boxes c r || hidden more c r
unfolding hidden
hidden_append [] more c r = refl
hidden_append (b ∷ boxes) more c r =
    ap (λ (q : Bool). covers b c r || q) (hidden_append boxes more c r)
    ∙ sym (or_assoc (covers b c r) (hidden boxes c r) (hidden more c r))

-- ---- a box that is allowed on a page

pub record Lies (w h : ℕ) (b : HiddenBox) : Type 0 where
  pub some_wide : 1 ≤ b.width
  pub some_high : 1 ≤ b.height
  pub right_in : b.left + b.width ≤ w
  pub bottom_in : b.top + b.height ≤ h

pub allowed_lies : (w h : ℕ) (b : HiddenBox) → box_allowed w h b ≡ true → Lies w h b
unfolding box_allowed
allowed_lies w h b e =
    let tests = both (leb 1 b.width && leb 1 b.height) _ e in
    let sides = both (leb 1 b.width) _ tests.0 in
    let ends = both (leb (b.left + b.width) w) _ tests.1 in
    record {
      some_wide = leb-true _ _ sides.0;
      some_high = leb-true _ _ sides.1;
      right_in = leb-true _ _ ends.0;
      bottom_in = leb-true _ _ ends.1;
    }

pub lies_allowed : (w h : ℕ) (b : HiddenBox) → Lies w h b → box_allowed w h b ≡ true
unfolding box_allowed
lies_allowed w h b x =
    rw (
      le-leb 1 b.width x.some_wide,
      le-leb 1 b.height x.some_high,
      le-leb (b.left + b.width) w x.right_in,
      le-leb (b.top + b.height) h x.bottom_in,
    ) refl

-- where none is the first that is not allowed, each is allowed
pub none_refused :
    (w h : ℕ) (boxes : List HiddenBox) → first_of (answers (NotAllowed w h)) boxes ≡ length boxes
    → (k : ℕ) (d : HiddenBox) → k < length boxes → box_allowed w h (get_or boxes k d) ≡ true
unfolding answers
none_refused w h boxes e k d below =
    not-false _ (none_before (answers (NotAllowed w h)) boxes d k (rw e below))
