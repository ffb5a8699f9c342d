-- The judging and the finding of boxes, a box at a time. Assumes nothing.
use mathlib.Core.Path.{◌≡◌, refl, sym, ap, ap₂, ◌∙◌}
use Prim.Native.Nat.{ℕ, zero, suc, ◌+◌, ◌-◌, ◌*◌, ◌<◌, ◌≤◌}
use native.Mathlib.Numerals.{add-one}
use native.Mathlib.Omega.{arith}
use borrow.Author.Tests.{eq-eqb, ne_eqb, lt-ltb, le-ltb}
use mathlib.Core.Bool.{cond}
use mathlib.Core.List.{List, [], ◌∷◌, ◌++◌, append-nil}
use lib.ListN.{length, take, drop, set, replicate, take-append-drop, length-set}
use lib.Seq.{take-suc-set, append_snoc, drop-set-lt, drop-drop, length-take-le}
use lib.Dec.{eqb}
use Rattle.std.specs.Prelude.{Ok, Err}
use Rattle.refusal.specs.Answer.{Answer, done_with}
use Rattle.refusal.specs.Chain.{◌then◌, then_ok, then_err}
use Rattle.refusal.specs.declared.Refused.{Refused}
use Rattle.fields.specs.Fields.{first_box, field_end}
use Rattle.ticket.specs.Boxes.{box_at, boxes_from, boxes_in}
use Rattle.ticket.specs.Judging.{judge_box, judge_boxes}
use Rattle.ticket.specs.Reading.{no_box, box_places}
use Rattle.ticket.specs.declared.HiddenBox.{HiddenBox}

-- what is left to judge before the k-th box, whose head is due at `head`
abbrev pub rest : List ℕ → ℕ → ℕ → Answer
rest s head k = judge_boxes s head k (65 - k)

module _ (s : List ℕ) (head k : ℕ) where
  one_more : k < 65
      → rest s head k
      ≡ cond (eqb (length s) head) (done_with 0) (judge_box s head k then rest s (field_end s head) (k + 1))
  unfolding judge_boxes
  one_more h =
      let n : 65 - k ≡ suc (65 - (k + 1)) = omega arith in
      rw (n, add-one k)

  pub rest_over : k < 65 → length s ≡ head → rest s head k ≡ done_with 0
  rest_over h e = one_more h ∙ rw (eq-eqb (length s) head e)

  module _ {v : Answer} (h : k < 65) (more : length s ≡ head → ⊥) (found : v ≡ judge_box s head k) where
    further : rest s head k ≡ (v then rest s (field_end s head) (k + 1))
    further = one_more h ∙ rw (ne_eqb (length s) head more, found)

    pub rest_on : {work next : ℕ} → v ≡ Ok work → next ≡ field_end s head → rest s head k ≡ rest s next (k + 1)
    rest_on was e = further ∙ rw (was, then_ok, e) refl

    pub rest_stop : {refused : Refused} → v ≡ Err refused → rest s head k ≡ Err refused
    rest_stop was = further ∙ rw (was, then_err) refl

  pub rest_none : 65 ≤ k → rest s head k ≡ done_with 0
  unfolding judge_boxes
  rest_none h =
      let n : 65 - k ≡ 0 = omega arith in
      rw n

-- a walk that has filled the first k places and stands at a head: these and the boxes from there on are the ticket's
-- boxes, and no place behind them is filled
pub record Walked (s : List ℕ) (head k : ℕ) (places : List HiddenBox) : Type 0 where
  pub some : k ≤ 64
  pub near : head ≤ 30 + 65538 * k
  pub all : length places ≡ 64
  pub filled : take k places ++ boxes_from s head (64 - k) ≡ boxes_in s
  pub empty : drop k places ≡ replicate (64 - k) no_box

pub walk_starts : (s : List ℕ) (places : List HiddenBox) → places ≡ replicate 64 no_box → Walked s first_box 0 places
unfolding boxes_in
walk_starts s places e =
    record {
      some = omega arith;
      near = omega arith;
      all = rw e;
      filled = refl;
      empty = e;
    }

none_there : (s : List ℕ) (head n : ℕ) → length s ≤ head → boxes_from s head n ≡ []
unfolding boxes_from
none_there s head zero h = refl
none_there s head (suc n) h = rw (le-ltb head (length s) h)

module _ (s : List ℕ) (head k : ℕ) (places : List HiddenBox) (w : Walked s head k places) where
  one_found : k < 64 → head < length s
      → boxes_from s head (64 - k) ≡ box_at s head ∷ boxes_from s (field_end s head) (64 - (k + 1))
  unfolding boxes_from
  one_found h there =
      let n : 64 - k ≡ suc (64 - (k + 1)) = omega arith in
      rw (n, lt-ltb head (length s) there)

  one_less : k < 64 → drop (k + 1) places ≡ replicate (64 - (k + 1)) no_box
  one_less h =
      let n : 64 - k ≡ suc (64 - (k + 1)) = omega arith in
      sym (drop-drop 1 k places) ∙ ap (drop 1) (w.empty ∙ ap (λ (m : ℕ). replicate m no_box) n)

  -- the box at this head goes to the next place
  pub walk_on : {b : HiddenBox} {next : ℕ} → k < 64 → head < length s → b ≡ box_at s head → next ≡ field_end s head
      → next ≤ head + 65538
      → Walked s next (k + 1) (set places k b)
  walk_on {b} {next} h there found e reach =
      let room : k < length places = omega (arith, w.all) in
      let kept : drop (k + 1) (set places k b) ≡ drop (k + 1) places = drop-set-lt (k + 1) places k b (omega arith) in
      let more : take (k + 1) (set places k b) ≡ take k places ++ (b ∷ []) =
      rw (add-one k) (take-suc-set places k b room) in
      record {
        some = omega arith;
        near = omega (arith, w.near);
        all = length-set places k b ∙ w.all;
        filled = rw (more, append_snoc, found, e, ← one_found h there) w.filled;
        empty = kept ∙ one_less h;
      }

  -- at the walk's end all boxes stand in their places
  module _ (over : boxes_from s head (64 - k) ≡ []) where
    boxes_taken : take k places ≡ boxes_in s
    boxes_taken =
        sym (append-nil (take k places))
        ∙ ap (λ (l : List HiddenBox). take k places ++ l) (sym over)
        ∙ w.filled

    pub walk_counted : k ≡ length (boxes_in s)
    walk_counted = sym (length-take-le k places (omega (arith, w.some, w.all))) ∙ ap length boxes_taken

    pub walk_placed : places ≡ box_places (boxes_in s)
    unfolding box_places
    walk_placed =
        let behind = w.empty ∙ ap (λ (n : ℕ). replicate (64 - n) no_box) walk_counted in
        sym (take-append-drop k places) ∙ ap₂ (λ (l m : List HiddenBox). l ++ m) boxes_taken behind

  -- it ends where the ticket ends, or with the 64th place
  pub over_at_end : length s ≤ head → boxes_from s head (64 - k) ≡ []
  over_at_end h = none_there s head (64 - k) h

  pub over_when_full : 64 ≤ k → boxes_from s head (64 - k) ≡ []
  unfolding boxes_from
  over_when_full h =
      let n : 64 - k ≡ 0 = omega arith in
      rw n
