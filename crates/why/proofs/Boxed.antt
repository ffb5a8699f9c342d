-- A pixel and the first box that holds it: the reason where there is one, and none where there is not.
-- Assumes nothing.
use mathlib.Core.Path.{◌≡◌, sym, ap, ◌∙◌}
use mathlib.Core.Bool.{Bool, true, false, cond}
use mathlib.Core.List.{List}
use Prim.Native.Nat.{ℕ, ◌≤◌, ◌<◌}
use native.Mathlib.Omega.{arith}
use borrow.Author.Tests.{lt-ltb, le-ltb}
use lib.ListN.{length}
use Rattle.std.specs.Prelude.{Some, None, position}
use Rattle.ticket.specs.declared.Ticket.{Ticket}
use Rattle.boxes.specs.Boxes.{hidden, boxes_of, answers}
use Rattle.boxes.specs.First.{first_of, hidden_first, found_some, found_none}
use Rattle.boxes.specs.declared.Question.TheVariants.{Holds}
use Rattle.placement.specs.declared.Placement.{Placement}
use Rattle.nearby.specs.declared.Pixel.{Pixel}
use Rattle.why.specs.Reason.{without_steps, hidden_box, by_box, by_steps, reason_of}

module _ (t : Ticket) (at : Pixel) where
  module _ (number : ℕ) (found : position (answers (Holds at.column at.row)) (boxes_of t) ≡ Some number) where
    held : hidden (boxes_of t) at.column at.row ≡ true
    unfolding answers
    held =
        let first = found_some (answers (Holds at.column at.row)) (boxes_of t) number found in
        let below : first_of (answers (Holds at.column at.row)) (boxes_of t) < length (boxes_of t) = omega (arith, first.0, first.1) in
        hidden_first (boxes_of t) at.column at.row ∙ lt-ltb _ _ below

  pub shows : position (answers (Holds at.column at.row)) (boxes_of t) ≡ None
      → hidden (boxes_of t) at.column at.row ≡ false
  unfolding answers
  shows none =
      let all = found_none (answers (Holds at.column at.row)) (boxes_of t) none in
      let beyond : length (boxes_of t) ≤ first_of (answers (Holds at.column at.row)) (boxes_of t) = omega (arith, all) in
      hidden_first (boxes_of t) at.column at.row ∙ le-ltb _ _ beyond

  module _ (p : Placement) (tray : List ℕ) where
    by_hidden : (b : Bool) → hidden (boxes_of t) at.column at.row ≡ b
        → reason_of t p tray at ≡ cond b (by_box t at) (by_steps t p tray at)
    unfolding reason_of
    by_hidden b e = ap (λ (h : Bool). cond h (by_box t at) (by_steps t p tray at)) e

    pub box_told : (number : ℕ) → position (answers (Holds at.column at.row)) (boxes_of t) ≡ Some number
        → without_steps hidden_box number ≡ reason_of t p tray at
    unfolding by_box answers
    box_told number found =
        let first = found_some (answers (Holds at.column at.row)) (boxes_of t) number found in
        ap (without_steps hidden_box) (sym first.0) ∙ sym (by_hidden true (held number found))

    pub steps_told : position (answers (Holds at.column at.row)) (boxes_of t) ≡ None
        → by_steps t p tray at ≡ reason_of t p tray at
    steps_told none = sym (by_hidden false (shows none))
