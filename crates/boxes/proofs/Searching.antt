-- What a search through the boxes finds, step by step, and whether it finds a box that holds a pixel. Assumes nothing.
use mathlib.Core.Path.{◌≡◌, refl, ap, ◌∙◌}
use mathlib.Core.Bool.{Bool, true, false}
use mathlib.Core.List.{List}
use Prim.Native.Nat.{ℕ, ◌≤◌, ◌<◌}
use native.Mathlib.Omega.{arith}
use lib.Dec.{eqb, ltb}
use lib.ListN.{length, get_or}
use Rattle.std.proofs.lemmas.Bool.Decides.{nat_tests}
use Rattle.std.specs.List.{position_or_len}
use Rattle.ticket.specs.declared.HiddenBox.{HiddenBox}
use Rattle.boxes.specs.Boxes.{covers, hidden, answers}
use Rattle.boxes.specs.First.{first_of, first_position, first_here, first_later, hidden_first}
use Rattle.boxes.specs.declared.Question.{Question}
use Rattle.boxes.specs.declared.Question.TheVariants.{Holds}

-- where no box before box k answers, box k answers exactly if it is the first
pub asked_here :
    (q : Question) (boxes : List HiddenBox) (k : ℕ) (d : HiddenBox) → k ≤ position_or_len (answers q) boxes
    → k < length boxes
    → answers q (get_or boxes k d) ≡ eqb (position_or_len (answers q) boxes) k
asked_here q boxes k d h below = by (answers q (get_or boxes k d)) refl
  where
    at : first_of (answers q) boxes ≡ position_or_len (answers q) boxes
    at = first_position (answers q) boxes

    by : (here : Bool) → answers q (get_or boxes k d) ≡ here → here ≡ eqb (position_or_len (answers q) boxes) k
    by true e = grind (arith, nat_tests, at, first_here (answers q) boxes d k (omega (arith, at)) e)
    by false e = grind (arith, nat_tests, at, first_later (answers q) boxes d k (omega (arith, at)) below e)

-- a pixel is hidden exactly if a search for a box that holds it finds one
pub hidden_position :
    (boxes : List HiddenBox) (c r : ℕ)
    → hidden boxes c r ≡ ltb (position_or_len (answers (Holds c r)) boxes) (length boxes)
unfolding answers
hidden_position boxes c r =
    hidden_first boxes c r
    ∙ ap (λ (k : ℕ). ltb k (length boxes)) (first_position (λ (b : HiddenBox). covers b c r) boxes)
