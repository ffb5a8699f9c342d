-- `boxes::covers_numbers` meets its contract. Assumes nothing.
use mathlib.Core.Path.{◌≡◌, sym, ap, ◌∙◌}
use mathlib.Core.Bool.{Bool, true, false, ◌&&◌}
use Rattle.boxes.specs.Boxes.{covers}
use Rattle.boxes.proofs.covers_numbers.Goals as goal

across_too : (a b x y : Bool) → a ≡ x → b ≡ y → a ≡ true → b ≡ x && y
across_too a b x y p q e = q ∙ sym (ap (λ (z : Bool). z && y) (sym p ∙ e))

not_across : (a x y : Bool) → a ≡ x → a ≡ false → a ≡ x && y
not_across a x y p e = e ∙ sym (ap (λ (z : Bool). z && y) (sym p ∙ e))

pub returns-then-lies_in : goal.returns-then-lies_in
unfolding covers
returns-then-lies_in c = across_too _ _ _ _ c.lies_in.ensures c.lies_in-then-lies_in.ensures c.if-lies_in.true

pub returns-else-lies_in : goal.returns-else-lies_in
unfolding covers
returns-else-lies_in c = not_across _ _ _ c.lies_in.ensures c.if-lies_in.false
