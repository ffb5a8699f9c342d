-- What the promise leaves open: nothing. Two results that it allows are the same bytes. Assumes nothing.
use mathlib.Core.Path.{◌≡◌, refl, sym, ◌∙◌}
use mathlib.Core.Bool.{Bool, true, false}
use mathlib.Core.List.{List}
use Prim.Native.Nat.{ℕ, ◌<◌}
use lib.ListN.{get_or}
use Rattle.ticket.specs.declared.HiddenBox.{HiddenBox}
use Rattle.boxes.specs.Boxes.{hidden}
use Rattle.tray.specs.Laws.{compact_one}
use Rattle.tray.specs.Turned.{compact_at}
use Rattle.tray.specs.declared.Layout.{Layout}
use Rattle.hiding.specs.Hiding.{BoxesPainted}

pub boxes_painted_one :
    (boxes : List HiddenBox) (lay : Layout) (value : ℕ) (before one two : List ℕ)
    → BoxesPainted boxes lay value before one
    → BoxesPainted boxes lay value before two → one ≡ two
boxes_painted_one boxes lay value before one two f g =
    compact_one lay one two (f.same_length ∙ sym g.same_length)
    (λ r r_in c c_in. either (hidden boxes c r) r r_in c c_in refl)
    (λ i l. f.rest i l ∙ sym (g.rest i l))
  where
    either :
        (covered : Bool) (r : ℕ) → r < lay.height → (c : ℕ) → c < lay.width → hidden boxes c r ≡ covered
        → get_or one (compact_at lay c r) 0 ≡ get_or two (compact_at lay c r) 0
    either true r r_in c c_in e = f.hides r r_in c c_in e ∙ sym (g.hides r r_in c c_in e)
    either false r r_in c c_in e = f.shows r r_in c c_in e ∙ sym (g.shows r r_in c c_in e)
