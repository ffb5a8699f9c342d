-- What the promise of taking a page in leaves open: nothing. Two results that it allows are the same bytes.
-- Assumes nothing.
use Rattle.std.proofs.Common.{◌≡◌, ℕ, List, sym, ◌∙◌}
use Rattle.placement.specs.declared.Placement.{Placement}
use Rattle.tray.specs.declared.Layout.{Layout}
use Rattle.tray.specs.Laws.{compact_one}
use Rattle.turning.specs.Promises.{PageIn}

pub page_in_one :
    (source : List ℕ) (p : Placement) (lay : Layout) (before one two : List ℕ) → PageIn source p lay before one
    → PageIn source p lay before two → one ≡ two
page_in_one source p lay before one two f g =
    compact_one lay one two (f.size ∙ sym g.size)
    (λ r r_in c c_in. f.pixel r r_in c c_in ∙ sym (g.pixel r r_in c c_in))
    (λ i l. f.rest i l ∙ sym (g.rest i l))
