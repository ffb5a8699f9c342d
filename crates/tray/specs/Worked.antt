-- Two rows of three pixels written into the middle of a tray (offset 2, stride 4). Their places on the compact page, and
-- a box over the last two pixels of the second row.
-- Assumes nothing.
use Rattle.std.specs.Prelude.{◌≡◌, refl, ℕ, ◌+◌, ◌*◌, Bool, true, false, List, [], ◌∷◌}
use Rattle.placement.specs.Placement.{column_of, row_of, inside}
use Rattle.placement.proofs.Worked.{middle}
use Rattle.tray.specs.Written.{written_from, written, cleared}
use Rattle.geometry.specs.Drift.{mirrored}
use Rattle.tray.specs.Turned.{down_of, across_of, compact_column, compact_at}
use Rattle.tray.specs.Turned.{boxed, mirrored_from, mirrored_to, turned_box}
use Rattle.tray.specs.declared.Layout.{Layout}

abbrev numbered : ℕ → ℕ → ℕ
numbered c r = 10 * r + c + 1

lands :
    written middle numbered (90 ∷ 91 ∷ 92 ∷ 93 ∷ 94 ∷ 95 ∷ 96 ∷ 97 ∷ 98 ∷ 99 ∷ [])
    ≡ 90 ∷ 91 ∷ 1 ∷ 2 ∷ 3 ∷ 95 ∷ 11 ∷ 12 ∷ 13 ∷ 99 ∷ []
unfolding written written_from inside column_of row_of
lands = refl

used_is_zero : cleared 3 (7 ∷ 7 ∷ 7 ∷ 7 ∷ []) ≡ 0 ∷ 0 ∷ 0 ∷ 7 ∷ []
unfolding cleared
used_is_zero = refl

-- a page of three columns and two rows
abbrev laid : Bool → Bool → Layout
laid steep falls = record { steep = steep; falls = falls; width = 3; height = 2 }

-- columns 0 to 2 of row 0, then of row 1: as they are, mirrored, transposed, and transposed with the rows mirrored
places : Bool → Bool → List ℕ
places steep falls =
    compact_at (laid steep falls) 0 0
    ∷ compact_at (laid steep falls) 1 0
    ∷ compact_at (laid steep falls) 2 0
    ∷ compact_at (laid steep falls) 0 1
    ∷ compact_at (laid steep falls) 1 1
    ∷ compact_at (laid steep falls) 2 1
    ∷ []

steep_places : places true false ≡ 0 ∷ 1 ∷ 2 ∷ 3 ∷ 4 ∷ 5 ∷ []
unfolding places compact_at compact_column mirrored down_of across_of
steep_places = refl

steep_falling_places : places true true ≡ 2 ∷ 1 ∷ 0 ∷ 5 ∷ 4 ∷ 3 ∷ []
unfolding places compact_at compact_column mirrored down_of across_of
steep_falling_places = refl

shallow_places : places false false ≡ 0 ∷ 2 ∷ 4 ∷ 1 ∷ 3 ∷ 5 ∷ []
unfolding places compact_at compact_column mirrored down_of across_of
shallow_places = refl

shallow_falling_places : places false true ≡ 1 ∷ 3 ∷ 5 ∷ 0 ∷ 2 ∷ 4 ∷ []
unfolding places compact_at compact_column mirrored down_of across_of
shallow_falling_places = refl

box_steep_falling : turned_box (laid true true) (boxed 1 1 2 1) ≡ record { top = 1; bottom = 2; left = 0; right = 2 }
unfolding turned_box boxed mirrored_from mirrored_to down_of across_of
box_steep_falling = refl

box_shallow_falling : turned_box (laid false true) (boxed 1 1 2 1) ≡ record { top = 1; bottom = 3; left = 0; right = 1 }
unfolding turned_box boxed mirrored_from mirrored_to down_of across_of
box_shallow_falling = refl
