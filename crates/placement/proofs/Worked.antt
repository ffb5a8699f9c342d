-- Two rows of three pixels in the middle of a tray, with offset 2 and stride 4; a page's limits, and its scratch.
-- Assumes nothing.
use Rattle.std.specs.Prelude.{◌≡◌, refl, ℕ, true, false, [], ◌∷◌, map}
use Rattle.placement.specs.declared.Placement.{Placement}
use Rattle.placement.specs.Placement.{side_allowed, allowed, fits, scratch_needed}

abbrev pub middle : Placement
middle = record { offset = 2; width = 3; height = 2; stride = 4 }

-- nine bytes are enough, eight are one too few
just_fits : map (fits middle) (9 ∷ 8 ∷ []) ≡ true ∷ false ∷ []
unfolding fits
just_fits = refl

-- the largest 64-bit number as an offset: the sum does not wrap to something small
no_wrap :
    fits (record { offset = 18446744073709551615; width = 1; height = 1; stride = 1 }) 18446744073709551615 ≡ false
unfolding fits
no_wrap = refl

limits : map allowed
    (record { offset = 0; width = 8192; height = 8192; stride = 16384 }
    ∷ record { offset = 0; width = 0; height = 1; stride = 1 }
    ∷ record { offset = 0; width = 1; height = 8193; stride = 1 }
    ∷ record { offset = 0; width = 3; height = 1; stride = 2 }
    ∷ record { offset = 0; width = 3; height = 1; stride = 16385 }
    ∷ [])
    ≡ true ∷ false ∷ false ∷ false ∷ false ∷ []
unfolding allowed side_allowed
limits = refl

scratch : map (λ (h : ℕ). scratch_needed 2 3 h) (1 ∷ 2 ∷ 5 ∷ []) ≡ 15 ∷ 21 ∷ 45 ∷ []
unfolding scratch_needed
scratch = refl
