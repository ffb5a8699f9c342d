-- A place that the code found, and whether it is none: what that says of the step. Assumes nothing.
use mathlib.Core.Path.{◌≡◌, sym, ◌∙◌}
use mathlib.Core.Bool.{Bool, true, false}
use mathlib.Core.List.{List}
use Prim.Native.Nat.{ℕ, ◌<◌}
use native.Mathlib.Omega.{arith}
use lib.Dec.{eqb}
use borrow.Author.Tests.{eqb-true, eqb-false}
use Rattle.runs.specs.Grid.{Pixel, start_row, line_name, spot}
use Rattle.runs.specs.GridLaws.{StepOnPage, spot_below, spot_there}
use Rattle.runs.specs.Scratch.{size}
use Rattle.runs.specs.declared.Grid.{Grid}
use Rattle.sweep.proofs.Making.{small}

module _ {g : Grid} {profile reaches : List ℕ} {R t x : ℕ} (at : Pixel g profile reaches R t x) where
  module _ (s place : ℕ) (found : place ≡ spot g (start_row g R) (line_name g R x) s) where
    pub found_below : StepOnPage g (start_row g R) (line_name g R x) s → place < size g
    found_below there = omega (arith, found, spot_below g at.sized (start_row g R) (line_name g R x) s (small at) there)

    module _ (none : Bool) (told : none ≡ eqb place (size g)) where
      pub found_off : none ≡ true → StepOnPage g (start_row g R) (line_name g R x) s → ⊥
      found_off taken there =
          let e : place ≡ size g = eqb-true place (size g) (sym told ∙ taken) in
          omega (arith, found_below there)

      pub found_on : none ≡ false → StepOnPage g (start_row g R) (line_name g R x) s
      found_on passed =
          let ne : place ≡ size g → ⊥ = eqb-false place (size g) (sym told ∙ passed) in
          spot_there g at.sized (start_row g R) (line_name g R x) s (λ e. ne (found ∙ e))
