-- `boxes::box_allowed` meets its contract, test by test. Assumes nothing.
use native.Mathlib.Omega.{arith}
use Rattle.std.proofs.lemmas.Bool.Decides.{nat_tests}
use Rattle.boxes.specs.Boxes.{box_allowed}
use Rattle.boxes.proofs.box_allowed.Goals as goal
use Rattle.boxes.proofs.box_allowed.Goals.{then-b-ge1, else-b-ge1, then-some, else-some}

pub returns-then-across : goal.returns-then-across
unfolding box_allowed
returns-then-across c =
    elim c.if-some.branch [
      | then-some w ↦ elim c.if-b-ge1.branch [
        | then-b-ge1 u ↦ grind (arith, nat_tests)
        | else-b-ge1 u ↦ grind (arith, nat_tests)
      ]
      | else-some w ↦ grind (arith, nat_tests)
    ]

pub returns-else-across : goal.returns-else-across
unfolding box_allowed
returns-else-across c =
    elim c.if-some.branch [
      | then-some w ↦ elim c.if-b-ge1.branch [
        | then-b-ge1 u ↦ grind (arith, nat_tests)
        | else-b-ge1 u ↦ grind (arith, nat_tests)
      ]
      | else-some w ↦ elim c.if-b-ge1.branch [
        | then-b-ge1 u ↦ grind (arith, nat_tests)
        | else-b-ge1 u ↦ grind (arith, nat_tests)
      ]
    ]
