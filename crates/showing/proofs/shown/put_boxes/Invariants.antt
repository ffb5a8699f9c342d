-- `showing::shown::put_boxes` meets its contract: the boxes put, and those still to be put, are all. Assumes nothing.
use mathlib.Core.Path.{◌≡◌}
use Prim.Native.Nat.{◌+◌, ◌*◌}
use lib.ListN.{drop}
use lib.Seq.{sets}
use Rattle.showing.specs.Shown.{box_numbers}
use Rattle.showing.proofs.shown.put_boxes.Given as goal

abbrev pub invariant-loop-k : goal.invariant-loop-k
invariant-loop-k l =
    sets l.numbers (8 + 4 * l.k) (box_numbers (drop l.k l.boxes)) ≡ sets l.initial.numbers 8 (box_numbers l.boxes)
