-- `hiding::rectangle_of` meets its contract. Assumes nothing.
use mathlib.Core.Path.{refl}
use native.Mathlib.Omega.{arith}
use Rattle.tray.specs.Turned.{boxed}
use Rattle.boxes.specs.Laws.{allowed_lies}
use Rattle.hiding.proofs.rectangle_of.Goals as goal

pub overflow_add-result : goal.overflow_add-result
overflow_add-result c =
    let pre = c.requires in
    record { fits = omega (arith, (allowed_lies _ _ _ pre.0).bottom_in, pre.2) }

pub overflow_add-result-2 : goal.overflow_add-result-2
overflow_add-result-2 c =
    let pre = c.requires in
    record { fits = omega (arith, (allowed_lies _ _ _ pre.0).right_in, pre.1) }

pub returns : goal.returns
unfolding boxed
returns c = refl
