-- `sotrugla::sotrugla_scratch_needed` meets its contract. Assumes nothing.
use mathlib.Core.Path.{sym, ◌∙◌}
use native.Mathlib.Omega.{arith}
use Rattle.placement.specs.Placement.{side_allowed}
use Rattle.placement.proofs.Laws.{side_most}
use Rattle.sotrugla.proofs.Sides.{none_wide, none_high, needed_both}
use Rattle.sotrugla.proofs.sotrugla_scratch_needed.Goals as goal

pub returns-then-not-is_side : goal.returns-then-not-is_side
returns-then-not-is_side c = none_wide _ _ _ (sym c.is_side.ensures ∙ c.if-not-is_side.true)

pub returns-then-not-is_side-2 : goal.returns-then-not-is_side-2
returns-then-not-is_side-2 c =
    let sides = c.args in
    none_high (side_allowed sides.width) (side_allowed sides.height) _
    (sym c.is_side.ensures ∙ c.if-not-is_side.false)
    (sym c.is_side-2.ensures ∙ c.if-not-is_side-2.true)

pub scratch_needed-requires : goal.scratch_needed-requires
scratch_needed-requires c =
    let wide = side_most _ (sym c.is_side.ensures ∙ c.if-not-is_side.false) in
    let high = side_most _ (sym c.is_side-2.ensures ∙ c.if-not-is_side-2.false) in
    (omega arith, omega (arith, wide, high), omega (arith, wide, high))

pub returns : goal.returns
returns c =
    c.scratch_needed.ensures
    ∙ needed_both _ _ _
    (sym c.is_side.ensures ∙ c.if-not-is_side.false)
    (sym c.is_side-2.ensures ∙ c.if-not-is_side-2.false)
