-- `sweep::rest::rest_top` meets its contract: no column, the line before its window, a whole block, or a part of
-- one. Assumes nothing.
use native.Mathlib.Omega.{arith}
use Rattle.sweep.proofs.Rowing.{part_none}
use Rattle.sweep.proofs.Resting.{early_top, whole_top}
use Rattle.sweep.proofs.rest.rest_top.Goals as goal

pub returns-then-g-mid : goal.returns-then-g-mid
returns-then-g-mid c = part_none (omega (arith, c.if-g-mid.true, c.requires.past_line.most))

pub returns-then-at-g : goal.returns-then-at-g
returns-then-at-g c =
    let at = c.args.at.now.in_page in
    early_top at _ _ c.requires.past_line c.if-g-mid.false _ c.if-at-g.true c.copy_from.ensures

pub returns-then-inside-eq0 : goal.returns-then-inside-eq0
returns-then-inside-eq0 c =
    let at = c.args.at.now.in_page in
    let some = c.if-g-mid.false in
    let copied = c.copy_from-then-inside-eq0.ensures in
    whole_top at _ _ c.requires.past_line some _ c.if-at-g.false c.if-inside-eq0.true copied
