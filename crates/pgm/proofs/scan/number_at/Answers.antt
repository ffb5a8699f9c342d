-- `pgm::scan::number_at` meets its contract: the number so far and the digits left make the whole number.
-- Assumes nothing.
use mathlib.Core.Path.{refl, sym, ap, ◌∙◌}
use native.Mathlib.Omega.{arith}
use Rattle.pgm.specs.Reading.{told}
use Rattle.pgm.proofs.Scans.{here, number_on, number_over, number_ended}
use Rattle.pgm.proofs.Told.{told_number, told_most, told_fits}
use Rattle.pgm.proofs.scan.number_at.Goals as goal

pub loop-k-init : goal.loop-k-init
loop-k-init c = (omega arith, c.requires, refl)

pub grown-n-requires : goal.grown-n-requires
grown-n-requires c = sym c.is_digit.ensures ∙ c.if-is_digit.true

pub loop-k-preserved : goal.loop-k-preserved
loop-k-preserved c =
    let l = c.loop-k in
    let next = c.next-k.ensures.stands in
    let on = number_on _ _ l.invariant.1 l.n (omega arith) (sym c.is_digit.ensures ∙ c.if-is_digit.true) in
    let grown = c.grown-n.ensures in
    (rw grown (told_most _), here next, rw (grown, next.rest) (told_number _ _ ∙ ap told (sym on) ∙ l.invariant.2))

pub returns-else-is_digit : goal.returns-else-is_digit
returns-else-is_digit c =
    let l = c.loop-k in
    let over = number_over _ _ l.invariant.1 l.n (omega arith) (sym c.is_digit.ensures ∙ c.if-is_digit.false) in
    sym (told_fits l.invariant.0) ∙ ap told (sym over) ∙ l.invariant.2

pub returns-after-loop-k : goal.returns-after-loop-k
returns-after-loop-k c =
    let l = c.loop-k in
    let over = number_ended _ _ l.invariant.1 l.n (omega arith) in
    sym (told_fits l.invariant.0) ∙ ap told (sym over) ∙ l.invariant.2
