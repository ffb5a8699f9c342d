-- `pgm::scan::next` meets its contract: what is left of the file, inside a comment or not, has all bytes from `at` on.
-- Assumes nothing.
use mathlib.Core.Path.{◌≡◌, refl, sym, ◌∙◌}
use native.Mathlib.Omega.{arith}
use lib.ListN.{length}
use Rattle.pgm.specs.Bytes.{bytes_from}
use Rattle.pgm.proofs.Scans.{next_found, next_passed, next_none}
use Rattle.pgm.proofs.scan.next.Goals as goal

pub loop-k-init : goal.loop-k-init
unfolding bytes_from
loop-k-init c = refl

pub returns-then-is_outside : goal.returns-then-is_outside
returns-then-is_outside c =
    let l = c.loop-k in
    next_found _ _ _ l.inside (omega arith) l.invariant (omega arith)
    (sym c.is_outside.ensures ∙ c.if-is_outside.true)

pub loop-k-preserved : goal.loop-k-preserved
loop-k-preserved c =
    let l = c.loop-k in
    let passed =
    next_passed _ _ _ l.inside (omega arith) l.invariant (omega arith)
    (sym c.is_outside.ensures ∙ c.if-is_outside.false) in
    rw c.inside_behind-inside.ensures passed

pub returns : goal.returns
returns c =
    let l = c.loop-k in
    let none = next_none _ _ l.k l.inside (omega arith) l.invariant (omega arith) in
    let ended : l.k ≡ length c.args.file.now = omega arith in
    rw ended at none
