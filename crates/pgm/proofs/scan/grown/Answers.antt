-- `pgm::scan::grown` meets its contract. Assumes nothing.
use native.Mathlib.Omega.{arith}
use Rattle.pgm.specs.Reading.{told}
use Rattle.pgm.proofs.Scans.{digit_within}
use Rattle.pgm.proofs.scan.grown.Goals as goal

pub overflow_sub-b : goal.overflow_sub-b
overflow_sub-b c = omega (arith, digit_within c.args.b c.requires)

pub returns : goal.returns
unfolding told
returns c = omega (arith, c.saturating_add.ensures, c.saturating_mul.ensures)
