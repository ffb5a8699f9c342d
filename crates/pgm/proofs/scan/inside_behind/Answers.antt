-- `pgm::scan::inside_behind` meets its contract: each side of the test is a clause. Assumes nothing.
use mathlib.Core.Bool.{not}
use mathlib.Core.Path.{ap}
use Rattle.pgm.specs.Scanning.{inside_behind}
use Rattle.pgm.proofs.scan.inside_behind.Goals as goal

pub returns-then-inside : goal.returns-then-inside
unfolding inside_behind
returns-then-inside c = rw c.if-inside.true (ap not c.is_line_end.ensures)

pub returns-else-inside : goal.returns-else-inside
unfolding inside_behind
returns-else-inside c = rw c.if-inside.false c.is_hash.ensures
