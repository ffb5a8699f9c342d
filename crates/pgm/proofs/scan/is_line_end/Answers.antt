-- `pgm::scan::is_line_end` meets its contract. Assumes nothing.
use borrow.Author.Rules.{rules}
use Rattle.pgm.specs.Bytes.{is_line_end}
use Rattle.pgm.proofs.scan.is_line_end.Goals as goal

pub returns : goal.returns
unfolding is_line_end
returns c = search rules
