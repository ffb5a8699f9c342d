-- `pgm::scan::is_digit` meets its contract. Assumes nothing.
use Rattle.pgm.specs.Bytes.{is_digit}
use Rattle.pgm.proofs.scan.is_digit.Goals as goal

pub returns : goal.returns
unfolding is_digit
returns c = c.is_ascii_digit.ensures.value
