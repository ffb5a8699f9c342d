-- `pgm::scan::is_hash` meets its contract. Assumes nothing.
use borrow.Author.Rules.{rules}
use Rattle.pgm.specs.Bytes.{is_hash}
use Rattle.pgm.proofs.scan.is_hash.Goals as goal

pub returns : goal.returns
unfolding is_hash
returns c = search rules
