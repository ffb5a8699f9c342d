-- `pgm::scan::is_space` meets its contract. Assumes nothing.
use mathlib.Core.Path.{refl}
use Rattle.pgm.specs.Bytes.{is_space}
use Rattle.pgm.proofs.scan.is_space.Goals as goal

pub returns : goal.returns
unfolding is_space
returns c = refl
