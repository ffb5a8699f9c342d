-- `sotrugla::sotrugla_version` meets its contract. The prover finds this by itself; it is written out so that a wrong
-- number is shown beside the right one. Assumes nothing.
use mathlib.Core.Path.{refl}
use Rattle.sotrugla.proofs.sotrugla_version.Goals as goal

pub returns : goal.returns
returns c = refl
