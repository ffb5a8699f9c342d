-- `pgm::scan::is_outside` meets its contract. Assumes nothing.
use mathlib.Core.Path.{ap}
use mathlib.Core.Bool.{Bool, not, ◌&&◌}
use Rattle.pgm.specs.Scanning.{is_outside}
use Rattle.pgm.proofs.scan.is_outside.Goals as goal

pub returns : goal.returns
unfolding is_outside
returns c = ap (λ (hash : Bool). not c.args.inside && not hash) c.is_hash.ensures
