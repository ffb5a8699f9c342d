-- `filter::passes::two_passes` meets its contract. Assumes nothing.
use Rattle.filter.proofs.Passing.{passes_then}
use Rattle.filter.proofs.passes.two_passes.Goals as goal

pub returns : goal.returns
returns c = passes_then _ _ _ _ _ _ _ _ _ _ _ c.one_pass-first.ensures c.one_pass-second.ensures
