-- `judging::pages::pages_of` meets its contract. Assumes nothing.
use mathlib.Core.Path.{refl}
use Rattle.judging.specs.Pages.{pages_of}
use Rattle.judging.proofs.pages.pages_of.Goals as goal

pub returns-clause-every_job : goal.returns-clause-every_job
unfolding pages_of
returns-clause-every_job c = λ t. refl
