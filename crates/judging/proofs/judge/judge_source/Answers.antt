-- `judging::judge::judge_source` meets its contract. Assumes nothing.
use mathlib.Core.Path.{refl}
use Rattle.judging.specs.Judging.{judge_source}
use Rattle.judging.proofs.judge.judge_source.Goals as goal

pub returns : goal.returns
unfolding judge_source
returns c = rw (c.refuse_unless.ensures, c.does_fit-fits.ensures, c.source_page.ensures) refl
