-- `judging::judge::judge_output` meets its contract. Assumes nothing.
use mathlib.Core.Path.{refl}
use Rattle.judging.specs.Judging.{judge_output}
use Rattle.judging.proofs.judge.judge_output.Goals as goal

pub returns : goal.returns
unfolding judge_output
returns c = rw (c.refuse_unless.ensures, c.does_fit-fits.ensures, c.output_page.ensures) refl
