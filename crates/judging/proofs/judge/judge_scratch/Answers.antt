-- `judging::judge::judge_scratch` meets its contract. Assumes nothing.
use mathlib.Core.Path.{refl}
use Rattle.judging.specs.Judging.{judge_scratch}
use Rattle.judging.proofs.judge.judge_scratch.Goals as goal

pub returns : goal.returns
unfolding judge_scratch
returns c = rw (c.refuse_unless.ensures, c.scratch_needed-needed.ensures) refl
