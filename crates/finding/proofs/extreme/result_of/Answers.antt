-- `extreme::result_of` meets its contract. The invariant: the extreme of the first passes from place i on.
-- Assumes nothing.
use Rattle.std.proofs.Common.{◌∙◌, arith}
use Rattle.finding.specs.Row.{first_pass, result_of}
use Rattle.finding.proofs.Laws.{extreme_none, extreme_down, extreme_whole}
use Rattle.finding.proofs.extreme.result_of.Goals as goal

pub loop-i-init : goal.loop-i-init
loop-i-init c = (omega arith, extreme_none _ _ _ _)

pub loop-i-preserved : goal.loop-i-preserved
unfolding first_pass
loop-i-preserved c =
    let at = c.loop-i in (
      omega arith,
      c.joined-most.ensures
          ∙ extreme_down _ _ at.i _ _ at.most (omega arith) (omega arith) c.first_pass.ensures at.invariant.1,
    )

pub returns : goal.returns
unfolding result_of
returns c = c.loop-i.invariant.1 ∙ extreme_whole _ _ c.loop-i.i _ _ (omega arith)
