-- `judging::judge::judge_sides` meets its contract. Assumes nothing.
use mathlib.Core.Path.{◌≡◌, refl}
use mathlib.Core.Bool.{◌&&◌}
use native.Mathlib.Omega.{arith}
use Rattle.judging.specs.Judging.{judge_sides}
use Rattle.judging.proofs.judge.judge_sides.Goals as goal
use Rattle.judging.proofs.judge.judge_sides.Goals.{then-from, else-from}

pub returns : goal.returns
unfolding judge_sides
returns c =
    let both : c.if-from.refuse_unless ≡ (c.is_allowed-from.result && c.is_allowed-to.result) =
    elim c.if-from.branch [ then-from w ↦ grind arith | else-from w ↦ grind arith ] in
    rw (
      c.refuse_unless.ensures,
      both,
      c.is_allowed-from.ensures,
      c.is_allowed-to.ensures,
      c.source_page.ensures,
      c.output_page.ensures,
    ) refl
