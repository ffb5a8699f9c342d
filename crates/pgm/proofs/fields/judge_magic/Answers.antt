-- `pgm::fields::judge_magic` meets its contract. Assumes nothing.
use mathlib.Core.Path.{sym, ◌∙◌}
use Rattle.refusal.specs.Chain.{◌then◌, handed_on}
use Rattle.pgm.specs.Header.{judge_magic}
use Rattle.pgm.proofs.fields.judge_magic.Goals as goal

pub returns-in_err-refuse_unless : goal.returns-in_err-refuse_unless
unfolding judge_magic ◌then◌
returns-in_err-refuse_unless c =
    let first = rw c.byte_at.ensures at (sym c.refuse_unless.ensures ∙ c.in_err-refuse_unless.was) in
    rw first (handed_on c.from_residual.ensures.1)

pub returns : goal.returns
unfolding judge_magic ◌then◌
returns c =
    let first = rw c.byte_at.ensures at (sym c.refuse_unless.ensures ∙ c.in_ok-refuse_unless.was) in
    rw (first, c.refuse_unless-2.ensures, c.byte_at-2.ensures)
