-- `file::read::read` meets its contract: 15 to 17 are the reader's, 10 the sides'. Assumes nothing.
use mathlib.Core.Path.{sym, ◌∙◌}
use Rattle.refusal.specs.Answer.{giving}
use Rattle.refusal.specs.Chain.{handed_on}
use Rattle.file.proofs.Alone.{alone_refused, alone_read}
use Rattle.file.proofs.read.read.Goals as goal

pub returns-in_err-header : goal.returns-in_err-header
returns-in_err-header c =
    handed_on c.from_residual.ensures.1 ∙ sym (alone_refused _ (sym c.read.ensures ∙ c.in_err-header.was))

pub returns-in_err-judge_sides : goal.returns-in_err-judge_sides
unfolding giving
returns-in_err-judge_sides c =
    let header = sym c.read.ensures ∙ c.in_ok-header.was in
    let sides = rw c.places_of.ensures at (sym c.judge_sides.ensures ∙ c.in_err-judge_sides.was) in
    alone_read _ header (rw sides (handed_on c.from_residual-in_err-judge_sides.ensures.1))

pub returns : goal.returns
unfolding giving
returns c =
    let header = sym c.read.ensures ∙ c.in_ok-header.was in
    let sides = rw c.places_of.ensures at (sym c.judge_sides.ensures ∙ c.in_ok-judge_sides.was) in
    alone_read _ header (rw sides)
