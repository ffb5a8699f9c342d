-- `pgm::read` meets its contract. Assumes nothing.
use mathlib.Core.Path.{sym, ◌∙◌}
use Rattle.refusal.specs.Answer.{giving}
use Rattle.refusal.specs.Chain.{handed_on}
use Rattle.pgm.proofs.Readings.{header_refused, header_is, start_within, pixels_read}
use Rattle.pgm.proofs.read.Goals as goal

pub returns-in_err-header : goal.returns-in_err-header
returns-in_err-header c =
    let given = handed_on c.from_residual.ensures.1 in
    given ∙ sym (header_refused _ (sym c.read_header.ensures ∙ c.in_err-header.was))

pub judge_pixels-requires : goal.judge_pixels-requires
judge_pixels-requires c =
    let header = sym c.read_header.ensures ∙ c.in_ok-header.was in
    (header_is _ header, start_within _ header)

pub returns-in_err-judge_pixels : goal.returns-in_err-judge_pixels
unfolding giving
returns-in_err-judge_pixels c =
    let residual = c.from_residual-in_err-judge_pixels in
    let header = sym c.read_header.ensures ∙ c.in_ok-header.was in
    let pixels = sym c.judge_pixels.ensures ∙ c.in_err-judge_pixels.was in
    pixels_read _ header (rw pixels (handed_on residual.ensures.1))

pub returns : goal.returns
unfolding giving
returns c =
    let header = sym c.read_header.ensures ∙ c.in_ok-header.was in
    let pixels = sym c.judge_pixels.ensures ∙ c.in_ok-judge_pixels.was in
    pixels_read _ header (rw pixels)
