-- `pgm::fields::maximum_at` meets its contract: a maximum is told as 0 only if it is 0. Assumes nothing.
use mathlib.Core.Path.{sym, ◌∙◌}
use Rattle.refusal.specs.Chain.{◌then◌, handed_on}
use Rattle.pgm.specs.Bytes.{is_space}
use Rattle.pgm.specs.Header.{judge_from_maximum}
use Rattle.pgm.proofs.Scans.{here, itself}
use Rattle.pgm.proofs.Headers.{field_of, least_judged, last_judged, last_ok}
use Rattle.pgm.proofs.fields.maximum_at.Goals as goal

pub field_at-requires : goal.field_at-requires
field_at-requires c = here c.requires

pub returns-in_err-maximum : goal.returns-in_err-maximum
unfolding judge_from_maximum ◌then◌
returns-in_err-maximum c =
    let number = rw c.requires.rest at c.in_err-maximum.ensures in
    rw (handed_on c.from_residual.ensures.1, number)

pub returns-in_err-refuse_unless : goal.returns-in_err-refuse_unless
unfolding judge_from_maximum ◌then◌
returns-in_err-refuse_unless c =
    let residual = c.from_residual-in_err-refuse_unless in
    let number = rw c.requires.rest at c.in_ok-maximum.ensures.0 in
    let m = field_of c.in_ok-maximum.ensures.1 c.requires.rest in
    let least = sym (least_judged m) ∙ sym c.refuse_unless.ensures ∙ c.in_err-refuse_unless.was in
    rw (handed_on residual.ensures.1, number, least)

pub starts_with-requires-clause-stands : goal.starts_with-requires-clause-stands
starts_with-requires-clause-stands c = here c.in_ok-maximum.ensures.1.end

pub returns-in_err-first_refusal : goal.returns-in_err-first_refusal
unfolding judge_from_maximum ◌then◌
returns-in_err-first_refusal c =
    let residual = c.from_residual-in_err-first_refusal in
    let number = rw c.requires.rest at c.in_ok-maximum.ensures.0 in
    let m = field_of c.in_ok-maximum.ensures.1 c.requires.rest in
    let least = sym (least_judged m) ∙ sym c.refuse_unless.ensures ∙ c.in_ok-refuse_unless.was in
    let delimited = c.starts_with.ensures is_space (itself is_space) in
    let parted = c.refuse_unless-delimited.ensures in
    let small = c.refuse_unless-small.ensures in
    let last = sym (last_judged m delimited parted small c.first_refusal.ensures) ∙ c.in_err-first_refusal.was in
    rw (handed_on residual.ensures.1, number, least, last)

pub returns : goal.returns
unfolding judge_from_maximum ◌then◌
returns c =
    let number = rw c.requires.rest at c.in_ok-maximum.ensures.0 in
    let m = field_of c.in_ok-maximum.ensures.1 c.requires.rest in
    let least = sym (least_judged m) ∙ sym c.refuse_unless.ensures ∙ c.in_ok-refuse_unless.was in
    let delimited = c.starts_with.ensures is_space (itself is_space) in
    let parted = c.refuse_unless-delimited.ensures in
    let small = c.refuse_unless-small.ensures in
    let last = sym (last_judged m delimited parted small c.first_refusal.ensures) ∙ c.in_ok-first_refusal.was in
    (rw (number, least, last_ok _ last), m)
