-- `pgm::fields::field_at` meets its contract: each run stands where the one before it ends. Assumes nothing.
use mathlib.Core.Path.{sym, ◌∙◌}
use Rattle.refusal.specs.Chain.{◌then◌, unless_ok, handed_on}
use Rattle.pgm.specs.Bytes.{is_space, is_digit}
use Rattle.pgm.specs.Header.{digits, number_in, behind_number, judge_number}
use Rattle.pgm.proofs.Scans.{here, itself, stands_first}
use Rattle.pgm.proofs.Headers.{kind_judged}
use Rattle.pgm.proofs.fields.field_at.Goals as goal

pub returns-in_err-refuse_unless : goal.returns-in_err-refuse_unless
unfolding judge_number ◌then◌
returns-in_err-refuse_unless c =
    let spaced =
    sym (kind_judged is_space c.requires (c.starts_with-spaced.ensures is_space (itself is_space)))
    ∙ sym c.refuse_unless.ensures
    ∙ c.in_err-refuse_unless.was in
    rw (handed_on c.from_residual.ensures.1, spaced)

pub returns-in_err-refuse_unless-2 : goal.returns-in_err-refuse_unless-2
unfolding judge_number digits ◌then◌
returns-in_err-refuse_unless-2 c =
    let residual = c.from_residual-in_err-refuse_unless-2 in
    let first = c.behind-first.ensures is_space (itself is_space) in
    let spaced =
    sym (kind_judged is_space c.requires (c.starts_with-spaced.ensures is_space (itself is_space)))
    ∙ sym c.refuse_unless.ensures
    ∙ c.in_ok-refuse_unless.was in
    let started =
    sym (kind_judged is_digit first (c.starts_with-started.ensures is_digit (itself is_digit)))
    ∙ sym c.refuse_unless-2.ensures
    ∙ c.in_err-refuse_unless-2.was in
    rw (handed_on residual.ensures.1, spaced, started)

pub starts_with-started-requires-clause-stands : goal.starts_with-started-requires-clause-stands
starts_with-started-requires-clause-stands c = here (c.behind-first.ensures is_space (itself is_space))

pub number_at-number-requires : goal.number_at-number-requires
number_at-number-requires c = here (c.behind-first.ensures is_space (itself is_space))

pub behind-end-requires-clause-stands : goal.behind-end-requires-clause-stands
behind-end-requires-clause-stands c = here (c.behind-first.ensures is_space (itself is_space))

pub returns : goal.returns
unfolding judge_number digits number_in behind_number ◌then◌
returns c =
    let first = c.behind-first.ensures is_space (itself is_space) in
    let rest = first.rest in
    let spaced =
    sym (kind_judged is_space c.requires (c.starts_with-spaced.ensures is_space (itself is_space)))
    ∙ sym c.refuse_unless.ensures
    ∙ c.in_ok-refuse_unless.was in
    let started =
    sym (kind_judged is_digit first (c.starts_with-started.ensures is_digit (itself is_digit)))
    ∙ sym c.refuse_unless-2.ensures
    ∙ c.in_ok-refuse_unless-2.was in (
      rw (spaced, unless_ok _ _ _ started),
      record {
        number = rw rest at c.number_at-number.ensures;
        first = stands_first first;
        end = rw rest at (c.behind-end.ensures is_digit (itself is_digit));
      },
    )
