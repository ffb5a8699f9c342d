-- `pgm::fields::read_header` meets its contract: a header that is good has a maximum of one byte. Assumes nothing.
use mathlib.Core.Path.{sym, ap, ◌∙◌}
use native.Mathlib.Omega.{arith}
use Rattle.refusal.specs.Answer.{is_done}
use Rattle.refusal.specs.Chain.{handed_on}
use Rattle.pgm.proofs.Scans.{here}
use Rattle.pgm.proofs.Headers.{magic_long, magic_refused, width_refused, height_refused, maximum_refused}
use Rattle.pgm.proofs.Headers.{maximum_stands, maximum_byte, end_within, header_told}
use Rattle.pgm.proofs.fields.read_header.Goals as goal

pub returns-in_err-judge_magic : goal.returns-in_err-judge_magic
returns-in_err-judge_magic c =
    magic_refused _ (handed_on c.from_residual.ensures.1) (sym c.judge_magic.ensures ∙ c.in_err-judge_magic.was)

pub next-requires : goal.next-requires
unfolding is_done
next-requires c = magic_long _ (ap is_done (sym c.judge_magic.ensures ∙ c.in_ok-judge_magic.was))

pub field_at-requires : goal.field_at-requires
field_at-requires c = here c.next.ensures.stands

pub returns-in_err-width : goal.returns-in_err-width
returns-in_err-width c =
    let magic = sym c.judge_magic.ensures ∙ c.in_ok-judge_magic.was in
    let given = handed_on c.from_residual-in_err-width.ensures.1 in
    width_refused _ _ c.next.ensures.stands.rest magic given c.in_err-width.ensures

pub field_at-requires-2 : goal.field_at-requires-2
field_at-requires-2 c = here c.in_ok-width.ensures.1.end

pub returns-in_err-height : goal.returns-in_err-height
returns-in_err-height c =
    let magic = sym c.judge_magic.ensures ∙ c.in_ok-judge_magic.was in
    let given = handed_on c.from_residual-in_err-height.ensures.1 in
    height_refused _ _ c.next.ensures.stands.rest magic c.in_ok-width.ensures given c.in_err-height.ensures

pub maximum_at-requires : goal.maximum_at-requires
maximum_at-requires c =
    let magic = sym c.judge_magic.ensures ∙ c.in_ok-judge_magic.was in
    maximum_stands _ _ c.next.ensures.stands.rest magic c.in_ok-width.ensures c.in_ok-height.ensures

pub returns-in_err-maximum : goal.returns-in_err-maximum
returns-in_err-maximum c =
    let magic = sym c.judge_magic.ensures ∙ c.in_ok-judge_magic.was in
    let given = handed_on c.from_residual-in_err-maximum.ensures.1 in
    maximum_refused _ _ c.next.ensures.stands.rest magic c.in_ok-width.ensures c.in_ok-height.ensures given
    c.in_err-maximum.ensures

pub overflow_cast-result : goal.overflow_cast-result
overflow_cast-result c =
    let magic = sym c.judge_magic.ensures ∙ c.in_ok-judge_magic.was in
    let byte =
    maximum_byte _ _ c.next.ensures.stands.rest magic c.in_ok-width.ensures c.in_ok-height.ensures
    c.in_ok-maximum.ensures in
    omega arith

pub overflow_add-result : goal.overflow_add-result
overflow_add-result c =
    let magic = sym c.judge_magic.ensures ∙ c.in_ok-judge_magic.was in
    let within =
    end_within _ _ c.next.ensures.stands.rest magic c.in_ok-width.ensures c.in_ok-height.ensures
    c.in_ok-maximum.ensures in
    omega arith

pub returns : goal.returns
returns c =
    let magic = sym c.judge_magic.ensures ∙ c.in_ok-judge_magic.was in
    header_told _ _ c.next.ensures.stands.rest magic c.in_ok-width.ensures c.in_ok-height.ensures
    c.in_ok-maximum.ensures
