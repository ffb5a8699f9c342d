-- `refusal::chain::first_refusal` meets its contract. Assumes nothing.
use mathlib.Core.Path.{sym, ◌∙◌}
use Rattle.refusal.specs.Chain.{then_on, then_stop}
use Rattle.refusal.proofs.chain.first_refusal.Goals as goal

pub returns-then-is_done : goal.returns-then-is_done
returns-then-is_done c =
    let a = c.args in
    sym (then_on a.a a.b (sym c.is_done.ensures ∙ c.if-is_done.true))

pub returns-else-is_done : goal.returns-else-is_done
returns-else-is_done c =
    let a = c.args in
    sym (then_stop a.a a.b (sym c.is_done.ensures ∙ c.if-is_done.false))
