-- `file::run::run` meets its contract: the ticket read, then the file, then its page delivered. Assumes nothing.
use native.Mathlib.Omega.{arith}
use mathlib.Core.Path.{sym, ◌∙◌}
use Rattle.refusal.specs.Chain.{handed_on}
use Rattle.ticket.specs.Laws.{read_allowed}
use Rattle.file.proofs.Running.{ticket_refused, file_refused, file_delivered}
use Rattle.file.proofs.run.run.Goals as goal

pub returns-in_err-order : goal.returns-in_err-order
returns-in_err-order c =
    let ticket = sym c.read.ensures ∙ c.in_err-order.was in
    let whole = ticket_refused _ _ _ _ ticket (handed_on c.from_residual.ensures.1) in
    record { answered = whole.answered; written = whole.written; cleared = whole.cleared }

pub returns-in_err-header : goal.returns-in_err-header
returns-in_err-header c =
    let ticket = sym c.read.ensures ∙ c.in_ok-order.was in
    let file = sym c.read-2.ensures ∙ c.in_err-header.was in
    let whole = file_refused _ _ _ _ ticket file (handed_on c.from_residual-in_err-header.ensures.1) in
    record { answered = whole.answered; written = whole.written; cleared = whole.cleared }

pub deliver-requires : goal.deliver-requires
deliver-requires c =
    read_allowed _ _ (λ k. omega (arith, c.type_inv.ticket k)) (sym c.read.ensures ∙ c.in_ok-order.was)

pub returns : goal.returns
returns c =
    let ticket = sym c.read.ensures ∙ c.in_ok-order.was in
    let file = sym c.read-2.ensures ∙ c.in_ok-header.was in
    let whole = file_delivered _ _ _ _ ticket file c.deliver.ensures in
    record { answered = whole.answered; written = whole.written; cleared = whole.cleared }
