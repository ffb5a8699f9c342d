-- `sotrugla::sotrugla_read_ticket` meets its contract. Assumes nothing.
use mathlib.Core.Path.{sym, ◌∙◌}
use native.Mathlib.Omega.{arith}
use Rattle.showing.specs.Laws.{read_showable, too_short, read_enough, refused_enough}
use Rattle.sotrugla.proofs.sotrugla_read_ticket.Goals as goal

pub returns-then-numbers-lt-NUMBERS : goal.returns-then-numbers-lt-NUMBERS
returns-then-numbers-lt-NUMBERS c =
    let whole = too_short c.args.ticket.now c.args.numbers.now _ (omega arith) c.outcome_of.ensures in
    record { answered = whole.0; written = whole.1 }

pub put_ticket-requires : goal.put_ticket-requires
put_ticket-requires c = (
  read_showable c.args.ticket.now _ (λ k. omega (arith, c.type_inv.ticket k)) (sym c.read.ensures ∙ c.in-Ok.is),
  omega arith,
)

pub returns-in-Ok : goal.returns-in-Ok
returns-in-Ok c =
    let whole =
    read_enough c.args.ticket.now c.args.numbers.now _ _ _ (omega arith) (sym c.read.ensures ∙ c.in-Ok.is)
    c.outcome_of-in-Ok.ensures c.put_ticket.ensures in
    record { answered = whole.0; written = whole.1 }

pub returns-in-Err : goal.returns-in-Err
returns-in-Err c =
    let whole =
    refused_enough c.args.ticket.now c.args.numbers.now _ _ _ (omega arith) (sym c.read.ensures ∙ c.in-Err.is)
    c.outcome_of-in-Err.ensures c.put_zeros.ensures in
    record { answered = whole.0; written = whole.1 }
