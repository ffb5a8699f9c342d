-- `ticket::fill::show` meets its contract. Assumes nothing.
use mathlib.Core.Path.{ap, ◌∙◌}
use Rattle.fields.proofs.Signs.{kept}
use Rattle.ticket.specs.Reading.{operation_of, kind_of}
use Rattle.ticket.proofs.Records.{fields_shown}
use Rattle.ticket.proofs.fill.show.Goals as goal

pub returns : goal.returns
returns c =
    fields_shown c.args.s.now
    (c.operation_of.ensures ∙ ap operation_of c.operation_in.ensures)
    (c.kind_of.ensures ∙ ap kind_of c.line_in.ensures)
    (kept c.dx_in.ensures c.dx_in.type_inv)
    (kept c.dy_in.ensures c.dy_in.type_inv)
    c.length_in.ensures
    c.origin_in.ensures
    c.phase_in.ensures
    c.find_boxes-count.ensures.counted
    c.find_boxes-count.ensures.placed
