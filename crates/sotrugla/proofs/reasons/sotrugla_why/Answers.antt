-- `sotrugla::reasons::sotrugla_why` meets its contract: what is told, in numbers. Assumes nothing.
use mathlib.Core.Path.{ap, ◌∙◌}
use Rattle.placement.specs.declared.Placements.{Placements}
use Rattle.why.specs.Told.{told}
use Rattle.sotrugla.specs.Reasons.{why_of}
use Rattle.sotrugla.proofs.reasons.sotrugla_why.Goals as goal

pub returns : goal.returns
returns c =
    let a = c.args in
    let places = c.placements-places.ensures in
    c.why_of.ensures
    ∙ ap why_of
    (c.why.ensures
    ∙ ap
    (λ (p : Placements).
    told a.ticket.now p a.source.now a.output_length a.scratch_length
    (record { column = a.column; row = a.row }))
    places)
