-- `showing::shown::put_shown` meets its contract. Assumes nothing.
use Rattle.showing.proofs.Numbers.{ticket_put}
use Rattle.showing.proofs.shown.put_shown.Goals as goal

pub returns : goal.returns
returns c =
    ticket_put c.args.fields c.args.places.now c.args.numbers.now _ _ c.requires.0 c.requires.1 c.put_fields.ensures
    c.put_boxes.ensures
