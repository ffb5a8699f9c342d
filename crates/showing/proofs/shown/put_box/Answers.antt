-- `showing::shown::put_box` meets its contract: four numbers stored at once. Assumes nothing.
use Rattle.showing.specs.Shown.{box_numbers}
use Rattle.showing.proofs.Numbers.{box_put}
use Rattle.showing.proofs.shown.put_box.Goals as goal

pub returns : goal.returns
unfolding box_numbers
returns c = box_put c.args.b c.args.at c.args.numbers.now _ c.requires c.copy_from_slice.ensures.after
