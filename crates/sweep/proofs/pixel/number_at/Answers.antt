-- `sweep::pixel::number_at` meets its contract. Assumes nothing.
use native.Mathlib.Omega.{arith}
use Rattle.runs.proofs.Planning.{pixel}
use Rattle.sweep.proofs.Making.{numbered}
use Rattle.sweep.proofs.pixel.number_at.Goals as goal

pub overflow_sub-result : goal.overflow_sub-result
overflow_sub-result c =
    let at = pixel _ _ _ _ _ c.args.at.now.in_page _ c.requires in
    omega (arith, c.entry_at.ensures, numbered at)

pub returns : goal.returns
returns c =
    let at = pixel _ _ _ _ _ c.args.at.now.in_page _ c.requires in
    omega (arith, c.entry_at.ensures, numbered at)
