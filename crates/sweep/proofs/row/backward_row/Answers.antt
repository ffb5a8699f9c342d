-- `sweep::row::backward_row` meets its contract: its two parts. Assumes nothing.
use mathlib.Core.Path.{refl}
use Prim.Native.Nat.{zero-le}
use native.Mathlib.Nat.{add-zero}
use native.Mathlib.Omega.{arith}
use Rattle.sweep.proofs.Rowing.{part_as, part_join}
use Rattle.sweep.proofs.Backwarding.{backward_last}
use Rattle.sweep.proofs.row.backward_row.Goals as goal

pub returns : goal.returns
returns c =
    let far = c.far_edge-hi.ensures in
    part_as refl refl (add-zero _)
    (part_join c.args.row.now.at.in_page.row (omega arith) zero-le far.most c.backward_part.ensures
    (backward_last c.args.row.now.at.in_page _ _ far))
