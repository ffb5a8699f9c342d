-- `turning::turn::put_row` meets its contract: the row is lent, and sixteen bytes of it are filled. Assumes nothing.
use Rattle.std.proofs.Common.{◌≡◌, ◌+◌, ◌-◌, ◌≤◌, length, arith}
use native.Mathlib.Nat.{add-sub_cancel_left}
use Rattle.turning.proofs.Copies.{copied_into}
use Rattle.turning.proofs.turn.put_row.Goals as goal

pub returns : goal.returns
returns c =
    let a = c.args in
    let w = a.start + a.width - a.start in
    let wide : w ≡ a.width = add-sub_cancel_left a.start a.width in
    let fits : a.start + w ≤ length a.to.now = omega (arith, c.requires.1, wide) in
    copied_into 16 a.at a.b a.start w a.tile.now a.to.now _ fits (omega (arith, c.requires.2, wide)) c.copy_side.ensures
