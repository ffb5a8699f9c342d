-- `tray::row::fill_row` meets its contract: each way fills as it is asked. Assumes nothing.
use Rattle.std.proofs.Common.{Bool, sym, subst}
use Rattle.tray.specs.Promises.{RowFilled}
use Rattle.tray.proofs.row.fill_row.Goals as goal

pub returns-then-falls : goal.returns-then-falls
returns-then-falls c =
    let a = c.args in
    let call = c.fill_mirrored in
    subst (λ (b : Bool). RowFilled a.from.now b call.new.to) (sym c.if-falls.true) call.ensures

pub returns-else-falls : goal.returns-else-falls
returns-else-falls c =
    let a = c.args in
    let call = c.fill_same in
    subst (λ (b : Bool). RowFilled a.from.now b call.new.to) (sym c.if-falls.false) call.ensures
