-- `hiding::hide_one` meets its contract. Assumes nothing.
use mathlib.Core.Path.{sym, subst}
use native.Mathlib.Omega.{arith}
use Rattle.ticket.specs.Reading.{no_box}
use Rattle.tray.specs.Promises.{RectangleFits, BoxPainted}
use Rattle.tray.specs.declared.Rectangle.{Rectangle}
use Rattle.hiding.proofs.Painting.{on_page_lem, painted_one}
use Rattle.hiding.proofs.hide_one.Goals as goal

pub paint_box-requires-clause-rectangle_fits : goal.paint_box-requires-clause-rectangle_fits
paint_box-requires-clause-rectangle_fits c =
    let lay = c.args.lay in
    let lie = c.requires.lie in
    subst (λ (x : Rectangle). RectangleFits x lay.width lay.height) (sym c.rectangle_of-x.ensures)
    (on_page_lem _ _ _ (lie.each 0 no_box (omega arith)) lie.wide lie.high)

pub returns : goal.returns
returns c =
    let a = c.args in
    painted_one a.lay a.value a.b a.page.now c.paint_box.new.page
    (subst
    (λ (x : Rectangle).
    BoxPainted a.lay x a.value a.page.now c.paint_box.new.page)
    c.rectangle_of-x.ensures
    c.paint_box.ensures)
