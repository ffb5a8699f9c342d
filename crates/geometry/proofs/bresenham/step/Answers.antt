-- `bresenham::step` meets its contract: its two arms are the two movements of the pen.
-- Assumes nothing.
use Rattle.std.proofs.Common.{◌*◌, ◌≤◌, ◌<◌, arith}
use Rattle.geometry.proofs.Pens.{pen_row_low, pen_error_low, pen_steps}
use Rattle.geometry.proofs.bresenham.step.Goals as goal
use Rattle.geometry.proofs.bresenham.step.Goals.{Start}

row_low : (c : Start) → c.args.pen.row ≤ c.args.pen.column
row_low c = pen_row_low c.args.major c.args.minor c.requires.drawable c.args.pen c.args.pen.column c.requires.pen_value

error_low : (c : Start) → c.args.pen.error < 2 * c.args.major
error_low c =
    pen_error_low c.args.major c.args.minor c.requires.drawable c.args.pen c.args.pen.column c.requires.pen_value

pub overflow_add-error : goal.overflow_add-error
overflow_add-error c = omega (arith, error_low (goal.at.overflow_add-error c).Start)

pub overflow_add-result : goal.overflow_add-result
overflow_add-result c = omega (arith, row_low (goal.at.overflow_add-result c).Start)

pub returns-then-two_major-error : goal.returns-then-two_major-error
returns-then-two_major-error c =
    let a = c.args in
    let low = error_low (goal.at.returns-then-two_major-error c).Start in
    pen_steps a.major a.minor c.requires.drawable a.pen a.pen.column c.requires.pen_value _ _ (omega (arith, low))
    (omega arith)

pub returns-else-two_major-error : goal.returns-else-two_major-error
returns-else-two_major-error c =
    let a = c.args in
    pen_steps a.major a.minor c.requires.drawable a.pen a.pen.column c.requires.pen_value _ _ (omega arith)
    (omega arith)
