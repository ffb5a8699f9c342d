-- `tray::paint::paint` meets its contract.
-- Assumes nothing.
use Rattle.std.proofs.Common.{◌≡◌, ℕ, ◌+◌, ◌-◌, ◌*◌, ◌≤◌, length, refl, subst, mul-le-mul_right, arith}
use Rattle.tray.specs.Promises.{RectanglePainted}
use Rattle.tray.proofs.Painting.{rows, painted_row}
use Rattle.tray.proofs.paint.paint.Goals as goal

-- the row lies in the page
room : (r bottom w n : ℕ) → r + 1 ≤ bottom → bottom * w ≤ n → (r + 1) * w ≤ n
room r bottom w n next all = omega (arith, mul-le-mul_right w next, all)

pub loop-r-preserved : goal.loop-r-preserved
loop-r-preserved c =
    let a = c.args in
    let l = c.loop-r in
    let fits = c.requires in
    let lies = room l.r a.x.bottom a.w _ (omega (arith, c.loop-r-test.true)) fits.rows_in in
    let long : (l.r + 1) * a.w ≤ length l.page = omega (arith, lies, l.auto.page) in
    let at = l.r * a.w + a.x.left in
    painted_row a.w a.x.top a.x.left a.x.right a.value l.r at (l.r * a.w + a.x.right - at) a.page.now l.page _
    (c.fill.ensures.after (λ y e. e)) refl (omega arith) l.auto.r fits.wide fits.right_in long l.invariant

pub returns : goal.returns
returns c =
    let a = c.args in
    let l = c.loop-r in
    let done : l.r ≡ a.x.bottom = omega (arith, c.loop-r-test.false, l.auto.r-end, c.requires.high) in
    subst
    (λ (k : ℕ). RectanglePainted a.w (rows a.x.top a.x.left a.x.right k) a.value a.page.now l.page) done l.invariant
