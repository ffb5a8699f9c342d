-- `turning::turn::turn_rows` meets its contract. Assumes nothing.
use Rattle.std.proofs.Common.{◌≡◌, ℕ, ◌+◌, subst, le_refl, arith}
use Rattle.turning.specs.Pieces.{Part, turned_pixel}
use Rattle.turning.proofs.Pieces.{join_down}
use Rattle.turning.proofs.turn.turn_rows.Goals as goal

pub loop-i-preserved : goal.loop-i-preserved
loop-i-preserved c =
    let l = c.loop-i in
    let a = c.args in
    join_down a.t (turned_pixel a.from.now a.t) a.to.now l.to _ a.a l.i (l.i + 1) a.b a.t.target.width
    (omega (arith, c.requires.a_le_e.1, c.loop-i-test.true)) (le_refl _) l.invariant c.turn_row.ensures

pub returns : goal.returns
returns c =
    let a = c.args in
    let l = c.loop-i in
    let done : l.i ≡ a.e = omega (arith, c.loop-i-test.false, l.auto.i-end, c.requires.a_le_e.0) in
    subst (λ (k : ℕ). Part (turned_pixel a.from.now a.t) a.t a.a k a.b a.t.target.width a.to.now l.to) done l.invariant
