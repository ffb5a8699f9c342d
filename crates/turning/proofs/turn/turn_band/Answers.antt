-- `turning::turn::turn_band` meets its contract. Assumes nothing.
use Rattle.std.proofs.Common.{◌≡◌, ◌+◌, ◌*◌, ◌/◌, ◌≤◌, ℕ, arith, subst}
use Rattle.turning.specs.Pieces.{Part, turned_pixel}
use Rattle.turning.proofs.Pieces.{join_across}
use Rattle.turning.proofs.turn.turn_band.Goals as goal

pub loop-i-preserved : goal.loop-i-preserved
loop-i-preserved c =
    let l = c.loop-i in
    let a = c.args in
    let page = turned_pixel a.from.now a.t in
    let end = a.a + 16 * a.n in
    let next : 16 * l.i + 16 ≡ 16 * (l.i + 1) = omega arith in
    let before : 16 * l.i ≤ a.t.target.width = omega (arith, c.loop-i-test.true) in
    subst (λ (k : ℕ). Part page a.t a.a end 0 k a.to.now c.turn_tiles.new.to) next
    (join_across a.t page a.to.now l.to _ a.a end 0 (16 * l.i) _ c.requires.n_bound before l.invariant
    c.turn_tiles.ensures)

pub returns : goal.returns
returns c =
    let l = c.loop-i in
    let a = c.args in
    let page = turned_pixel a.from.now a.t in
    let end = a.a + 16 * a.n in
    let whole = 16 * (a.t.target.width / 16) in
    let within : whole ≤ a.t.target.width = omega arith in
    let done : 16 * l.i ≡ whole = omega (arith, c.loop-i-test.false, l.auto.i-end) in
    let tiles = subst (λ (k : ℕ). Part page a.t a.a end 0 k a.to.now l.to) done l.invariant in
    join_across a.t page a.to.now l.to _ a.a end 0 whole _ c.requires.n_bound within tiles c.turn_rows.ensures
