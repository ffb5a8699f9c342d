-- `turning::tile::copy_side` meets its contract. Assumes nothing.
use Rattle.std.proofs.Common.{◌≡◌, ◌+◌, ◌<◌, ℕ, arith, length, subst}
use Rattle.turning.specs.Tiles.{Copied}
use Rattle.turning.proofs.Tiling.{copied_more}
use Rattle.turning.proofs.tile.copy_side.Goals as goal

pub loop-i-preserved : goal.loop-i-preserved
loop-i-preserved c =
    let l = c.loop-i in
    let fits : c.args.b + l.i < length l.to = omega (arith, c.requires.1, c.loop-i-test.true, l.auto.to) in
    copied_more _ _ _ _ _ _ fits l.invariant

pub returns : goal.returns
returns c =
    let a = c.args in
    let l = c.loop-i in
    let done : l.i ≡ 16 = omega (arith, c.loop-i-test.false, l.auto.i-end) in
    subst (λ (n : ℕ). Copied n a.from.now a.a a.b a.to.now l.to) done l.invariant
