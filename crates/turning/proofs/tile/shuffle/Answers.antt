-- `turning::tile::shuffle` meets its contract. Assumes nothing.
use Rattle.std.proofs.Common.{◌≡◌, ℕ, refl, subst, arith}
use Rattle.turning.specs.Tiles.{Shuffled}
use Rattle.turning.proofs.Tiling.{shuffled_more}
use Rattle.turning.proofs.tile.shuffle.Goals as goal

pub loop-i-preserved : goal.loop-i-preserved
loop-i-preserved c =
    let l = c.loop-i in
    shuffled_more l.i c.args.x.now l.y _ _ c.loop-i-test.true refl refl l.invariant

pub returns : goal.returns
returns c =
    let l = c.loop-i in
    let done : l.i ≡ 128 = omega (arith, c.loop-i-test.false, l.auto.i-end) in
    subst (λ (n : ℕ). Shuffled n c.args.x.now l.y) done l.invariant
