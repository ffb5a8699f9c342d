-- `pgm::pixels::sound_pixels` meets its contract: where the greatest pixel is no more than the maximum, all are sound.
-- Assumes nothing.
use mathlib.Core.Path.{sym}
use native.Mathlib.Omega.{arith}
use Rattle.pgm.proofs.Images.{sound_all, greatest_most, sound_found}
use Rattle.pgm.proofs.pixels.sound_pixels.Goals as goal

pub returns-then-maximum-eq255 : goal.returns-then-maximum-eq255
returns-then-maximum-eq255 c =
    let a = c.args in
    let pixels = a.pixels.now in
    let bytes = greatest_most 255 pixels (λ i. omega (arith, c.type_inv.pixels i)) in
    sym (sound_all a.maximum pixels (omega arith))

pub returns-then-most-maximum : goal.returns-then-most-maximum
returns-then-most-maximum c =
    let a = c.args in
    sym (sound_all a.maximum a.pixels.now (omega arith))

pub returns : goal.returns
returns c =
    rw (c.unwrap_or.ensures, c.first_above.ensures) (sound_found _ c.args.pixels.now)
