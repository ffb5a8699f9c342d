-- `pgm::pixels::judge_pixels` meets its contract: what is told of the sides is on their side of the room. Assumes
-- nothing.
use native.Mathlib.Omega.{arith}
use Rattle.pgm.proofs.Images.{place_fits, pixels_judged}
use Rattle.pgm.proofs.pixels.judge_pixels.Goals as goal

pub overflow_add-start : goal.overflow_add-start
overflow_add-start c =
    let few =
    place_fits c.args.file.now (omega arith) c.args.header c.requires.0 c.requires.1 _
    c.pixel_count-count.ensures c.sound_pixels-sound.ensures in
    omega arith

pub returns : goal.returns
returns c =
    pixels_judged c.args.file.now (omega arith) c.args.header c.requires.0 c.requires.1 _
    c.pixel_count-count.ensures c.sound_pixels-sound.ensures
    c.is_room-enough.ensures c.refuse_unless.ensures
