-- `place::pixel_in` meets its contract.
-- Assumes nothing.
use Rattle.std.proofs.Common.{◌≡◌, sym, ap₂, ◌∙◌, arith}
use Rattle.nearby.specs.Stand.{pixel_by}
use Rattle.nearby.specs.Laws.{pixel_on, pixel_off}
use Rattle.nearby.proofs.Places.{major_most}
use Rattle.nearby.proofs.Stood.{pixel_of}
use Rattle.nearby.proofs.place.pixel_in.Goals.{then-major-s, else-major-s}
use Rattle.nearby.proofs.place.pixel_in.Goals as goal

pub returns : goal.returns
returns c =
    let s = c.args.s in
    let i = c.args.i in
    let major_is = c.major_in-major.ensures in
    pixel_of s _ _ _ _ c.down_of.ensures c.across_of.ensures
    ∙ elim c.if-major-s.branch [
      | then-major-s w ↦
          ap₂ (pixel_by s) major_is (w.minor-is ∙ w.minor_in-minor.ensures)
          ∙ sym (pixel_on s i (omega (arith, major_is, w.if-major-s.true)))
      | else-major-s w ↦
          let past : c.major_in-major.result ≡ s.high = omega (arith, major_is, major_most s i, w.if-major-s.false) in
          ap₂ (pixel_by s) past w.minor-is ∙ sym (pixel_off s i (omega (arith, major_is, past)))
    ]
