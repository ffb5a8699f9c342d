-- `sweep::pixel::early_at` meets its contract: the line ends in its first block, whose extreme stands at its entry.
-- Assumes nothing.
use mathlib.Core.Path.{ap, ◌∙◌}
use Prim.Native.Nat.{ℕ, ◌+◌, zero-le}
use native.Mathlib.Omega.{arith}
use lib.ListN.{get_or}
use Rattle.runs.specs.Grid.{spot}
use Rattle.runs.specs.GridLaws.{row_fits}
use Rattle.runs.specs.Scratch.{size}
use Rattle.sweep.specs.Sweeps.{Ready}
use Rattle.runs.proofs.Bounds.{row}
use Rattle.sweep.proofs.Found.{found_below}
use Rattle.sweep.proofs.Making.{small, numbered, entering, made_all}
use Rattle.sweep.proofs.Reading.{read_B}
use Rattle.sweep.proofs.pixel.early_at.Goals as goal

pub spot_at-first-requires : goal.spot_at-first-requires
spot_at-first-requires c =
    let at = c.args.p.now.pixel in
    let below = (row _ _ _ _ _ _ at).step_below in
    (at.column, omega (arith, c.entry_at-entry.ensures, numbered at, below, at.sized.height_most))

pub value_b-requires : goal.value_b-requires
value_b-requires c =
    let at = c.args.p.now.pixel in
    let found = c.spot_at-first.ensures ∙ ap (spot c.args.p.now.at.now.tables.grid _ _) c.entry_at-entry.ensures in
    (at.sized, found_below at _ _ found (entering at c.requires.early), c.requires.room)

pub returns : goal.returns
unfolding Ready
returns c =
    let at = c.args.p.now.pixel in
    let off = c.args.p.now.past in
    let g = c.args.p.now.at.now.tables.grid in
    let found = c.spot_at-first.ensures ∙ ap (spot g _ _) c.entry_at-entry.ensures in
    let there = entering at c.requires.early in
    let fits = row_fits g at.sized _ _ _ (small at) there in (
      λ f ready.
          c.as_is.ensures.0
          ∙ c.value_b.ensures
          ∙ ap (λ (i : ℕ). get_or c.args.bytes.now (size g + i) 0) found
          ∙ read_B at _ _ _ _ _ there zero-le fits ready.2
          ∙ (made_all at c.requires.early f off).0,
      c.as_is.ensures.1 ∙ (made_all at c.requires.early (λ R x. 0) off).1,
    )
