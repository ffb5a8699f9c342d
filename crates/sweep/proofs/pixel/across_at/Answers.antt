-- `sweep::pixel::across_at` meets its contract: the line ends in the next block, or before it. Assumes nothing.
use mathlib.Core.Path.{ap, ap₂, ◌∙◌}
use Prim.Native.Nat.{ℕ, ◌+◌, ◌-◌, zero-le}
use native.Mathlib.Omega.{arith}
use lib.ListN.{get_or}
use Rattle.runs.specs.Span.{chosen}
use Rattle.runs.specs.Grid.{spot, start_row, line_name}
use Rattle.runs.specs.GridLaws.{row_fits}
use Rattle.runs.specs.Scratch.{size}
use Rattle.sweep.specs.Sweeps.{Ready}
use Rattle.runs.proofs.Bounds.{row}
use Rattle.sweep.proofs.Found.{found_below, found_off, found_on}
use Rattle.sweep.proofs.Making.{small, numbered, made_cut, made_short}
use Rattle.sweep.proofs.Reading.{read_B, inside_first, rest_read}
use Rattle.sweep.proofs.pixel.across_at.Goals as goal

pub overflow_sub-p : goal.overflow_sub-p
overflow_sub-p c =
    omega (arith, c.requires.across.reached, numbered c.args.p.now.pixel)

pub overflow_add-p : goal.overflow_add-p
overflow_add-p c =
    let at = c.args.p.now.pixel in
    record { fits = omega (arith, (row _ _ _ _ _ _ at).step_below, at.sized.height_most, at.sized.length_most) }

pub spot_at-next-requires : goal.spot_at-next-requires
spot_at-next-requires c =
    let at = c.args.p.now.pixel in
    (at.column, omega (arith, (row _ _ _ _ _ _ at).step_below, at.sized.height_most, at.sized.length_most))

pub returns-then-is_off : goal.returns-then-is_off
unfolding Ready
returns-then-is_off c =
    let p = c.args.p.now in
    let at = p.pixel in
    let row = p.at.now in
    let g = row.tables.grid in
    let across = c.requires.across in
    let place = λ (q : ℕ). spot g (start_row g row.row) (line_name g row.row p.x) (row.step - g.back + (g.length - q)) in
    let found = c.spot_at-next.ensures ∙ ap place across.inside_is in
    let off = found_off at _ _ found _ c.is_off.ensures c.if-is_off.true in
    let some = inside_first at _ _ _ across in (
      λ f ready.
          c.as_is.ensures.0
          ∙ rest_read at _ _ _ across f ready.2
          ∙ (made_short at across.reached some f off).0,
      c.as_is.ensures.1 ∙ (made_short at across.reached some (λ R x. 0) off).1,
    )

pub value_b-requires : goal.value_b-requires
value_b-requires c =
    let at = c.args.p.now.pixel in
    let on = found_on at _ _ c.spot_at-next.ensures _ c.is_off.ensures c.if-is_off.false in
    (at.sized, found_below at _ _ c.spot_at-next.ensures on, c.requires.room)

pub returns : goal.returns
unfolding Ready
returns c =
    let p = c.args.p.now in
    let at = p.pixel in
    let off = p.past in
    let row = p.at.now in
    let g = row.tables.grid in
    let across = c.requires.across in
    let place = λ (q : ℕ). spot g (start_row g row.row) (line_name g row.row p.x) (row.step - g.back + (g.length - q)) in
    let found = c.spot_at-next.ensures ∙ ap place across.inside_is in
    let on = found_on at _ _ found _ c.is_off.ensures c.if-is_off.false in
    let some = inside_first at _ _ _ across in (
      λ f ready.
          c.compared.ensures.0
          ∙ ap₂ (chosen g.low) (rest_read at _ _ _ across f ready.2)
          (c.value_b.ensures ∙ ap (λ (i : ℕ). get_or c.args.bytes.now (size g + i) 0) found
          ∙ read_B at _ _ _ _ _ on zero-le (row_fits g at.sized _ _ _ (small at) on) ready.2)
          ∙ (made_cut at across.reached some off f on).0,
      c.compared.ensures.1 ∙ (made_cut at across.reached some off (λ R x. 0) on).1,
    )
