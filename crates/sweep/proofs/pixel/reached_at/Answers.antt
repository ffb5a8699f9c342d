-- `sweep::pixel::reached_at` meets its contract: a window that begins with a block, and one that begins inside one.
-- Assumes nothing.
use mathlib.Core.Path.{◌≡◌, sym, ap, ◌∙◌}
use Prim.Native.Nat.{ℕ, ◌+◌, ◌-◌, ◌%◌, ◌≤◌, zero-le}
use native.Mathlib.Omega.{arith}
use lib.ListN.{get_or}
use Rattle.runs.specs.Grid.{number}
use Rattle.runs.specs.GridLaws.{row_fits}
use Rattle.runs.specs.Scratch.{size}
use Rattle.sweep.specs.Sweeps.{Ready}
use Rattle.runs.proofs.Bounds.{row}
use Rattle.sweep.proofs.Found.{found_below}
use Rattle.sweep.proofs.Making.{small, numbered, start, made_whole}
use Rattle.sweep.proofs.Reading.{read_B}
use Rattle.sweep.proofs.pixel.reached_at.Goals as goal

pub overflow_sub-p : goal.overflow_sub-p
overflow_sub-p c =
    omega (arith, c.requires.from_value.0, c.requires.from_value.1, numbered c.args.p.now.pixel)

pub spot_at-start-requires : goal.spot_at-start-requires
spot_at-start-requires c =
    let at = c.args.p.now.pixel in
    (at.column, omega (arith, (row _ _ _ _ _ _ at).step_below, at.sized.height_most))

pub value_b-rest-requires : goal.value_b-rest-requires
value_b-rest-requires c =
    let at = c.args.p.now.pixel in
    let from = c.requires.from_value in
    let there = start at (omega (arith, from.0, from.1)) in
    (at.sized, found_below at _ _ c.spot_at-start.ensures there, c.requires.room)

pub returns-then-inside-eq0 : goal.returns-then-inside-eq0
unfolding Ready
returns-then-inside-eq0 c =
    let p = c.args.p.now in
    let at = p.pixel in
    let g = p.at.now.tables.grid in
    let own = number g p.at.now.row p.x in
    let from = c.requires.from_value in
    let reached : g.back ≤ own = omega (arith, from.0, from.1) in
    let inside = ap (λ (q : ℕ). (q - g.back) % g.length) (sym from.0) in
    let e : (own - g.back) % g.length ≡ 0 = inside ∙ c.if-inside-eq0.true in
    let there = start at reached in
    let fits = row_fits g at.sized _ _ _ (small at) there in (
      λ f ready.
          c.as_is.ensures.0
          ∙ c.value_b-rest.ensures
          ∙ ap (λ (i : ℕ). get_or c.args.bytes.now (size g + i) 0) c.spot_at-start.ensures
          ∙ read_B at _ _ _ _ _ there zero-le fits ready.2
          ∙ (made_whole at reached f e).0,
      c.as_is.ensures.1 ∙ (made_whole at reached (λ R x. 0) e).1,
    )
