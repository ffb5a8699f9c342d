-- `sweep::bottom::block_part` meets its contract: the places of the window's first pixels, of the lines' last ones,
-- and of the marks. Assumes nothing.
use mathlib.Core.Path.{ap}
use mathlib.Core.Logic.{inl}
use Prim.Native.Nat.{ℕ, ◌+◌, ◌-◌, ◌*◌}
use native.Mathlib.Omega.{arith}
use Rattle.runs.proofs.Bounds.{product}
use Rattle.runs.proofs.Planning.{here}
use Rattle.sweep.proofs.Places.{row_end}
use Rattle.sweep.proofs.Resting.{back_row}
use Rattle.sweep.proofs.Bottoming.{bottom_row, bottom_rises, bottom_below, place_after}
use Rattle.sweep.proofs.Bottoming.{first_reached, first_fits, second_fits, block_made}
use Rattle.sweep.proofs.bottom.block_part.Goals as goal

pub overflow_sub-row : goal.overflow_sub-row
overflow_sub-row c =
    let low = c.requires.at_bottom in
    omega (arith, low.1 c.args.lo (omega arith) low.3)

pub place_at-start-requires : goal.place_at-start-requires
place_at-start-requires c =
    let bytes = c.args.bytes.now in
    let row = c.args.row.now.at in
    let at = row.in_page in
    let low = c.requires.at_bottom in
    let below = (here _ _ _ _ _ at).step_below in record {
      row = omega (arith, back_row at (row.step - row.tables.grid.back) (omega arith), at.row);
      to_bound = (
        omega (arith, at.sized.height_most),
        omega (arith, low.0.most, low.3),
        first_reached at bytes bytes _ _ _ low.0 low.1 low.3,
      );
    }

pub overflow_add-row : goal.overflow_add-row
overflow_add-row c =
    let at = c.args.row.now.at.in_page in
    record { fits = omega (arith, bottom_below at _ _ _ c.requires.at_bottom.0, at.sized.height_most) }

pub place_at-end-requires : goal.place_at-end-requires
place_at-end-requires c =
    let at = c.args.row.now.at.in_page in
    let low = c.requires.at_bottom in record {
      row = bottom_row at _ _ _ low.0;
      to_bound = (
        omega (arith, bottom_below at _ _ _ low.0, at.sized.height_most),
        omega (arith, low.0.most, low.3),
        omega (arith, bottom_rises at _ _ _ low.0),
      );
    }

pub overflow_sub-place : goal.overflow_sub-place
overflow_sub-place c =
    omega (arith, c.drift_of.ensures, (here _ _ _ _ _ c.args.row.now.at.in_page).drift_below)

pub overflow_add-g : goal.overflow_add-g
overflow_add-g c =
    let bytes = c.args.bytes.now in
    let at = c.args.row.now.at.in_page in
    let low = c.requires.at_bottom in
    let first = first_fits at bytes bytes _ _ _ low.0 low.1 low.3 in
    record { fits = omega (arith, c.place_at-start.ensures, first, product at.sized.height_most at.sized.width_most) }

pub block_run-requires : goal.block_run-requires
block_run-requires c =
    let bytes = c.args.bytes.now in
    let at = c.args.row.now.at.in_page in
    let low = c.requires.at_bottom in
    let most = low.0.most in
    let room = c.requires.room in
    let own = row_end at in
    let first = c.place_at-start.ensures in
    let second = c.place_at-end.ensures in
    let drifted = c.drift_of.ensures in
    let first-in = first_fits at bytes bytes _ _ _ low.0 low.1 low.3 in
    let second-in = second_fits at bytes bytes _ _ _ low.0 low.1 low.3 in
    let after = place_after at _ _ _ low.0 c.args.lo in record {
      n_in_bounds = (omega (arith, most), omega arith, omega arith);
      apart = (
        inl (omega (arith, most)),
        inl (omega arith),
        omega (arith, c.args.row.now.marked.long, low.0.side, (here _ _ _ _ _ at).drift_below),
        omega (arith, low.4),
      );
    }

pub returns : goal.returns
returns c =
    let row = c.args.row.now in
    let g = row.at.tables.grid in
    let at = row.at.in_page in
    let low = c.requires.at_bottom in
    let first = ap (λ (q : ℕ). g.height * g.width + q) c.place_at-start.ensures in
    let place = ap (λ (q : ℕ). c.args.lo + g.height - q) c.drift_of.ensures in
    let second = c.place_at-end.ensures in
    let made = c.block_run.ensures in
    block_made at _ _ _ _ _ low.0 low.1 low.3 _ row.marked c.args.w low.2 _ _ _ _ place first second made.0 made.1
