-- `sweep::rest::copy_from` meets its contract: the places of its columns. Assumes nothing.
use mathlib.Core.Logic.{inl}
use native.Mathlib.Omega.{arith}
use Rattle.runs.proofs.Bounds.{product}
use Rattle.runs.proofs.Planning.{here}
use Rattle.sweep.proofs.Places.{row_end}
use Rattle.sweep.proofs.Resting.{back_row, place_back_fits}
use Rattle.sweep.proofs.rest.copy_from.Goals as goal

pub place_at-requires : goal.place_at-requires
place_at-requires c =
    let at = c.args.at.now.in_page in
    let bound = c.requires.lo_le_width in record {
      row = omega (arith, back_row at _ bound.2, at.row);
      to_bound = (
        omega (arith, bound.2, (here _ _ _ _ _ at).step_below, at.sized.height_most),
        bound.0,
        omega (arith, bound.1),
      );
    }

pub overflow_add-from : goal.overflow_add-from
overflow_add-from c =
    let at = c.args.at.now.in_page in
    let bound = c.requires.lo_le_width in
    let fits = place_back_fits at _ _ bound.2 bound.0 bound.1 in
    record { fits = omega (arith, product at.sized.height_most at.sized.width_most, c.place_at.ensures, fits) }

pub copy_run-requires : goal.copy_run-requires
copy_run-requires c =
    let at = c.args.at.now.in_page in
    let own = row_end at in
    let bound = c.requires.lo_le_width in
    let most = bound.0 in
    let place = c.place_at.ensures in
    let fits = place_back_fits at _ _ bound.2 most bound.1 in
    (omega (arith, c.requires.room), omega (arith, c.requires.room), inl (omega arith))
