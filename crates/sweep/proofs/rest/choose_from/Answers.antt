-- `sweep::rest::choose_from` meets its contract: no column, or the places of its columns. Assumes nothing.
use Prim.Native.Nat.{ℕ, ◌≤◌}
use native.Mathlib.Omega.{arith}
use Rattle.runs.proofs.Bounds.{product}
use Rattle.runs.proofs.Planning.{here}
use Rattle.sweep.proofs.Places.{row_end}
use Rattle.sweep.proofs.Resting.{back_row, place_back_fits, edge_row, place_edge_fits}
use Rattle.sweep.proofs.rest.choose_from.Goals as goal

least_most : {a b d : ℕ} → a ≤ b → b ≤ d → a ≤ d
least_most h k = omega arith

pub place_at-requires : goal.place_at-requires
place_at-requires c =
    let at = c.args.at.now.in_page in
    let bound = c.requires.step_bound in record {
      row = omega (arith, back_row at _ bound.1, at.row);
      to_bound = (
        omega (arith, bound.1, (here _ _ _ _ _ at).step_below, at.sized.height_most),
        omega (arith, bound.3.least, bound.3.most),
        omega (arith, bound.0),
      );
    }

pub overflow_add-first : goal.overflow_add-first
overflow_add-first c =
    let at = c.args.at.now.in_page in
    let bound = c.requires.step_bound in
    let first = place_back_fits at _ _ bound.1 (omega (arith, bound.3.least, bound.3.most)) bound.0 in
    record { fits = omega (arith, product at.sized.height_most at.sized.width_most, c.place_at.ensures, first) }

pub place_at-requires-2-clause-row : goal.place_at-requires-2-clause-row
place_at-requires-2-clause-row c =
    let bound = c.requires.step_bound in
    let most = least_most bound.3.least bound.3.most in
    edge_row c.args.at.now.in_page _ _ most bound.0 _ bound.3 (omega (arith, c.if-hi-lo.false))

pub overflow_add-second : goal.overflow_add-second
overflow_add-second c =
    let at = c.args.at.now.in_page in
    let bound = c.requires.step_bound in
    let most = least_most bound.3.least bound.3.most in
    let second = place_edge_fits at _ _ most bound.0 _ bound.3 (omega (arith, c.if-hi-lo.false)) in
    record { fits = omega (arith, product at.sized.height_most at.sized.width_most, c.place_at-2.ensures, second) }

pub choose_run-requires-clause-n_in_bounds : goal.choose_run-requires-clause-n_in_bounds
choose_run-requires-clause-n_in_bounds c =
    let at = c.args.at.now.in_page in
    let bound = c.requires.step_bound in
    let far = bound.3.most in
    let most = least_most bound.3.least far in
    let own = row_end at in
    let one = c.place_at.ensures in
    let two = c.place_at-2.ensures in
    let first = place_back_fits at _ _ bound.1 most bound.0 in
    let second = place_edge_fits at _ _ most bound.0 _ bound.3 (omega (arith, c.if-hi-lo.false)) in
    (omega (arith, c.requires.room), omega (arith, c.requires.room), omega (arith, c.requires.room))
