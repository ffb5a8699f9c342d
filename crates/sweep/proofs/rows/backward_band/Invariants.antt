-- `sweep::rows::backward_band` meets its contract: the rows are copied, then those from row on are swept. Assumes
-- nothing.
use Prim.Native.Nat.{◌≤◌}
use Rattle.runs.specs.Scratch.{size}
use Rattle.sweep.specs.Sweeps.{Raised}
use Rattle.sweep.proofs.rows.backward_band.Given as goal

abbrev pub invariant-loop-row : goal.invariant-loop-row
invariant-loop-row l =
    let g = l.page.tables.grid in
    (l.from ≤ l.row) × Raised (size g) g l.from l.row l.to l.initial.bytes l.bytes l.count
