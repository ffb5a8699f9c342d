-- `sweep::rows::forward` meets its contract: above row the extremes are made, and the results some rows behind.
-- Assumes nothing.
use Prim.Native.Nat.{◌-◌, min}
use Rattle.sweep.specs.Sweeps.{Lowered}
use Rattle.sweep.proofs.rows.forward.Given as goal

abbrev pub invariant-loop-row : goal.invariant-loop-row
invariant-loop-row l =
    let g = l.page.tables.grid in Lowered g (min l.row g.height) (l.row - l.behind) l.initial.bytes l.bytes l.count
