-- `sweep::rows::backward` meets its contract: the bands from band on are swept. Assumes nothing.
use Prim.Native.Nat.{◌*◌, min}
use Rattle.sweep.specs.Sweeps.{Raised}
use Rattle.sweep.proofs.rows.backward.Given as goal

abbrev pub invariant-loop-band : goal.invariant-loop-band
invariant-loop-band l =
    Raised 0 l.page.tables.grid 0 (min l.height (l.band * 32)) l.height l.initial.bytes l.bytes l.count
