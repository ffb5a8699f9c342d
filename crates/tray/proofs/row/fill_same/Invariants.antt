-- `tray::row::fill_same` meets its contract. The invariant: what stands below k is filled. Assumes nothing.
use Rattle.std.proofs.Common.{◌≡◌, ℕ, ◌<◌, get_or}
use Rattle.tray.proofs.row.fill_same.Given as goal

abbrev pub invariant-loop-k : goal.invariant-loop-k
invariant-loop-k l = (j : ℕ) → j < l.k → get_or l.to j 0 ≡ get_or l.from j 0
