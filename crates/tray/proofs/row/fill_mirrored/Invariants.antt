-- `tray::row::fill_mirrored` meets its contract. The invariant: the last k bytes are filled. Assumes nothing.
use Rattle.std.proofs.Common.{◌≡◌, ℕ, ◌-◌, ◌<◌, length, get_or}
use Rattle.tray.proofs.row.fill_mirrored.Given as goal

abbrev pub invariant-loop-k : goal.invariant-loop-k
invariant-loop-k l = (j : ℕ) → j < l.k → get_or l.to (length l.initial.to - 1 - j) 0 ≡ get_or l.from j 0
