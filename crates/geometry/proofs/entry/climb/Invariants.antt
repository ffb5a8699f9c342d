-- `entry::climb` meets its contract. The invariant: no entry from `from` to s is large enough.
-- Assumes nothing.
use Rattle.std.proofs.Common.{ℕ, ◌≤◌, ◌<◌, get_or}
use Rattle.geometry.proofs.entry.climb.Given as goal

abbrev pub invariant-loop-s : goal.invariant-loop-s
invariant-loop-s l = (k : ℕ) → l.from ≤ k → k < l.s → get_or l.profile k 0 < l.v
