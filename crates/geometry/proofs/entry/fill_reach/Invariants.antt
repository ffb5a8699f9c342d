-- `entry::fill_reach` meets its contract. The invariant: the entries below v are right, and no step below s has drifted
-- v places.
-- Assumes nothing.
use Rattle.std.proofs.Common.{ℕ, ◌≤◌, ◌<◌, length, get_or}
use Rattle.geometry.specs.Tables.{Reaches}
use Rattle.geometry.proofs.entry.fill_reach.Given as goal

abbrev pub invariant-loop-v : goal.invariant-loop-v
invariant-loop-v l = record {
  in_profile : l.s ≤ length l.profile;
  low : (k : ℕ) → k < l.s → get_or l.profile k 0 < l.v;
  entries : (u : ℕ) → u < l.v → Reaches l.profile u 0 (get_or l.reach u 0);
}
