-- `profile::add_up` meets its contract. The invariant: the entries so far are right, and the component is added up for
-- each of them.
-- Assumes nothing.
use Rattle.std.proofs.Common.{◌≡◌, ℕ, ◌*◌, ◌<◌, get_or}
use Rattle.geometry.proofs.profile.add_up.Given as goal

abbrev pub invariant-loop-place : goal.invariant-loop-place
invariant-loop-place l = record {
  moved : l.moved ≡ l.place-index * l.minor;
  entries : (k : ℕ) → k < l.place-index → get_or l.table k 0 ≡ k * l.minor;
}
