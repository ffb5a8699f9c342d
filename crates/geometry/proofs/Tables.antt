-- What a table of first entries is to a line.
-- Assumes nothing.
use mathlib.Core.Path.{sym, subst}
use mathlib.Core.List.{List}
use Prim.Native.Nat.{ℕ, ◌≤◌, ◌<◌}
use native.Mathlib.Omega.{arith}
use lib.ListN.{length, get_or}
use Rattle.geometry.specs.Tables.{FirstEntries, ProfileTable, ReachTable}
use Rattle.geometry.proofs.Laws.{reach_is}
use Rattle.geometry.specs.declared.Line.{Line}

-- a table of first entries, over a profile that holds a line's drift, is the line's table of reaches
pub reach_table : (l : Line) (profile reach : List ℕ) → ProfileTable l profile → FirstEntries profile reach
    → ReachTable l (length profile) reach
reach_table l profile reach p q =
    record {
      entry = λ v h.
          let found = q.entry v h in
          sym
          (reach_is l v (length profile) (get_or reach v 0) found.to
          (λ s k. subst (λ (d : ℕ). d < v) (p.entry s (omega (arith, found.to))) (found.before s (omega arith) k))
          (λ k. subst (λ (d : ℕ). v ≤ d) (p.entry (get_or reach v 0) k) (found.at k)));
    }
