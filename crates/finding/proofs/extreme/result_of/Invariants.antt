-- `extreme::result_of` meets its contract. The invariant: the extreme of the first passes from place i on.
-- Assumes nothing.
use Rattle.std.proofs.Common.{◌≡◌, ℕ, ◌+◌, ◌-◌, ◌≤◌, not, List, Option}
use Rattle.std.proofs.Math.Option as maybe
use Rattle.filter.specs.Filters.{extreme}
use Rattle.finding.specs.Row.{in_row, pass_in, value_of}
use Rattle.finding.specs.declared.Search.{Search}
use Rattle.finding.proofs.extreme.result_of.Given as goal

abbrev pub passes : Search → List (Option ℕ) → ℕ → maybe.Option ℕ
passes s row = pass_in s.low s.back s.length (in_row row)

abbrev pub invariant-loop-i : goal.invariant-loop-i
invariant-loop-i l =
    (l.s.from ≤ l.i)
    × (l.most ≡ value_of (extreme (not l.s.low) (passes l.s l.row) l.i (l.s.from + l.s.steps - l.i)))
