-- `hits::first_hit` meets its contract. The invariants: no place before `through` gives the grey after the first pass,
-- and no place of its window before `from` has it. Neither loop runs to its end: the result is given somewhere, and
-- where it is given it stands in the window.
-- Assumes nothing.
use Rattle.std.proofs.Common.{get_or}
use Rattle.finding.specs.Row.{absent, first_pass}
use Rattle.finding.proofs.Ending.{NoneBefore}
use Rattle.finding.proofs.hits.first_hit.Given as goal

abbrev pub invariant-loop-from : goal.invariant-loop-from
invariant-loop-from l = NoneBefore (λ j. get_or l.row j absent) l.grey l.begin l.from

abbrev pub invariant-loop-through : goal.invariant-loop-through
invariant-loop-through l = NoneBefore (first_pass l.s l.row) l.grey l.s.from l.through
