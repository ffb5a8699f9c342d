-- `runs::marks::fill_marks` meets its contract: the marks of v - 1 entries stand. Assumes nothing.
use mathlib.Core.Path.{◌≡◌}
use Prim.Native.Nat.{ℕ, ◌-◌, ◌%◌, ◌≤◌, ◌<◌}
use lib.ListN.{get_or, get_or-replicate, length-set}
use lib.ListN as lists
use Rattle.runs.proofs.marks.fill_marks.Given as goal

abbrev pub invariant-loop-v : goal.invariant-loop-v
invariant-loop-v l = (lists.length l.marks ≡ lists.length l.initial.marks) × ((k : ℕ) → l.height ≤ k → get_or l.marks k 0 ≡ get_or l.initial.marks k 0) × ((w : ℕ) → 1 ≤ w → w < l.v → w < l.height → get_or l.marks (l.height - w) 0 ≡ get_or l.tables.reaches.now w 0 % l.length)
