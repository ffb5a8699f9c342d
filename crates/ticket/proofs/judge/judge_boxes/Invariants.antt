-- `ticket::judge::judge_boxes` meets its contract: what is left to judge is the judgement of all. Assumes nothing.
use mathlib.Core.Path.{◌≡◌}
use Prim.Native.Nat.{◌+◌, ◌-◌, ◌*◌, ◌≤◌}
use Rattle.fields.specs.Fields.{first_box}
use Rattle.ticket.specs.Judging.{judge_boxes}
use Rattle.ticket.proofs.Boxes.{rest}
use Rattle.ticket.proofs.judge.judge_boxes.Given as goal

abbrev pub invariant-loop-k : goal.invariant-loop-k
invariant-loop-k l = (l.k ≤ 65) × (l.head ≤ 30 + 65538 * l.k) × (rest l.s l.head l.k ≡ judge_boxes l.s first_box 0 65)

abbrev pub decreases-loop-k : goal.decreases-loop-k
decreases-loop-k l = 65 - l.k
