-- `runs::run::marked_run` meets its contract: the first k bytes are kept or chosen, and the comparisons counted.
-- Assumes nothing.
use mathlib.Core.Path.{refl, ap, ap₂, ◌∙◌}
use mathlib.Core.Bool.{Bool, cond}
use Prim.Native.Nat.{ℕ, ◌+◌}
use native.Mathlib.Omega.{arith}
use lib.ListN.{get_or, length}
use Rattle.runs.specs.Scratch.{total}
use Rattle.runs.specs.Runs.{kept_or}
use Rattle.runs.proofs.Running.{filled_none, filled_more, unread, compared_more, counted_few}
use Rattle.runs.proofs.run.marked_run.Goals as goal

pub loop-k-init : goal.loop-k-init
unfolding total
loop-k-init g c = (filled_none _ _ _, refl)

pub overflow_add-count : goal.overflow_add-count
overflow_add-count g c =
    let l = c.loop-k in
    let keeps : ℕ → Bool = λ (j : ℕ). g.kept (get_or c.args.marks.now j 0) in
    let keep = c.requires.1.1.1.1 _ _ c.keeps-keep.ensures in
    let more = compared_more keeps l.k _ _ l.invariant.1 (c.compared_of-count.ensures ∙ ap (λ (b : Bool). cond b 0 1) keep) in
    record { fits = omega (arith, counted_few keeps (l.k + 1) _ more, c.requires.1.1.0) }

pub loop-k-preserved : goal.loop-k-preserved
loop-k-preserved g c =
    let l = c.loop-k in
    let a = c.args in
    let n : ℕ = length a.marks.now in
    let keeps : ℕ → Bool = λ (j : ℕ). g.kept (get_or a.marks.now j 0) in
    let keep = c.requires.1.1.1.1 _ _ c.keeps-keep.ensures in
    let left = unread _ l.k _ _ l.bytes l.invariant.0 a.first n c.requires.1.1.0.0 (omega arith) in
    let right = unread _ l.k _ _ l.bytes l.invariant.0 a.second n c.requires.1.1.0.1 (omega arith) in
    let value = c.kept_or_chosen.ensures ∙ ap (λ (b : Bool). kept_or a.low b (get_or l.bytes (a.first + l.k) 0) (get_or l.bytes (a.second + l.k) 0)) keep ∙ ap₂ (kept_or a.low (keeps l.k)) left right in (
      filled_more a.to l.k _ _ l.bytes l.invariant.0 _ (omega (arith, l.invariant.0.kept.same_length)) value,
      compared_more keeps l.k _ _ l.invariant.1 (c.compared_of-count.ensures ∙ ap (λ (b : Bool). cond b 0 1) keep),
    )
