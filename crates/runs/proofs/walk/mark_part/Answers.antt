-- `runs::walk::mark_part` meets its contract: the plan's places, counted from its first column. Assumes nothing.
use mathlib.Core.Path.{sym, ap, ◌∙◌}
use mathlib.Core.Bool.{Bool}
use Prim.Native.Nat.{ℕ, ◌+◌, ◌-◌}
use lib.Dec.{eqb}
use lib.ListN.{get_or}
use Rattle.runs.specs.Runs.{kept_or}
use Rattle.runs.proofs.Running.{filled_as, chosen_own, compared_own}
use Rattle.runs.proofs.walk.mark_part.Goals as goal

pub returns-then-p : goal.returns-then-p
returns-then-p c =
    let a = c.args in
    let low = a.row.now.at.tables.grid.low in
    let at : ℕ = a.from - a.p.lo in
    let keeps : ℕ → Bool = λ (m : ℕ). eqb m a.mark in
    let fits = c.requires.lo_le_from.4 in
    let made = chosen_own _ _ _ fits _ keeps _ _ _ _ _ c.marked_run.ensures.0 in (
      filled_as _ _ _ _ _ _ (λ k h. ap (λ (q : ℕ). kept_or low (keeps (get_or a.row.now.marks.now (a.place + k) 0)) (get_or a.bytes.now (q + at + k) 0) (get_or a.bytes.now (a.p.second + at + k) 0)) (sym c.if-p.true)) made,
      c.marked_run.ensures.1 ∙ compared_own _ _ _ fits keeps,
    )

pub returns : goal.returns
returns c =
    let keeps : ℕ → Bool = λ (m : ℕ). eqb m c.args.mark in
    let fits = c.requires.lo_le_from.4 in
    let made = c.marked_run-2.ensures in
    (chosen_own _ _ _ fits _ keeps _ _ _ _ _ made.0, made.1 ∙ compared_own _ _ _ fits keeps)
