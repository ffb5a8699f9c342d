-- `runs::walk::edge` meets its contract: no column, or the one whose line had drifted just so far. Assumes nothing.
use mathlib.Core.Path.{sym, ap₂, ◌∙◌, subst}
use Prim.Native.Nat.{ℕ, ◌-◌, min}
use native.Mathlib.Omega.{arith}
use Rattle.geometry.proofs.Laws.{drift_rises}
use Rattle.runs.specs.Runs.{EdgeAt}
use Rattle.runs.proofs.Planning.{here}
use Rattle.runs.proofs.Walking.{step_below, edge_some}
use Rattle.runs.proofs.walk.edge.Goals as goal

pub entry_of-requires : goal.entry_of-requires
entry_of-requires c =
    let at = c.args.at.now.in_page in
    omega (arith, step_below _ _ _ _ _ at, at.tabled.profile_long)

pub entry_of-requires-2 : goal.entry_of-requires-2
entry_of-requires-2 c =
    omega (arith, step_below _ _ _ _ _ c.args.at.now.in_page, c.args.at.now.in_page.tabled.profile_long, c.requires.1)

pub overflow_sub-column : goal.overflow_sub-column
overflow_sub-column c =
    let at = c.args.at.now.in_page in
    let a = c.args in
    let own = c.entry_of.ensures ∙ (here _ _ _ _ _ at).drift_read in
    let other = c.entry_of-2.ensures ∙ at.tabled.profile_is (a.e - a.less) (omega (arith, step_below _ _ _ _ _ at, c.requires.1)) in
    omega (arith, own, other, drift_rises a.at.now.tables.grid.line at.sized.sound {s = a.e - a.less} {t = a.at.now.step} (omega (arith, c.requires.1)))

pub returns : goal.returns
returns c =
    let at = c.args.at.now.in_page in
    let a = c.args in
    let own = c.entry_of.ensures ∙ (here _ _ _ _ _ at).drift_read in
    let other = c.entry_of-2.ensures ∙ at.tabled.profile_is (a.e - a.less) (omega (arith, step_below _ _ _ _ _ at, c.requires.1)) in
    let column = c.min.ensures ∙ ap₂ (λ (p q : ℕ). min (p - q) a.hi) own other in
    subst (EdgeAt a.at.now.tables.grid a.at.now.row a.at.now.step a.e a.less a.hi) (sym column) (edge_some _ _ _ _ _ at a.e a.less a.hi (omega arith) c.requires.1 c.requires.0)
