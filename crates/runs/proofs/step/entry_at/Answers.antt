-- `runs::step::entry_at` meets its contract: where a line enters, read off the entry table. Assumes nothing.
use mathlib.Core.Path.{◌≡◌, ap, ◌∙◌}
use Prim.Native.Nat.{ℕ, ◌-◌}
use native.Mathlib.Omega.{arith}
use lib.ListN.{get_or}
use Rattle.runs.proofs.Bounds.{row, entry_zero, entry_reach}
use Rattle.runs.proofs.Planning.{pixel}
use Rattle.runs.proofs.step.entry_at.Goals as goal

pub entry_of-drift-requires : goal.entry_of-drift-requires
entry_of-drift-requires c =
    let at = pixel _ _ _ _ _ c.args.at.now.in_page _ c.requires in
    omega (arith, (row _ _ _ _ _ _ at).step_below, at.tabled.profile_long)

pub entry_of-requires : goal.entry_of-requires
entry_of-requires c =
    let at = pixel _ _ _ _ _ c.args.at.now.in_page _ c.requires in
    let r = row _ _ _ _ _ _ at in
    omega (arith, r.drift_below, r.drift_read, at.tabled.reaches_long, c.entry_of-drift.ensures)

pub returns-then-drift-x : goal.returns-then-drift-x
returns-then-drift-x c =
    let at = pixel _ _ _ _ _ c.args.at.now.in_page _ c.requires in
    let r = row _ _ _ _ _ _ at in
    entry_zero _ _ _ _ _ _ at (omega (arith, r.drift_read, c.entry_of-drift.ensures, c.if-drift-x.true))

pub returns-else-drift-x : goal.returns-else-drift-x
returns-else-drift-x c =
    let at = pixel _ _ _ _ _ c.args.at.now.in_page _ c.requires in
    let r = row _ _ _ _ _ _ at in
    let d : c.entry_of-drift.result ≡ get_or c.args.at.now.tables.profile.now c.args.at.now.step 0 = c.entry_of-drift.ensures in
    c.entry_of.ensures
    ∙ ap (λ (v : ℕ). get_or c.args.at.now.tables.reaches.now (v - c.args.x) 0) (d ∙ r.drift_read)
    ∙ entry_reach _ _ _ _ _ _ at (omega (arith, r.drift_read, d, c.if-drift-x.false))
