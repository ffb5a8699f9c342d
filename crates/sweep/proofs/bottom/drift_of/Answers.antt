-- `sweep::bottom::drift_of` meets its contract: the profile at the row's step. Assumes nothing.
use mathlib.Core.Path.{◌∙◌}
use native.Mathlib.Omega.{arith}
use Rattle.runs.proofs.Planning.{here}
use Rattle.sweep.proofs.bottom.drift_of.Goals as goal

pub entry_of-requires : goal.entry_of-requires
entry_of-requires c =
    let at = c.args.at.now.in_page in
    omega (arith, (here _ _ _ _ _ at).step_below, at.tabled.profile_long)

pub returns : goal.returns
returns c = c.entry_of.ensures ∙ (here _ _ _ _ _ c.args.at.now.in_page).drift_read
