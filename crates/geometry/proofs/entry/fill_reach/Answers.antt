-- `entry::fill_reach` meets its contract: first entries of a line's profile are the line's reaches.
-- Assumes nothing.
use Rattle.std.proofs.Common.{arith}
use Rattle.geometry.proofs.Tables.{reach_table}
use Rattle.geometry.proofs.entry.fill_reach.Goals as goal

pub returns-clause-tabled : goal.returns-clause-tabled
returns-clause-tabled c = λ l p.
    let at = c.loop-v in
    reach_table l c.args.profile.now at.reach p (record { entry = λ v h. at.invariant.entries v (omega arith) })
