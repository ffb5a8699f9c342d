-- `extreme::first_pass` meets its contract. Assumes nothing.
use Rattle.std.proofs.Common.{ℕ, ◌-◌, ◌∙◌, ap, arith, drop, take}
use Rattle.finding.proofs.Laws.{first_absent, first_window}
use Rattle.finding.proofs.extreme.first_pass.Goals as goal

pub returns-in-None : goal.returns-in-None
returns-in-None c = first_absent _ _ _ c.in-None.is

pub returns-in-Some : goal.returns-in-Some
returns-in-Some c =
    let from : ℕ = c.args.i - c.args.s.back in
    let window = ap (λ (n : ℕ). take n (drop from c.args.row.now)) (omega arith) in
    c.extreme_of.ensures ∙ first_window _ _ _ _ c.requires c.in-Some.is _ window
