-- `pgm::scan::starts_with` meets its contract. Assumes nothing.
use mathlib.Core.Path.{sym, ◌∙◌}
use native.Mathlib.Omega.{arith}
use lib.ListN.{get_or}
use Rattle.std.proofs.lemmas.Bool.{le-ltb}
use Rattle.pgm.proofs.Scans.{starts_some, starts_none}
use Rattle.pgm.proofs.scan.starts_with.Goals as goal
use Rattle.pgm.proofs.scan.starts_with.Goals.{then-at-file, else-at-file}

pub returns : goal.returns
returns g c =
    λ test computes.
    let file = c.args.file.now in
    let at = c.args.at in
    elim c.if-at-file.branch [
      | then-at-file w ↦
          w.result-is
          ∙ computes.is (get_or file at 0) w.kind.result (omega (arith, c.type_inv.file at)) w.kind.ensures
          ∙ sym (starts_some _ _ c.requires.stands test (omega arith))
      | else-at-file w ↦
          w.result-is ∙ le-ltb _ _ (omega arith) ∙ sym (starts_none _ _ c.requires.stands test (omega arith))
    ]
