-- `runs::walk::walk` meets its contract: the columns by their marks, and the others. Assumes nothing.
use mathlib.Core.Path.{◌∙◌}
use mathlib.Core.Logic.{by_cases}
use native.Mathlib.Decide.{dec_lt}
use native.Mathlib.Omega.{arith}
use Rattle.runs.proofs.Planning.{here}
use Rattle.runs.proofs.Walking.{step_below, walked_few, walked_top, top_few}
use Rattle.runs.proofs.walk.walk.Goals as goal

pub entry_of-requires : goal.entry_of-requires
entry_of-requires c =
    let at = c.args.row.now.at.in_page in
    omega (arith, step_below _ _ _ _ _ at, at.tabled.profile_long)

pub rounded-requires : goal.rounded-requires
rounded-requires c =
    let at = c.args.row.now.at.in_page in
    let planned = c.requires.0 in
    let past = c.max-drifted.ensures in
    let drifted = c.entry_of.ensures ∙ (here _ _ _ _ _ at).drift_read in
    (omega (arith, past), omega (arith, past, drifted, (here _ _ _ _ _ at).drift_below, at.sized.height_most, planned.ordered, planned.columns, at.sized.width_most))

pub side_part-side-requires-clause-near : goal.side_part-side-requires-clause-near
side_part-side-requires-clause-near c =
    let at = c.args.row.now.at.in_page in
    let ordered = c.requires.0.ordered in
    let mid = c.min-mid.ensures in
    let whole = c.rounded.ensures in
    let past = c.max-drifted.ensures in
    let drifted = c.entry_of.ensures ∙ (here _ _ _ _ _ at).drift_read in (
      omega (arith, mid, whole.0, past, ordered),
      omega (arith, mid),
      λ some.
          by_cases (dec_lt c.args.p.lo c.max-drifted.result)
          (λ side. omega (arith, mid, whole.1, past, drifted))
          (λ none. absurd (omega (arith, mid, whole.2 (omega arith)))),
    )

pub overflow_add-result : goal.overflow_add-result
overflow_add-result c =
    let planned = c.requires.0 in
    record { fits = omega (arith, walked_few _ _ _ _ _ _ _ c.side_part-side.ensures, top_few _ _ _ _ _ _ c.top_part-top.ensures, c.min-mid.ensures, planned.columns, c.args.row.now.at.in_page.sized.width_most) }

pub returns : goal.returns
returns c =
    let at = c.args.row.now.at.in_page in
    let ordered = c.requires.0.ordered in
    let mid = c.min-mid.ensures in
    let whole = c.rounded.ensures in
    let past = c.max-drifted.ensures in
    let drifted = c.entry_of.ensures ∙ (here _ _ _ _ _ at).drift_read in
    walked_top _ _ _ _ _ at _ c.requires.0 _ _ _ _ _ _ (omega (arith, mid, whole.0, past, ordered)) (omega (arith, mid)) (λ y l h. omega (arith, mid, whole.0, past, drifted)) c.side_part-side.ensures c.top_part-top.ensures
