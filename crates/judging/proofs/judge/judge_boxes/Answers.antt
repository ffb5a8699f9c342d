-- `judging::judge::judge_boxes` meets its contract: 14 at the first box that is not allowed. Assumes nothing.
use mathlib.Core.Path.{sym, ap, ◌∙◌}
use native.Mathlib.Nat.{zero-add}
use native.Mathlib.Omega.{arith}
use Rattle.refusal.specs.Answer.{refused_at}
use Rattle.refusal.specs.declared.Refusal.TheVariants.{BadBox}
use Rattle.boxes.specs.First.{found_some, found_none}
use Rattle.judging.specs.Judging.{judge_page_boxes}
use Rattle.judging.proofs.Boxes.{refused, first_refused, none_refused}
use Rattle.judging.proofs.judge.judge_boxes.Goals as goal

pub returns-in-Some : goal.returns-in-Some
unfolding judge_page_boxes
returns-in-Some c =
    let a = c.args in
    let boxes = a.boxes.now in
    let found =
    found_some (refused a.width a.height) boxes c.in-Some.first (sym c.first_refused.ensures ∙ c.in-Some.is) in
    ap (refused_at BadBox) (sym found.0 ∙ sym (zero-add _))
    ∙ sym (first_refused a.width a.height 0 boxes (omega (arith, found.0, found.1)))

pub returns-in-None : goal.returns-in-None
unfolding judge_page_boxes
returns-in-None c =
    let a = c.args in
    let boxes = a.boxes.now in
    let none = found_none (refused a.width a.height) boxes (sym c.first_refused.ensures ∙ c.in-None.is) in
    sym (none_refused a.width a.height 0 boxes (omega (arith, none)))
