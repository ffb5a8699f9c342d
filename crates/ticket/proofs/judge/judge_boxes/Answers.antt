-- `ticket::judge::judge_boxes` meets its contract: what is left to judge is the judgement of all. Assumes nothing.
use mathlib.Core.Path.{sym, ◌∙◌}
use native.Mathlib.Omega.{arith}
use Rattle.refusal.specs.Chain.{handed_on}
use Rattle.ticket.proofs.Boxes.{rest_over, rest_on, rest_stop, rest_none}
use Rattle.ticket.proofs.judge.judge_boxes.Goals as goal

pub returns-then-s-head : goal.returns-then-s-head
returns-then-s-head c =
    let l = c.loop-k in
    let s = c.args.s.now in
    sym (rest_over s l.head l.k (omega arith) c.if-s-head.true) ∙ l.invariant.2

pub loop-k-preserved : goal.loop-k-preserved
loop-k-preserved c =
    let l = c.loop-k in
    let next = c.field_end-head.ensures in
    let on =
    rest_on c.args.s.now l.head l.k (omega arith) c.if-s-head.false c.judge_box.ensures
    c.in_ok-judge_box.was next.ends in
    (omega arith, omega (arith, next.near), sym on ∙ l.invariant.2)

pub returns-in_err-judge_box : goal.returns-in_err-judge_box
returns-in_err-judge_box c =
    let l = c.loop-k in
    let stop =
    rest_stop c.args.s.now l.head l.k (omega arith) c.if-s-head.false c.judge_box.ensures c.in_err-judge_box.was in
    handed_on c.from_residual.ensures.1 ∙ sym stop ∙ l.invariant.2

pub returns : goal.returns
returns c =
    let l = c.loop-k in
    sym (rest_none c.args.s.now l.head l.k (omega arith)) ∙ l.invariant.2
