-- `judging::judge::judge` meets its contract: sides first, then the rest in order. Assumes nothing.
use mathlib.Core.Path.{sym, ap, ap₂, ◌∙◌}
use Prim.Native.Nat.{ℕ}
use Rattle.refusal.specs.Answer.{is_done}
use Rattle.refusal.specs.Chain.{◌then◌, then_passed, then_ended, ok_done}
use Rattle.judging.specs.Judging.{judge_scratch}
use Rattle.judging.proofs.Sides.{sides_most, in_pairs}
use Rattle.judging.proofs.judge.judge.Goals as goal

pub judge_scratch-scratch-requires : goal.judge_scratch-scratch-requires
judge_scratch-scratch-requires c =
    let done = ap is_done (sym c.judge_sides.ensures ∙ c.in_ok-judge_sides.was) ∙ ok_done _ in
    let small = sides_most c.args.p done in
    (c.pages_of.ensures.few, small.0, small.1)

pub returns-in_err-judge_sides : goal.returns-in_err-judge_sides
returns-in_err-judge_sides c t is =
    then_ended _ c.in_err-judge_sides.was c.judge_sides.ensures c.from_residual.ensures.1
    ∙ in_pairs t c.args.p c.args.n c.args.boxes.now is

pub returns-in_err-first_refusal : goal.returns-in_err-first_refusal
returns-in_err-first_refusal c t is =
    let trays = c.first_refusal.ensures ∙ ap₂ ◌then◌ c.judge_source-source.ensures c.judge_output-output.ensures in
    then_passed c.in_ok-judge_sides.was c.judge_sides.ensures
    (then_ended _ c.in_err-first_refusal.was trays c.from_residual-in_err-first_refusal.ensures.1)
    ∙ in_pairs t c.args.p c.args.n c.args.boxes.now is

pub returns : goal.returns
returns c t is =
    let trays = c.first_refusal.ensures ∙ ap₂ ◌then◌ c.judge_source-source.ensures c.judge_output-output.ensures in
    let pages = c.pages_of.ensures.every_job t in
    let room = ap (λ (k : ℕ). judge_scratch k c.args.p.width c.args.p.height c.args.n.scratch) pages in
    let scratch = c.judge_scratch-scratch.ensures ∙ room in
    let rest = c.first_refusal-2.ensures ∙ ap₂ ◌then◌ scratch c.judge_boxes-boxes.ensures in
    then_passed c.in_ok-judge_sides.was c.judge_sides.ensures (then_passed c.in_ok-first_refusal.was trays rest)
    ∙ in_pairs t c.args.p c.args.n c.args.boxes.now is
