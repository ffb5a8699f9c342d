-- `hits::first_hit` meets its contract. The invariants: no place before `through` gives the grey after the first pass,
-- and no place of its window before `from` has it. Neither loop runs to its end: the result is given somewhere, and
-- where it is given it stands in the window.
-- Assumes nothing.
use Rattle.std.proofs.Common.{◌≡◌, sym, ◌∙◌, arith, false, eqb, IsSome}
use Rattle.std.specs.Option.{option_eq}
use Rattle.std.proofs.lemmas.Bool.{not-false, not-true}
use borrow.Author.Count.{below_more}
use Rattle.finding.specs.Row.{first_pass}
use Rattle.finding.proofs.Laws.{same_value}
use Rattle.finding.proofs.Ending.{window_ended, search_ended, hit_found}
use Rattle.finding.proofs.hits.first_hit.Goals as goal

pub loop-through-init : goal.loop-through-init
loop-through-init c = λ k below from. absurd (omega arith)

pub loop-through-preserved-then-ne : goal.loop-through-preserved-then-ne
loop-through-preserved-then-ne c =
    let i = c.loop-through.through in
    let other : option_eq eqb (first_pass c.args.s c.args.row.now i) c.result_of-grey.result ≡ false =
    not-true _ (sym (rw c.first_pass.ensures at c.ne.ensures) ∙ c.if-ne.true) in
    below_more _ _ c.loop-through.invariant (λ from. other)

pub loop-from-init : goal.loop-from-init
loop-from-init c = λ k below from. absurd (omega arith)

pub loop-from-preserved : goal.loop-from-preserved
loop-from-preserved c =
    below_more _ _ c.loop-from.invariant (λ from. sym c.eq.ensures ∙ c.if-eq.false)

pub loop-through-preserved : goal.loop-through-preserved
loop-through-preserved c =
    let given = c.result_of-grey.ensures in
    let there : IsSome c.result_of-grey.result = rw given c.requires.row_bound in
    let gives = not-false _ (sym c.ne.ensures ∙ c.if-ne.false) in
    absurd
    (window_ended c.args.s c.args.row.now _ _ there (sym c.first_pass.ensures ∙ same_value _ _ gives)
    (λ k below from. c.loop-from.invariant k (omega arith) from))

pub unreachable-requires : goal.unreachable-requires
unreachable-requires c =
    search_ended c.args.s c.args.row.now _ c.requires.row_bound c.result_of-grey.ensures
    (λ k below from. c.loop-through.invariant k (omega arith) from)

pub returns : goal.returns
returns c =
    let gives = not-false _ (sym (rw c.first_pass.ensures at c.ne.ensures) ∙ c.if-ne.false) in
    hit_found c.args.s c.args.row.now _ _ _ c.result_of-grey.ensures (omega arith) (omega arith)
    c.loop-through.invariant gives (omega arith) (omega arith) c.loop-from.invariant (sym c.eq.ensures ∙ c.if-eq.true)
