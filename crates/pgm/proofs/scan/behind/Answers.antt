-- `pgm::scan::behind` meets its contract: behind the run from here on is what is behind the whole run. Assumes nothing.
use mathlib.Core.Path.{refl, sym, ap, ◌∙◌}
use native.Mathlib.Omega.{arith}
use mathlib.Core.List.{List}
use lib.ListN.{get_or}
use Rattle.pgm.specs.Bytes.{Byte, behind}
use Rattle.pgm.proofs.Scans.{here, stands_for, run_on, run_over, run_ended}
use Rattle.pgm.proofs.scan.behind.Goals as goal
use Rattle.pgm.proofs.scan.behind.Goals.{then-loop-k-test+else-kind, else-loop-k-test}

pub loop-k-init : goal.loop-k-init
loop-k-init g c = (c.requires.stands, λ test computes. refl)

pub loop-k-preserved : goal.loop-k-preserved
loop-k-preserved g c =
    let l = c.loop-k in
    let file = c.args.file.now in
    let next = c.next-k.ensures.stands in (
      here next,
      λ test computes.
          let is = computes.is (get_or file l.k 0) c.kind.result (omega (arith, c.type_inv.file l.k)) c.kind.ensures in
          let on = run_on _ _ l.invariant.0 test (omega arith) (sym is ∙ c.if-kind.true) in
          ap (λ (bytes : List Byte). behind test bytes) next.rest ∙ sym on ∙ l.invariant.1 test computes,
    )

pub returns : goal.returns
returns g c =
    λ test computes.
    let l = c.loop-k in
    let file = c.args.file.now in
    let all = l.invariant.1 test computes in
    elim c.loop-k-test.branch [
      | then-loop-k-test+else-kind w ↦
          let is = computes.is (get_or file l.k 0) w.kind.result (omega (arith, c.type_inv.file l.k)) w.kind.ensures in
          let over = run_over _ _ l.invariant.0 test (omega arith) (sym is ∙ w.if-kind.false) in
          stands_for l.invariant.0 (sym over ∙ all)
      | else-loop-k-test w ↦
          stands_for l.invariant.0 (sym (run_ended _ _ l.invariant.0 test (omega arith)) ∙ all)
    ]
