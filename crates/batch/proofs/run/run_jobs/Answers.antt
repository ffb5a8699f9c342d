-- `batch::run::run_jobs` meets its contract: after k turns the trays are as after k jobs, and what is stored and still
-- to be stored are all answers. Assumes nothing.
use native.Mathlib.Omega.{arith}
use borrow.Author.Rules.{rules}
use Rattle.batch.proofs.Running.{none_run, one_more, all_run}
use Rattle.batch.proofs.run.run_jobs.Goals as goal

pub run_one-a-requires : goal.run_one-a-requires
run_one-a-requires c =
    omega (arith, c.requires.0)

pub put-requires : goal.put-requires
put-requires c =
    omega (arith, c.requires.1, c.loop-k.invariant.stored_long, c.loop-k-test.true)

pub loop-k-preserved : goal.loop-k-preserved
loop-k-preserved c =
    let loop = c.loop-k in
    one_more _ _ _ loop.k _ _ _ _ _ c.loop-k-test.true loop.invariant (search rules) (search rules)
    c.run_one-a.ensures c.put.ensures

pub returns : goal.returns
returns c = all_run _ _ _ c.loop-k.k _ _ (omega arith) c.loop-k.invariant

pub loop-k-init : goal.loop-k-init
loop-k-init c = none_run _ _ _

pub shape_of-output : goal.shape_of-output
shape_of-output c = c.loop-k.invariant.output_long

pub shape_of-scratch : goal.shape_of-scratch
shape_of-scratch c = c.loop-k.invariant.scratch_long

pub shape_of-answers : goal.shape_of-answers
shape_of-answers c = c.loop-k.invariant.stored_long
