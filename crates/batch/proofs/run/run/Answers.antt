-- `batch::run::run` meets its contract: the list judged, its jobs run, their answers stored. Assumes nothing.
use native.Mathlib.Omega.{arith}
use Rattle.batch.proofs.Running.{answers_short, too_many, numbers_short, all_called}
use Rattle.batch.proofs.run.run.Goals as goal

pub returns-then-answers-lt-ANSWERS : goal.returns-then-answers-lt-ANSWERS
returns-then-answers-lt-ANSWERS c =
    let whole = answers_short _ _ _ (omega (arith, c.if-answers-lt-ANSWERS.true)) in
    record { answered = whole.answered; written = whole.written; cleared = whole.cleared; told = whole.told }

pub returns-then-count-gt-MOST_JOBS : goal.returns-then-count-gt-MOST_JOBS
returns-then-count-gt-MOST_JOBS c =
    let whole = too_many _ _ _ (omega arith) _ (omega arith) c.clear.ensures in
    record { answered = whole.answered; written = whole.written; cleared = whole.cleared; told = whole.told }

pub returns-then-jobs-needed : goal.returns-then-jobs-needed
returns-then-jobs-needed c =
    let whole = numbers_short _ _ _ (omega arith) (omega arith) (omega arith) in
    record { answered = whole.answered; written = whole.written; cleared = whole.cleared; told = whole.told }

pub returns : goal.returns
returns c =
    let whole =
    all_called _ _ _ (omega arith) _ _ _ (omega arith) (omega arith) c.clear-2.ensures c.run_jobs.ensures in
    record { answered = whole.answered; written = whole.written; cleared = whole.cleared; told = whole.told }
