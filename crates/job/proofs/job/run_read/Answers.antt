-- `job::job::run_read` meets its contract: judged, then finished. Assumes nothing.
use mathlib.Core.Path.{refl, sym, ap, ◌∙◌}
use native.Mathlib.Omega.{arith}
use Rattle.refusal.specs.Answer.{is_done}
use Rattle.refusal.specs.Chain.{handed_on, ok_done}
use Rattle.boxes.specs.Boxes.{boxes_of}
use Rattle.job.proofs.Running.{ran_refused, ran_done}
use Rattle.job.proofs.job.run_read.Goals as goal

pub slice_bounds-judge-end : goal.slice_bounds-judge-end
slice_bounds-judge-end c = omega (arith, c.requires.count_to, c.requires.places)

pub returns-in_err-judge : goal.returns-in_err-judge
unfolding boxes_of
returns-in_err-judge c =
    ran_refused _ _ _ _ _ _ (c.judge.ensures c.args.t refl) c.in_err-judge.was (handed_on c.from_residual.ensures.1)

pub finish-work-requires : goal.finish-work-requires
unfolding boxes_of
finish-work-requires c =
    record {
      ticket = c.requires;
      places = ap is_done (sym (c.judge.ensures c.args.t refl) ∙ c.in_ok-judge.was) ∙ ok_done _;
    }

pub returns : goal.returns
unfolding boxes_of
returns c = ran_done _ _ _ _ _ _ (c.judge.ensures c.args.t refl) c.in_ok-judge.was _ _ _ c.finish-work.ensures
