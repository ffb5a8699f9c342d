-- The proof of every statement of specs/: it is found in the file that its `use` line names.
-- Assumes nothing.
use Rattle.demands.specs.Demands.{Demands}
use Rattle.demands.proofs.Same as same
use Rattle.demands.proofs.Untouched as untouched
use Rattle.demands.proofs.Work as work
use Rattle.demands.proofs.Near as near
use Rattle.demands.proofs.Reach as reaching
use Rattle.demands.proofs.ExactTrays as trays
use Rattle.demands.proofs.Exact as exact
use Rattle.demands.proofs.ExactJob as job
use Rattle.demands.proofs.Flip as flip
use Rattle.demands.proofs.FlipJob as flips
use Rattle.demands.proofs.Files as files
use Rattle.demands.proofs.ExactFiles as exactly
use Rattle.demands.proofs.Lists as lists
use Rattle.demands.proofs.ListAnswers as told
use Rattle.demands.proofs.WhyAnswers as asked
use Rattle.demands.proofs.Why as why
use Rattle.demands.proofs.WhyReach as nearby

pub demands : Demands
demands =
    record {
      output_kept = untouched.output_kept;
      output_length = untouched.output_length;
      scratch_kept = untouched.scratch_kept;
      scratch_length = untouched.scratch_length;
      scratch_zero = untouched.scratch_zero;
      refused_output = untouched.refused_output;
      refused_scratch = untouched.refused_scratch;
      refused_work = untouched.refused_work;
      pass_work_lem = work.pass_work_lem;
      one_pass_work = work.one_pass_work;
      two_pass_work = work.two_pass_work;
      finished_work = work.finished_work;
      finished_one_pass = work.finished_one_pass;
      finished_two_passes = work.finished_two_passes;
      same_answer = same.same_answer;
      same_number = same.same_number;
      same_place = same.same_place;
      same_work = same.same_work;
      near_in = near.near_in;
      near_self = near.near_self;
      near_step = near.near_step;
      near_back = near.near_back;
      reach = reaching.reach;
      page_alone = reaching.page_alone;
      hidden_white = reaching.hidden_white;
      clear_steps = trays.clear_steps;
      exact_reach = exact.exact_reach;
      exact_job_reach = job.exact_job_reach;
      flipped_page = flip.flipped_page;
      flipped_work = flip.flipped_work;
      flipped_answer = flips.flipped_answer;
      flipped_job = flips.flipped_job;
      flipped_job_work = flips.flipped_job_work;
      flipped_file = flips.flipped_file;
      flipped_file_work = flips.flipped_file_work;
      flipped_vector = flips.flipped_vector;
      flipped_boxes = flips.flipped_boxes;
      flipped_back = flips.flipped_back;
      level_line = flips.level_line;
      file_output_kept = files.file_output_kept;
      file_output_length = files.file_output_length;
      file_scratch_kept = files.file_scratch_kept;
      file_scratch_length = files.file_scratch_length;
      file_scratch_zero = files.file_scratch_zero;
      file_refused_output = files.file_refused_output;
      file_refused_scratch = files.file_refused_scratch;
      file_refused_work = files.file_refused_work;
      file_reads_back = files.file_reads_back;
      file_page_back = files.file_page_back;
      file_hidden = files.file_hidden;
      file_work = files.file_work;
      file_one_pass = files.file_one_pass;
      file_same = files.file_same;
      file_reach = files.file_reach;
      file_page_alone = files.file_page_alone;
      file_exact = exactly.file_exact;
      list_single = lists.list_single;
      list_same = told.list_same;
      list_told = told.list_told;
      list_zero_past = told.list_zero_past;
      list_zero_at_18 = told.list_zero_at_18;
      list_untold_at_100 = told.list_untold_at_100;
      list_answers_kept = told.list_answers_kept;
      list_answers_length = told.list_answers_length;
      list_refused_trays = lists.list_refused_trays;
      list_refused_job = lists.list_refused_job;
      list_output_kept = lists.list_output_kept;
      list_output_length = lists.list_output_length;
      list_scratch_kept = lists.list_scratch_kept;
      list_scratch_length = lists.list_scratch_length;
      list_scratch_zero = lists.list_scratch_zero;
      list_later_wins = lists.list_later_wins;
      list_page = lists.list_page;
      list_hidden = lists.list_hidden;
      list_reach = lists.list_reach;
      list_page_alone = lists.list_page_alone;
      list_exact = lists.list_exact;
      why_refused = asked.why_refused;
      why_off_page = asked.why_off_page;
      why_nineteen = asked.why_nineteen;
      why_done = asked.why_done;
      why_box = asked.why_box;
      names_one = why.names_one;
      why_erosion = why.why_erosion;
      why_dilation = why.why_dilation;
      why_opening = why.why_opening;
      why_closing = why.why_closing;
      why_same = asked.why_same;
      why_same_refused = asked.why_same_refused;
      why_reach = nearby.why_reach;
    }
