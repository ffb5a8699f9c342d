-- The exact reach, of the job: a job that nothing refuses puts the finished page into the output tray, and the two
-- pages that differ in one pixel are answered alike.
-- Assumes nothing.
use mathlib.Core.Path.{◌≡◌, sym, ap, ◌∙◌}
use Rattle.refusal.specs.Answer.{done_with}
use mathlib.Core.List.{List}
use Prim.Native.Nat.{ℕ, ◌<◌}
use lib.ListN.{length}
use Rattle.ticket.specs.Reading.{shown}
use Rattle.placement.specs.Placement.{pixel_in, source_page, output_page}
use Rattle.placement.specs.declared.Placements.{Placements}
use Rattle.job.specs.Order.{white}
use Rattle.job.specs.Job.{finished, answer, lengths, output_after}
use Rattle.job.specs.Laws.{finished_stands, finished_allowed, output_pixel}
use Rattle.judging.specs.declared.Lengths.{Lengths}
use Rattle.demands.specs.Exact.{ExactJobReach}
use Rattle.demands.proofs.Same.{same_lengths}
use Rattle.demands.proofs.Exact.{exact_reach}

module _ (ticket : List ℕ) (p : Placements) (n : Lengths) (work c r : ℕ) (done : answer ticket p n ≡ done_with work)
    (c_in : c < p.width) (r_in : r < p.height) where
  -- a job with trays of these lengths puts out the finished page
  output_at :
      (source out scratch : List ℕ) → length source ≡ n.source → length out ≡ n.output → length scratch ≡ n.scratch
      → pixel_in (output_after ticket p source out scratch) (output_page p) c r
      ≡ finished (shown ticket) (source_page p) source c r
  output_at source out scratch s o x =
      let also : answer ticket p (lengths source out scratch) ≡ done_with work =
      ap (answer ticket p) (same_lengths (lengths source out scratch) n s o x) ∙ done in
      output_pixel ticket p source out scratch work also c r c_in r_in

pub exact_job_reach : ExactJobReach
unfolding source_page
exact_job_reach ticket p n work c r bytes done operation clear c' r' near =
    let x =
    exact_reach (shown ticket) (source_page p) n.source c r (finished_allowed ticket p n work bytes done) operation
    (finished_stands ticket p n work done).from
    clear
    c'
    r'
    near in
    let at = output_at ticket p n work c r done clear.column clear.row in
    record {
      pages = x;
      outputs_differ =
          λ out out' scratch scratch' o o' k k' e.
          x.results_differ white
          (sym (at x.one out scratch x.one_length o k) ∙ e ∙ at x.two out' scratch' x.two_length o' k');
    }
