-- From what the job of a read ticket leaves to what the job on a file promises. Assumes nothing.
use mathlib.Core.Path.{◌≡◌, sym, ap, ◌∙◌, subst}
use mathlib.Core.List.{List, ◌++◌}
use Prim.Native.Nat.{ℕ, ◌+◌, ◌*◌, ◌≤◌}
use native.Mathlib.Omega.{arith}
use lib.ListN.{length, drop}
use Rattle.std.specs.Prelude.{Result, Ok, Err}
use Rattle.refusal.specs.Answer.{is_done, when_done, work_in, Answer, giving}
use Rattle.refusal.specs.Chain.{then_done}
use Rattle.refusal.specs.declared.Refused.{Refused}
use Rattle.ticket.specs.declared.Ticket.{Ticket}
use Rattle.placement.specs.Placement.{Placed, source_page, output_page}
use Rattle.placement.specs.declared.Placements.{Placements}
use Rattle.tray.specs.Laws.{length_written}
use Rattle.tray.specs.Written.{written}
use Rattle.heading.specs.Writing.{header_of}
use Rattle.pgm.specs.declared.Header.{Header}
use Rattle.job.specs.Finishing.{RanRead}
use Rattle.job.specs.Job.{finished_with, lengths}
use Rattle.judging.specs.Judging.{judge_places}
use Rattle.judging.specs.Laws.{stands}
use Rattle.file.specs.Delivering.{answer_for, Delivered}
use Rattle.file.specs.FileJob.{with_length}
use Rattle.file.proofs.Laws.{rows_end}
use Rattle.file.specs.Places.{header_for, places_of, file_length, headed}
use Rattle.file.specs.declared.Finished.{Finished}

module _ (t : Ticket) (h : Header) (file output scratch mid used : List ℕ) (given : Answer) (p : Placements)
    (places : p ≡ places_of h) (ran-there : RanRead t h.maximum p file output scratch mid used given) where
  ran : RanRead t h.maximum (places_of h) file output scratch mid used given
  ran = subst (λ (q : Placements). RanRead t h.maximum q file output scratch mid used given) places ran-there

  answered_so : given ≡ answer_for t h (lengths file output scratch)
  unfolding answer_for places_of
  answered_so = ran.answered

  abbrev page : List ℕ
  page = written (output_page (places_of h)) (finished_with h.maximum t (source_page (places_of h)) file) output

  pub deliver_refused : {e : Refused} {told : Result Finished Refused} → given ≡ Err e → told ≡ Err e
      → Delivered t h file output scratch mid used told
  unfolding with_length giving when_done
  deliver_refused g so =
      let answer = sym answered_so ∙ g in
      record {
        answered = rw answer so;
        written_is = rw answer (rw g at ran.written_is);
        used_is = rw answer (rw g at ran.used_is);
      }

  module _ {work : ℕ} (g : given ≡ Ok work) where
    placed : Placed (output_page (places_of h)) (length output)
    unfolding is_done
    placed =
        let places-judged = judge_places t (places_of h) (lengths file output scratch) in
        let done = (then_done places-judged _ (ap is_done (sym ran.answered ∙ g))).0 in
        (stands t (places_of h) (lengths file output scratch) done).to

    page_is : mid ≡ page
    unfolding when_done
    page_is = rw g at ran.written_is

    same_length : length mid ≡ length output
    same_length = ap length page_is ∙ length_written _ _ output

    -- the file that is written fits
    pub file_room : length (header_for h) + h.width * h.height ≤ length output
    unfolding output_page places_of
    file_room =
        omega (arith, rows_end (length (header_for h)) h.width h.height placed.height_least, placed.fitting)

    pub header_room : length (header_of h.width h.height h.maximum) ≤ length mid
    unfolding header_for
    header_room = omega (arith, file_room, same_length)

    offset_is : p.output.offset ≡ length (header_for h)
    unfolding places_of
    offset_is = ap (λ (q : Placements). q.output.offset) places

    pub sum_room : p.output.offset + h.width * h.height ≤ length output
    sum_room = omega (arith, file_room, offset_is)

    pub delivered : {after : List ℕ}
        → after
        ≡ header_of h.width h.height h.maximum
        ++ drop (length (header_of h.width h.height h.maximum)) mid
        → Delivered t h file output scratch after used
        (Ok (record { work = work; length = p.output.offset + h.width * h.height }))
    unfolding headed header_for file_length with_length giving when_done work_in
    delivered so =
        let answer = sym answered_so ∙ g in
        record {
          answered = rw (answer, offset_is);
          written_is = rw answer (so ∙ ap (headed (header_for h)) page_is);
          used_is = rw answer (rw g at ran.used_is);
        }
