-- From the job of what was read to the job on a file. Assumes nothing.
use mathlib.Core.Path.{◌≡◌, sym, ◌∙◌}
use mathlib.Core.List.{List}
use Prim.Native.Nat.{ℕ}
use Rattle.std.specs.Prelude.{Result, Ok, Err}
use Rattle.refusal.specs.Answer.{when_done, Answer, giving}
use Rattle.refusal.specs.Chain.{◌then◌, then_on, given, not_given}
use Rattle.refusal.specs.declared.Refused.{Refused}
use Rattle.ticket.specs.Judging.{judged}
use Rattle.ticket.specs.Reading.{shown, reading}
use Rattle.ticket.specs.declared.Ticket.{Ticket}
use Rattle.pgm.specs.Reading as pgm
use Rattle.pgm.specs.declared.Header.{Header}
use Rattle.job.specs.Job.{lengths}
use Rattle.file.specs.Delivering.{answer_for, Delivered}
use Rattle.file.specs.FileJob.{header, file_page, file_answer, with_length, delivery}
use Rattle.file.specs.FileJob.{file_output_after, file_scratch_after}
use Rattle.file.specs.declared.Finished.{Finished}
use Rattle.file.proofs.Alone.{header_is}

module _ (ticket file output scratch : List ℕ) where
  abbrev answer : Answer
  answer = file_answer ticket file (lengths file output scratch)

  -- what the job on a file promises
  pub record Promised (told : Result Finished Refused) (after used : List ℕ) : Type 0 where
    pub answered : told ≡ delivery ticket file (lengths file output scratch)
    pub written : after ≡ file_output_after ticket file output scratch
    pub cleared : used ≡ file_scratch_after ticket file output scratch

  refused : {e : Refused} {told : Result Finished Refused} → answer ≡ Err e → told ≡ Err e
      → Promised told output scratch
  unfolding delivery file_output_after file_scratch_after with_length giving when_done
  refused is so = record { answered = rw is so; written = rw is; cleared = rw is }

  pub ticket_refused : {e : Refused} {told : Result Finished Refused} → reading ticket ≡ Err e → told ≡ Err e
      → Promised told output scratch
  unfolding reading file_answer ◌then◌
  ticket_refused r so = refused (rw (not_given (judged ticket) (shown ticket) _ r)) so

  module _ {t : Ticket} (r : reading ticket ≡ Ok t) where
    ticket_good : (behind : Answer) → (judged ticket then behind) ≡ behind
    unfolding reading
    ticket_good behind = then_on (judged ticket) behind (given (judged ticket) (shown ticket) t r).0

    ticket_is : t ≡ shown ticket
    unfolding reading
    ticket_is = sym (given (judged ticket) (shown ticket) t r).1

    pub file_refused : {e : Refused} {told : Result Finished Refused} → pgm.reading file ≡ Err e → told ≡ Err e
        → Promised told output scratch
    unfolding pgm.reading file_answer ◌then◌
    file_refused f so =
        refused (ticket_good _ ∙ rw (not_given (pgm.judged file) (pgm.header_in file) _ f)) so

    module _ {h : Header} (f : pgm.reading file ≡ Ok h) where
      answer_is : answer ≡ answer_for (shown ticket) (header file) (lengths file output scratch)
      unfolding pgm.reading file_answer answer_for
      answer_is =
          let good = (given (pgm.judged file) (pgm.header_in file) h f).0 in
          ticket_good _ ∙ then_on (pgm.judged file) _ good

      pub file_delivered : {told : Result Finished Refused} {after used : List ℕ}
          → Delivered t h file output scratch after used told
          → Promised told after used
      unfolding delivery file_output_after file_scratch_after file_page
      file_delivered {told} {after} {used} d =
          let mine : Delivered (shown ticket) (header file) file output scratch after used told =
          rw (← ticket_is, ← header_is file f) d in
          record {
            answered = rw answer_is mine.answered;
            written = rw answer_is mine.written_is;
            cleared = rw answer_is mine.used_is;
          }
