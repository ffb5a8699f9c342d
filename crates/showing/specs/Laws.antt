-- What those above may rely on: a ticket that was read can be shown, and what is answered and stored where its buffer
-- is too short, and where it is not.
-- Assumes nothing.
use Rattle.std.specs.Prelude.{◌≡◌, refl, true, false, List, ◌++◌, ℕ, ◌<◌, ◌≤◌, length, replicate, Ok, Err}
use Rattle.std.proofs.Math.Path.{ap}
use Rattle.std.proofs.Common.{sym, ◌∙◌, lt-ltb, le-ltb}
use Rattle.std.proofs.Math.ListN.{drop}
use Rattle.ticket.specs.Judging.{judged}
use Rattle.ticket.specs.Laws.{Bytes, good_no_work, read_good, read_refused, read_allowed}
use Rattle.ticket.specs.Reading.{reading, shown}
use Rattle.ticket.specs.declared.Ticket.{Ticket}
use Rattle.refusal.specs.Answer.{is_done, done_with, refused_at}
use Rattle.refusal.specs.Chain.{when_done_lem, when_refused}
use Rattle.refusal.specs.declared.Refused.{Refused}
use Rattle.refusal.specs.declared.Later.TheVariants.{NumbersTooFew}
use Rattle.refusal.specs.declared.Refusal.TheVariants.{Later}
use Rattle.showing.specs.Shown.{numbers_of, numbers_needed, numbers_shown, read_outcome, numbers_after, Showable}
use Rattle.showing.specs.Outcome.{outcome_of}
use Rattle.showing.specs.declared.Outcome.{Outcome}

pub read_showable : (s : List ℕ) (t : Ticket) → Bytes s → reading s ≡ Ok t → Showable t
read_showable s t bytes e =
    let a = read_allowed s t bytes e in
    record { dx_to = a.dx_to; dy_to = a.dy_to; count_to = a.count_to; places = a.places }

-- the numbers of a ticket that is read, and of one that is refused
numbers_good : (s : List ℕ) → is_done (judged s) ≡ true → numbers_shown s ≡ numbers_of (shown s)
unfolding numbers_shown
numbers_good s h = when_done_lem (judged s) (numbers_of (shown s)) (replicate numbers_needed 0) h

numbers_refused : (s : List ℕ) → is_done (judged s) ≡ false → numbers_shown s ≡ replicate numbers_needed 0
unfolding numbers_shown
numbers_refused s h = when_refused (judged s) (numbers_of (shown s)) (replicate numbers_needed 0) h

-- what is answered, and what stands in the buffer
module _ (s numbers : List ℕ) where
  pub too_short : (o : Outcome) → length numbers < numbers_needed
      → o ≡ outcome_of (refused_at (Later NumbersTooFew) numbers_needed)
      → (o ≡ read_outcome s (length numbers)) × (numbers ≡ numbers_after s numbers)
  unfolding read_outcome numbers_after
  too_short o h told = rw (lt-ltb (length numbers) numbers_needed h) (told, refl)

  pub long_enough : (o : Outcome) (after : List ℕ) → numbers_needed ≤ length numbers → o ≡ outcome_of (judged s)
      → after ≡ numbers_shown s ++ drop numbers_needed numbers
      → (o ≡ read_outcome s (length numbers)) × (after ≡ numbers_after s numbers)
  unfolding read_outcome numbers_after
  long_enough o after h told put = rw (le-ltb (length numbers) numbers_needed h) (told, put)

  -- the same as a caller meets it, who has read the ticket, or to whom it was refused
  pub read_enough : (t : Ticket) (o : Outcome) (after : List ℕ) → numbers_needed ≤ length numbers → reading s ≡ Ok t
      → o ≡ outcome_of (done_with 0)
      → after ≡ numbers_of t ++ drop numbers_needed numbers
      → (o ≡ read_outcome s (length numbers)) × (after ≡ numbers_after s numbers)
  read_enough t o after h e told put =
      let good = read_good s t e in
      long_enough o after h
      (told ∙ ap outcome_of (sym (good_no_work s good.0)))
      (put
      ∙ ap (λ (x : List ℕ). x ++ drop numbers_needed numbers)
      (sym (numbers_good s good.0 ∙ ap (λ (x : Ticket). numbers_of x) good.1)))

  pub refused_enough : (refused : Refused) (o : Outcome) (after : List ℕ) → numbers_needed ≤ length numbers
      → reading s ≡ Err refused
      → o ≡ outcome_of (Err refused)
      → after ≡ replicate numbers_needed 0 ++ drop numbers_needed numbers
      → (o ≡ read_outcome s (length numbers)) × (after ≡ numbers_after s numbers)
  unfolding is_done
  refused_enough refused o after h e told put =
      let not_good = read_refused s refused e in
      long_enough o after h
      (told ∙ ap outcome_of (sym not_good))
      (put
      ∙ ap (λ (x : List ℕ). x ++ drop numbers_needed numbers)
      (sym (numbers_refused s (ap is_done not_good))))
