-- From judgements that are done to the filter, and from what it leaves to what the job promises. Assumes nothing.
use mathlib.Core.Path.{◌≡◌, refl, sym, ap, ◌∙◌, subst}
use mathlib.Core.List.{List}
use mathlib.Core.Logic.{by_cases}
use Prim.Native.Nat.{ℕ, ◌+◌, ◌*◌, ◌≤◌}
use native.Mathlib.Nat.{mul-le-mul_right}
use native.Mathlib.Decide.{dec_lt}
use native.Mathlib.Omega.{arith}
use lib.ListN.{length, get_or}
use lib.Seq.{ext_get_or}
use Rattle.std.specs.Prelude.{Ok, Err}
use Rattle.refusal.specs.Answer.{when_done, Answer, done_with}
use Rattle.refusal.specs.Chain.{then_on, then_err, then_ok, handed_on}
use Rattle.refusal.specs.declared.Refused.{Refused}
use Rattle.ticket.specs.Judging.{judged}
use Rattle.ticket.specs.Laws.{read_good, read_refused}
use Rattle.ticket.specs.Reading.{shown, reading}
use Rattle.ticket.specs.declared.Ticket.{Ticket}
use Rattle.boxes.specs.Boxes.{boxes_of}
use Rattle.hiding.specs.Hiding.{BoxesLie}
use Rattle.placement.specs.Placement.{source_page, output_page, scratch_needed}
use Rattle.placement.proofs.Laws.{scratch_pages}
use Rattle.placement.specs.declared.Placement.{Placement}
use Rattle.placement.specs.declared.Placements.{Placements}
use Rattle.tray.specs.Laws.{length_cleared, cleared_below, cleared_above}
use Rattle.tray.specs.Written.{written, cleared}
use Rattle.filter.specs.Engine.{layout_of}
use Rattle.filter.specs.Filters.{recipe_boxes}
use Rattle.filter.specs.Promises.{Fits, Filtered}
use Rattle.filter.specs.declared.Recipe.{Recipe}
use Rattle.job.specs.Order.{recipe_of, white}
use Rattle.judging.specs.Pages.{pages_of}
use Rattle.judging.specs.Judging.{judge_places}
use Rattle.job.specs.Job.{finished_with, finished, job_work, answer, lengths, output_after, scratch_after}
use Rattle.judging.specs.Pages.{job_scratch}
use Rattle.job.specs.Finishing.{Unrefused, Finished, RanRead}
use Rattle.judging.specs.Laws.{Stands, stands, pages_least}
use Rattle.judging.specs.declared.Lengths.{Lengths}
use Rattle.job.proofs.Orders.{segment_fair}

-- ---- the scratch that is used

pub needed_as :
    (t : Ticket) (p : Placements) (pages n : ℕ) → pages ≡ pages_of t → n ≡ scratch_needed pages p.width p.height
    → n ≡ scratch_needed (pages_of t) p.width p.height
needed_as t p pages n ep en = en ∙ ap (λ (k : ℕ). scratch_needed k p.width p.height) ep

-- ---- what the filter asks

module _ (t : Ticket) (p : Placements) (source output scratch : ℕ) (free : Unrefused t p source output scratch) where
  abbrev sizes : Lengths
  sizes = record { source = source; output = output; scratch = scratch }

  all_stands : Stands t p sizes
  all_stands = stands t p sizes free.places

  pub sides_most : (p.width ≤ 8192) × (p.height ≤ 8192)
  unfolding source_page
  sides_most = (all_stands.from.width_most, all_stands.from.height_most)

  two_pages : p.width * p.height + p.width * p.height ≤ scratch
  unfolding job_scratch
  two_pages =
      omega (
        arith,
        all_stands.room,
        scratch_pages (pages_of t) p.width p.height,
        mul-le-mul_right (p.width * p.height) (pages_least t),
      )

  pub used_room : (n : ℕ) → n ≡ scratch_needed (pages_of t) p.width p.height → n ≤ scratch
  unfolding job_scratch
  used_room n e = omega (arith, all_stands.room)

  module _ (white : ℕ) where
    boxes_lie : BoxesLie (recipe_boxes (recipe_of t white)) (layout_of (recipe_of t white) p.width p.height)
    unfolding source_page recipe_boxes recipe_of boxes_of
    boxes_lie =
        let from = all_stands.from in
        record {
          wide = from.width_least;
          high = from.height_least;
          width_most = from.width_most;
          height_most = from.height_most;
          each = all_stands.boxes;
        }

    fits_so : Fits (recipe_of t white) (source_page p) (output_page p) source output scratch
    unfolding source_page output_page recipe_of
    fits_so =
        record {
          enters =
              record {
                segment = segment_fair t free.ticket;
                count_most = free.ticket.count_to;
                boxes = boxes_lie;
                from_tray = all_stands.from;
                room = two_pages;
              };
          to_tray = all_stands.to;
          same_width = refl;
          same_height = refl;
        }

    pub fits_all :
        (how : Recipe) (from to : Placement) → how ≡ recipe_of t white → from ≡ source_page p → to ≡ output_page p
        → Fits how from to source output scratch
    fits_all how from to eh ef et =
        subst (λ (h : Recipe). Fits h from to source output scratch) (sym eh)
        (subst (λ (f : Placement). Fits (recipe_of t white) f to source output scratch) (sym ef)
        (subst (λ (g : Placement). Fits (recipe_of t white) (source_page p) g source output scratch) (sym et) fits_so))

-- ---- what it leaves

-- clearing forgets what the cleared bytes held
cleared_same :
    (n : ℕ) (a b : List ℕ) → length a ≡ length b → n ≤ length b → ((i : ℕ) → n ≤ i → get_or a i 0 ≡ get_or b i 0)
    → cleared n a ≡ cleared n b
cleared_same n a b size room rest =
    ext_get_or 0 (cleared n a) (cleared n b) (length_cleared n a (omega arith) ∙ size ∙ sym (length_cleared n b room))
    (λ i h.
    by_cases (dec_lt i n)
    (λ low. cleared_below n a i low ∙ sym (cleared_below n b i low))
    (λ high. cleared_above n a i (omega arith) ∙ rest i (omega arith) ∙ sym (cleared_above n b i (omega arith))))

module _ (t : Ticket) (white : ℕ) (p : Placements) (source output scratch after mid used : List ℕ) (work : ℕ) where
  finished_so :
      Unrefused t p (length source) (length output) (length scratch)
      → Filtered (recipe_of t white) (source_page p) (output_page p) source output scratch after mid work
      → used ≡ cleared (job_scratch t p) mid
      → Finished t white p source output scratch after used work
  unfolding finished_with job_work recipe_of source_page job_scratch
  finished_so free done clear =
      record {
        written_is = done.written_is;
        used_is =
            clear
            ∙ cleared_same (job_scratch t p) mid scratch done.same_length
            (used_room t p _ _ _ free (job_scratch t p) refl)
            (λ i h. done.rest i (room_past i h));
        work_is = done.work_is;
      }
    where
      room_past : (i : ℕ) → job_scratch t p ≤ i → p.width * p.height + p.width * p.height ≤ i
      room_past i h =
          omega (
            arith,
            scratch_pages (pages_of t) p.width p.height,
            mul-le-mul_right (p.width * p.height) (pages_least t),
          )

  pub finished_all :
      Unrefused t p (length source) (length output) (length scratch)
      → (how : Recipe) (from to : Placement) (n : ℕ) → how ≡ recipe_of t white
      → from ≡ source_page p → to ≡ output_page p → n ≡ scratch_needed (pages_of t) p.width p.height
      → Filtered how from to source output scratch after mid work → used ≡ cleared n mid
      → Finished t white p source output scratch after used work
  unfolding job_scratch
  finished_all free how from to n eh ef et en done clear =
      finished_so free
      (subst (λ (h : Recipe). Filtered h (source_page p) (output_page p) source output scratch after mid work) eh
      (subst (λ (f : Placement). Filtered how f (output_page p) source output scratch after mid work) ef
      (subst (λ (g : Placement). Filtered how from g source output scratch after mid work) et done)))
      (clear ∙ ap (λ (k : ℕ). cleared k mid) en)

-- ---- the job of a ticket that was read

module _ (t : Ticket) (white : ℕ) (p : Placements) (source output scratch : List ℕ) {judged : Answer}
    (is : judged ≡ judge_places t p (lengths source output scratch)) where
  pub ran_refused : {given : Answer} {refused : Refused} → judged ≡ Err refused → given ≡ Err refused
      → RanRead t white p source output scratch output scratch given
  unfolding when_done
  ran_refused was told =
      record {
        answered = rw (told, ← is, was, then_err) refl;
        written_is = rw told refl;
        used_is = rw told refl;
      }

  pub ran_done :
      {passed : ℕ} → judged ≡ Ok passed → (after used : List ℕ) (work : ℕ)
      → Finished t white p source output scratch after used work
      → RanRead t white p source output scratch after used (done_with work)
  unfolding when_done
  ran_done was after used work done =
      record {
        answered = rw (← is, was, then_ok) (ap done_with done.work_is);
        written_is = done.written_is;
        used_is = done.used_is;
      }

-- ---- the job

-- a ticket that is refused
module _ (ticket : List ℕ) (p : Placements) where
  pub unread_answer : (n : Lengths) (refused : Refused) → reading ticket ≡ Err refused → answer ticket p n ≡ Err refused
  unfolding answer
  unread_answer n refused is = rw (read_refused ticket refused is, then_err) refl

  module _ (source output scratch : List ℕ) (refused : Refused) (is : reading ticket ≡ Err refused) where
    pub unread_output : output_after ticket p source output scratch ≡ output
    unfolding output_after when_done
    unread_output = rw (unread_answer (lengths source output scratch) refused is) refl

    pub unread_scratch : scratch_after ticket p source output scratch ≡ scratch
    unfolding scratch_after when_done
    unread_scratch = rw (unread_answer (lengths source output scratch) refused is) refl

-- what `job::run` needs of it, in whatever form the code hands the refusal on
pub ruleset unread = (unread_answer, unread_output, unread_scratch, handed_on)

-- one that is read
module _ (ticket : List ℕ) (p : Placements) (source output scratch : List ℕ) {t : Ticket} (after used : List ℕ)
    (given : Answer) (done : RanRead t white p source output scratch after used given)
    (is : reading ticket ≡ Ok t) where
  mine : RanRead (shown ticket) white p source output scratch after used given
  mine =
      subst (λ (q : Ticket). RanRead q white p source output scratch after used given)
      (sym (read_good ticket t is).1) done

  read_whole : given ≡ answer ticket p (lengths source output scratch)
  unfolding answer
  read_whole = mine.answered ∙ sym (then_on (judged ticket) _ (read_good ticket t is).0)

  pub job_read :
      (given ≡ answer ticket p (lengths source output scratch))
      × ((after ≡ output_after ticket p source output scratch)
      × (used ≡ scratch_after ticket p source output scratch))
  unfolding output_after scratch_after
  job_read = (
    read_whole,
    (
      mine.written_is
          ∙ ap
          (λ (a : Answer).
          when_done a (written (output_page p) (finished (shown ticket) (source_page p) source) output) output)
          read_whole,
      mine.used_is
          ∙ ap (λ (a : Answer). when_done a (cleared (job_scratch (shown ticket) p) scratch) scratch) read_whole,
    ),
  )
