-- What others may use of a question, with its definitions left shut: when it is answered, what is told, and which of
-- the reasons. What the named steps are stands in Named.
-- Assumes nothing.
use Rattle.std.specs.Prelude.{◌≡◌, true, false, ◌&&◌, ◌⊎◌, List, ℕ, ◌≤◌, ◌<◌, Err, Ok}
use Rattle.std.proofs.Math.Path.{refl, ap}
use Rattle.std.proofs.Common.{◌∙◌}
use Rattle.std.proofs.Math.Bool.{Bool, cond, and-false, and-eq-true_iff}
use Rattle.std.proofs.Math.Logic.{⊎_elim}
use borrow.Author.Tests.{lt-ltb, le-ltb, ltb-true}
use Rattle.std.proofs.Math.Dec.{ltb}
use Rattle.refusal.specs.Answer.{is_done, Answer, done_with, refused_at, giving, answer_in}
use Rattle.refusal.specs.Chain.{unless, ◌then◌, then_on, then_done, unless_done, giving_on, giving_stop, giving_err, given_answer}
use Rattle.refusal.specs.Chain.{unless_no_work, then_no_work}
use Rattle.refusal.specs.declared.Later.TheVariants.{PixelOffPage}
use Rattle.refusal.specs.declared.Refusal.{Refusal}
use Rattle.refusal.specs.declared.Refusal.TheVariants.{Later}
use Rattle.ticket.specs.Judging.{judged}
use Rattle.ticket.specs.Reading.{shown}
use Rattle.ticket.specs.declared.HiddenBox.{HiddenBox}
use Rattle.ticket.specs.declared.Ticket.{Ticket}
use Rattle.boxes.specs.Boxes.{covers, hidden, boxes_of}
use Rattle.boxes.specs.First.{first_of}
use Rattle.placement.specs.Placement.{source_page}
use Rattle.placement.specs.declared.Placement.{Placement}
use Rattle.placement.specs.declared.Placements.{Placements}
use Rattle.judging.specs.Judging.{judge_places}
use Rattle.judging.specs.declared.Lengths.{Lengths}
use Rattle.job.specs.Job.{answer, job_work}
use Rattle.job.specs.Laws.{finished_job}
use Rattle.nearby.specs.declared.Pixel.{Pixel}
use Rattle.why.specs.Reason.{hidden_box, without_steps, no_reason, by_box, by_steps, reason_of}
use Rattle.why.specs.Told.{judge_pixel, why_answer, lengths_of, told, reason_told}

-- ---- the answer

chained_refused :
    (a b c : Answer) (work : ℕ) (refusal : Refusal) (place : ℕ) → (a then b then done_with work) ≡ refused_at refusal place
    → (a then b then c) ≡ refused_at refusal place
unfolding ◌then◌
chained_refused (Ok x) (Ok y) c work refusal place e = cc
chained_refused (Ok x) (Err refused) c work refusal place e = e
chained_refused (Err refused) b c work refusal place e = e

module _ (ticket : List ℕ) (p : Placements) (n : Lengths) (at : Pixel) where
  -- what refuses the job refuses the question,
  pub why_refused : (refusal : Refusal) (place : ℕ) → answer ticket p n ≡ refused_at refusal place
      → why_answer ticket p n at ≡ refused_at refusal place
  unfolding answer why_answer
  why_refused refusal place e = chained_refused (judged ticket) (judge_places (shown ticket) p n) _ _ refusal place e

  -- and where the job is finished only the pixel is left to judge
  pub why_judged : (work : ℕ) → answer ticket p n ≡ done_with work → why_answer ticket p n at ≡ judge_pixel p at
  unfolding why_answer
  why_judged work e =
      let job = finished_job ticket p n work e in
      then_on (judged ticket) _ job.read ∙ then_on (judge_places (shown ticket) p n) _ job.placed

  -- a question that is answered is of a job that is finished, and of a pixel of its page
  pub record Answered : Type 0 where
    pub work : ℕ
    pub job : answer ticket p n ≡ done_with work
    pub column : at.column < p.width
    pub row : at.row < p.height

  pub why_answered : is_done (why_answer ticket p n at) ≡ true → Answered
  unfolding why_answer answer judge_pixel
  why_answered done =
      let from-ticket = then_done (judged ticket) _ done in
      let from_Places = then_done (judge_places (shown ticket) p n) (judge_pixel p at) from-ticket.1 in
      let column : Bool = ltb at.column p.width in
      let row : Bool = ltb at.row p.height in
      let sides =
      (and-eq-true_iff column row).0 (unless_done (column && row) (Later PixelOffPage) 0 from_Places.1) in
      record {
        work = job_work (shown ticket) p.width p.height;
        job = then_on (judged ticket) _ from-ticket.0 ∙ then_on (judge_places (shown ticket) p n) _ from_Places.0;
        column = ltb-true _ _ sides.0;
        row = ltb-true _ _ sides.1;
      }

-- the pixel is judged by the page's sides
module _ (p : Placements) (at : Pixel) where
  pub pixel_on : at.column < p.width → at.row < p.height → judge_pixel p at ≡ done_with 0
  unfolding judge_pixel unless
  pixel_on column row = rw (lt-ltb at.column p.width column, lt-ltb at.row p.height row) refl

  pub pixel_off :
      (p.width ≤ at.column) ⊎ (p.height ≤ at.row) → judge_pixel p at ≡ refused_at (Later PixelOffPage) 0
  unfolding judge_pixel unless
  pixel_off off =
      ⊎_elim
      (λ h. ap (λ (b : Bool). unless (b && ltb at.row p.height) (Later PixelOffPage) 0) (le-ltb _ _ h))
      (λ h.
      ap (λ (b : Bool). unless (ltb at.column p.width && b) (Later PixelOffPage) 0) (le-ltb _ _ h)
      ∙ ap (λ (b : Bool). unless b (Later PixelOffPage) 0) (and-false (ltb at.column p.width)))
      off

-- ---- what is told

module _ (ticket : List ℕ) (p : Placements) (source : List ℕ) (output scratch : ℕ) (at : Pixel) where
  pub told_answer :
      answer_in (told ticket p source output scratch at) ≡ why_answer ticket p (lengths_of source output scratch) at
  unfolding told why_answer judge_pixel
  told_answer =
      let pixel = unless_no_work (ltb at.column p.width && ltb at.row p.height) (Later PixelOffPage) 0 in
      given_answer _ _ (then_no_work (judged ticket) _ (then_no_work (judge_places (shown ticket) p _) _ pixel))

  -- with a refusal no reason
  pub told_refused :
      is_done (why_answer ticket p (lengths_of source output scratch) at) ≡ false
      → told ticket p source output scratch at
      ≡ giving (why_answer ticket p (lengths_of source output scratch) at) no_reason
  unfolding told
  told_refused refused = giving_stop _ _ no_reason refused

  pub told_refusal : (refusal : Refusal) (place : ℕ)
      → why_answer ticket p (lengths_of source output scratch) at ≡ refused_at refusal place
      → told ticket p source output scratch at ≡ Err (record { refusal = refusal; at = place })
  unfolding told
  told_refusal refusal place e =
      ap (λ (a : Answer). giving a (reason_of (shown ticket) (source_page p) source at)) e ∙ giving_err _ _

  -- with none the reason
  pub told_ok :
      is_done (why_answer ticket p (lengths_of source output scratch) at) ≡ true
      → told ticket p source output scratch at ≡ Ok (reason_of (shown ticket) (source_page p) source at)
  unfolding told
  told_ok done = giving_on _ (reason_of (shown ticket) (source_page p) source at) done

  pub told_done :
      is_done (why_answer ticket p (lengths_of source output scratch) at) ≡ true
      → reason_told (told ticket p source output scratch at) ≡ reason_of (shown ticket) (source_page p) source at
  unfolding reason_told
  told_done done = ap reason_told (told_ok done)

-- ---- which reason

module _ (t : Ticket) (p : Placement) (tray : List ℕ) (at : Pixel) where
  pub reason_box : hidden (boxes_of t) at.column at.row ≡ true → reason_of t p tray at ≡ by_box t at
  unfolding reason_of
  reason_box e = ap (λ (b : Bool). cond b (by_box t at) (by_steps t p tray at)) e

  pub reason_steps : hidden (boxes_of t) at.column at.row ≡ false → reason_of t p tray at ≡ by_steps t p tray at
  unfolding reason_of
  reason_steps e = ap (λ (b : Bool). cond b (by_box t at) (by_steps t p tray at)) e

-- a box is named by its number
pub box_is : (t : Ticket) (at : Pixel) → by_box t at ≡ without_steps hidden_box (by_box t at).number
unfolding by_box without_steps
box_is t at = refl

pub box_number : (t : Ticket) (at : Pixel)
    → (by_box t at).number ≡ first_of (λ (b : HiddenBox). covers b at.column at.row) (boxes_of t)
unfolding by_box without_steps
box_number t at = refl
