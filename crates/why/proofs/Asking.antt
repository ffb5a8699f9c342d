-- What is told of a pixel, by the reading of the ticket and the judging of the job. Assumes nothing.
use mathlib.Core.Path.{◌≡◌, refl, sym, ap, ap₂, ◌∙◌}
use mathlib.Core.Bool.{true, and-eq-true_iff}
use mathlib.Core.List.{List}
use Prim.Native.Nat.{ℕ}
use borrow.Author.Tests.{ltb-true}
use lib.Dec.{ltb}
use lib.ListN.{length}
use Rattle.std.specs.Prelude.{Result, Ok, Err}
use Rattle.refusal.specs.Answer.{Answer, is_done, giving}
use Rattle.refusal.specs.Chain.{◌then◌, then_on, then_done, then_err, unless_done, giving_on, giving_err, ok_done}
use Rattle.refusal.specs.declared.Later.TheVariants.{PixelOffPage}
use Rattle.refusal.specs.declared.Refusal.TheVariants.{Later}
use Rattle.refusal.specs.declared.Refused.{Refused}
use Rattle.ticket.specs.Judging.{judged}
use Rattle.ticket.specs.Laws.{Bytes, read_good, read_refused, read_allowed}
use Rattle.ticket.specs.Reading.{shown, reading}
use Rattle.ticket.specs.declared.Ticket.{Ticket}
use Rattle.placement.specs.Placement.{source_page}
use Rattle.placement.specs.declared.Placement.{Placement}
use Rattle.placement.specs.declared.Placements.{Placements}
use Rattle.judging.specs.Judging.{judge_places}
use Rattle.judging.specs.Laws.{stands}
use Rattle.nearby.specs.declared.Pixel.{Pixel}
use Rattle.why.specs.Reason.{reason_of}
use Rattle.why.specs.Told.{judge_pixel, why_answer, lengths_of, told}
use Rattle.why.specs.Promises.{Asked}
use Rattle.why.specs.declared.Reason.{Reason}

module _ (ticket : List ℕ) (p : Placements) (source : List ℕ) (output scratch : ℕ) (at : Pixel) where
  -- what refuses the whole is told
  refused_as : {refused : Refused} {given : Result Reason Refused}
      → why_answer ticket p (lengths_of source output scratch) at ≡ Err refused
      → given ≡ Err refused
      → given ≡ told ticket p source output scratch at
  unfolding told
  refused_as whole given_is =
      given_is
      ∙ sym
      (ap (λ (a : Answer). giving a (reason_of (shown ticket) (source_page p) source at)) whole ∙ giving_err _ _)

  -- the ticket is refused
  pub ticket_refused : {refused : Refused} {given : Result Reason Refused} → reading ticket ≡ Err refused
      → given ≡ Err refused
      → given ≡ told ticket p source output scratch at
  unfolding why_answer
  ticket_refused {refused} is = refused_as (rw (read_refused ticket refused is, then_err) refl)

  module _ {t : Ticket} (is : reading ticket ≡ Ok t) where
    good : (is_done (judged ticket) ≡ true) × (shown ticket ≡ t)
    good = read_good ticket t is

    behind :
        why_answer ticket p (lengths_of source output scratch) at
        ≡ (judge_places t p (lengths_of source output scratch) then judge_pixel p at)
    unfolding why_answer
    behind =
        then_on (judged ticket) _ good.0
        ∙ ap (λ (q : Ticket). judge_places q p (lengths_of source output scratch) then judge_pixel p at) good.1

    -- the job and the pixel, of which the first refusal counts
    module _ {places pixel first : Answer} (places_is : places ≡ judge_places t p (lengths_of source output scratch))
        (pixel_is : pixel ≡ judge_pixel p at) (first_is : first ≡ (places then pixel)) where
      whole : why_answer ticket p (lengths_of source output scratch) at ≡ first
      whole = behind ∙ ap₂ ◌then◌ (sym places_is) (sym pixel_is) ∙ sym first_is

      pub job_refused : {refused : Refused} {given : Result Reason Refused} → first ≡ Err refused
          → given ≡ Err refused
          → given ≡ told ticket p source output scratch at
      job_refused was = refused_as (whole ∙ was)

      -- nothing is refused: the pixel is one of the page, and the page stands in its tray
      module _ {none : ℕ} (on : first ≡ Ok none) {from : Placement} (from_is : from ≡ source_page p) where
        both_done : (is_done places ≡ true) × (is_done pixel ≡ true)
        both_done = then_done places pixel (ap is_done (sym first_is ∙ on) ∙ ok_done none)

        pub asked : Bytes ticket → Asked t from (length source) at
        unfolding judge_pixel source_page
        asked bytes =
            let sides =
            (and-eq-true_iff (ltb at.column p.width) (ltb at.row p.height)).0
            (unless_done _ (Later PixelOffPage) 0 (ap is_done (sym pixel_is) ∙ both_done.1)) in
            let stand =
            stands t p (lengths_of source output scratch) (ap is_done (sym places_is) ∙ both_done.0) in
            rw from_is
            (record {
              ticket = read_allowed ticket t bytes is;
              placed = stand.from;
              column_in = ltb-true _ _ sides.0;
              row_in = ltb-true _ _ sides.1;
            })

        pub reason_told : {reason : Reason} → reason ≡ reason_of t from source at
            → ◌≡◌ {A = Result Reason Refused} (Ok reason) (told ticket p source output scratch at)
        unfolding told
        reason_told reason_is =
            let answer : Answer = why_answer ticket p (lengths_of source output scratch) at in
            let done : is_done answer ≡ true = ap is_done (whole ∙ on) ∙ ok_done none in
            ap Ok
            (reason_is ∙ ap₂ (λ (q : Ticket) (r : Placement). reason_of q r source at) (sym good.1) from_is)
            ∙ sym (giving_on answer (reason_of (shown ticket) (source_page p) source at) done)
