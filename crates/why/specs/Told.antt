-- What is told of a pixel, for every ticket, placement, length and pixel. Document 02, wish 4: "Refusals: 19, pixel off
-- the page, after 14, place 0." 12 and 13 are judged by the lengths, as for the job. Nothing is lent to be written.
-- Assumes nothing.
use Rattle.std.specs.Prelude.{ℕ, ◌&&◌, List, ltb, length, Result, Ok, Err}
use Rattle.refusal.specs.Answer.{Answer, giving}
use Rattle.refusal.specs.Chain.{unless, ◌then◌}
use Rattle.refusal.specs.declared.Later.TheVariants.{PixelOffPage}
use Rattle.refusal.specs.declared.Refusal.TheVariants.{Later}
use Rattle.refusal.specs.declared.Refused.{Refused}
use Rattle.ticket.specs.Judging.{judged}
use Rattle.ticket.specs.Reading.{shown}
use Rattle.placement.specs.Placement.{source_page}
use Rattle.placement.specs.declared.Placements.{Placements}
use Rattle.judging.specs.Judging.{judge_places}
use Rattle.judging.specs.declared.Lengths.{Lengths}
use Rattle.nearby.specs.declared.Pixel.{Pixel}
use Rattle.why.specs.Reason.{no_reason, reason_of}
use Rattle.why.specs.declared.Reason.{Reason}

-- | 19 | pixel off the page | 0 |
unfoldable pub judge_pixel : Placements → Pixel → Answer
judge_pixel p at = unless (ltb at.column p.width && ltb at.row p.height) (Later PixelOffPage) 0

-- refusals 1 to 9, then 10 to 14, then 19; the ticket, the placements, the lengths and the pixel alone decide
unfoldable pub why_answer : List ℕ → Placements → Lengths → Pixel → Answer
why_answer ticket p n at = judged ticket then judge_places (shown ticket) p n then judge_pixel p at

abbrev pub lengths_of : List ℕ → ℕ → ℕ → Lengths
lengths_of source output scratch = record { source = length source; output = output; scratch = scratch }

-- what is told: the reason, or the refusal
unfoldable pub told : List ℕ → Placements → List ℕ → ℕ → ℕ → Pixel → Result Reason Refused
told ticket p source output scratch at =
    giving (why_answer ticket p (lengths_of source output scratch) at) (reason_of (shown ticket) (source_page p) source at)

-- "no reason" with a refusal
unfoldable pub reason_told : Result Reason Refused → Reason
reason_told (Ok reason) = reason
reason_told (Err refused) = no_reason
