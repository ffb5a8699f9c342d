-- An answer, as the numbers that a host reads.
-- Assumes nothing.
use Rattle.refusal.specs.Answer.{number_of, place_of, work_in, Answer}
use Rattle.showing.specs.declared.Outcome.{Outcome}

-- the refusal's number, 0 for what is done; its place; the work
abbrev pub outcome_of : Answer → Outcome
outcome_of a = record { refusal = number_of a; place = place_of a; work = work_in a }
