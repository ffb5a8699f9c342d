-- Why a pixel came out so: the numbers that the exported function gives.
-- Assumes nothing.
use Rattle.std.specs.Prelude.{Result, Ok, Err}
use Rattle.refusal.specs.Refusal.{refusal_number}
use Rattle.refusal.specs.declared.Refused.{Refused}
use Rattle.why.specs.declared.Reason.{Reason}
use Rattle.sotrugla.specs.declared.reasons.Why.{Why}

-- {refusal, place, kind, box, phase, through_column, through_row, from_column, from_row}
abbrev pub why_of : Result Reason Refused → Why
why_of (Ok reason) =
    record {
      refusal = 0;
      place = 0;
      kind = reason.kind;
      number = reason.number;
      phase = reason.phase;
      through_column = reason.through.column;
      through_row = reason.through.row;
      from_column = reason.from.column;
      from_row = reason.from.row;
    }
why_of (Err refused) =
    record {
      refusal = refusal_number refused.refusal;
      place = refused.at;
      kind = 0;
      number = 0;
      phase = 0;
      through_column = 0;
      through_row = 0;
      from_column = 0;
      from_row = 0;
    }
