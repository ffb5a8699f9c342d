-- P5 files: the numbers that the exported functions give.
-- Assumes nothing.
use Rattle.std.specs.Prelude.{Result, Ok, Err}
use Rattle.refusal.specs.Refusal.{refusal_number}
use Rattle.refusal.specs.declared.Refused.{Refused}
use Rattle.pgm.specs.declared.Header.{Header}
use Rattle.file.specs.declared.Finished.{Finished}
use Rattle.sotrugla.specs.declared.files.PgmRead.{PgmRead}
use Rattle.sotrugla.specs.declared.files.PgmRun.{PgmRun}

-- {refusal, place, width, height, maximum, start}: "zeros at a refusal"
abbrev pub pgm_read_of : Result Header Refused → PgmRead
pgm_read_of (Ok header) =
    record {
      refusal = 0;
      place = 0;
      width = header.width;
      height = header.height;
      maximum = header.maximum;
      start = header.start;
    }
pgm_read_of (Err refused) =
    record {
      refusal = refusal_number refused.refusal;
      place = refused.at;
      width = 0;
      height = 0;
      maximum = 0;
      start = 0;
    }

-- {refusal, place, work, length}
abbrev pub pgm_run_of : Result Finished Refused → PgmRun
pgm_run_of (Ok file) =
    record { refusal = 0; place = 0; work = file.work; length = file.length }
pgm_run_of (Err refused) = record { refusal = refusal_number refused.refusal; place = refused.at; work = 0; length = 0 }
