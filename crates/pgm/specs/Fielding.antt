-- What the functions that read a header promise one another.
-- Assumes nothing.
use Rattle.std.specs.Prelude.{◌≡◌, ℕ, List, Result, Ok, Err}
use Rattle.refusal.specs.Answer.{Answer, done_with, giving}
use Rattle.refusal.specs.Chain.{◌then◌}
use Rattle.refusal.specs.declared.Refused.{Refused}
use Rattle.pgm.specs.Bytes.{Byte, first_place}
use Rattle.pgm.specs.Header.{digits, number_in, behind_number, judge_header, judge_maximum}
use Rattle.pgm.specs.Reading.{told, header_in}
use Rattle.pgm.specs.Scanning.{Stands}
use Rattle.pgm.specs.declared.Header.{Header}
use Rattle.pgm.specs.declared.fields.Field.{Field}

-- a number behind white space: the number, its first digit, and where the bytes behind it stand
pub record IsField (file : List ℕ) (bytes : List Byte) (f : Field) : Type 0 where
  pub number : f.number ≡ told (number_in bytes)
  pub first : f.first ≡ first_place file (digits bytes)
  pub end : Stands file (behind_number bytes) f.end

-- a field that is read where nothing is refused of what is judged, else the refusal
abbrev pub FieldRead : Answer → List ℕ → List Byte → Result Field Refused → Type 0
FieldRead judged file bytes (Ok f) = (judged ≡ done_with 0) × IsField file bytes f
FieldRead judged file bytes (Err refused) = judged ≡ Err refused

-- what is read of a file, its pixels being unread
abbrev pub header_read : List ℕ → Result Header Refused
header_read file = giving (judge_header file then judge_maximum file) (header_in file)
