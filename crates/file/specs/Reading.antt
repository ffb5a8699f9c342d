-- A P5 file alone, as a caller may read it: "15, 16, 17, then 10 at 0; zeros at a refusal".
-- Assumes nothing.
use Rattle.std.specs.Prelude.{List, ℕ, Result}
use Rattle.refusal.specs.Answer.{Answer, giving}
use Rattle.refusal.specs.Chain.{◌then◌}
use Rattle.refusal.specs.declared.Refused.{Refused}
use Rattle.pgm.specs.Reading.{judged, header_in}
use Rattle.pgm.specs.declared.Header.{Header}
use Rattle.judging.specs.Judging.{judge_sides}
use Rattle.file.specs.Places.{places_of}

-- "a zero side has no pixels and meets 10"
unfoldable pub judged_alone : List ℕ → Answer
judged_alone file = judged file then judge_sides (places_of (header_in file))

unfoldable pub reading_alone : List ℕ → Result Header Refused
reading_alone file = giving (judged_alone file) (header_in file)
