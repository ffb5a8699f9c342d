-- How many numbers a list of jobs and its answers are, and an answer as numbers. Document 02, wish 3: "256 answers come
-- back". The document does not say how: as a row of numbers, three for each job. That is decided here.
-- Assumes nothing.
use Rattle.std.specs.Prelude.{ℕ, ◌*◌, List, ◌∷◌}
use Rattle.refusal.specs.Answer.{number_of, place_of, work_in, Answer}

-- the numbers of so many jobs, and of 256 answers
abbrev pub job_numbers : ℕ → ℕ
job_numbers count = 8 * count

abbrev pub answers_needed : ℕ
answers_needed = 768

-- an answer as three numbers: refusal, place, work
abbrev pub told : Answer → List ℕ → List ℕ
told a rest = number_of a ∷ place_of a ∷ work_in a ∷ rest
