-- Document 01, 'What answers may depend on': "Refusals, places and work: ticket bytes, placements and the three lengths
-- only."
-- Assumes nothing.
use Rattle.std.specs.Prelude.{◌≡◌, List, ℕ, length}
use Rattle.refusal.specs.Answer.{number_of, place_of, work_in}
use Rattle.placement.specs.declared.Placements.{Placements}
use Rattle.job.specs.Job.{answer, lengths}

-- the trays of two jobs have the same three lengths
pub record SameLengths (source source' out out' scratch scratch' : List ℕ) : Type 0 where
  pub sources : length source ≡ length source'
  pub outputs : length out ≡ length out'
  pub scratches : length scratch ≡ length scratch'

-- Two jobs with the same ticket and placements, and with trays of the same lengths, have the same answer, whatever the
-- trays hold.
abbrev pub SameAnswer : Type 0
SameAnswer =
    (ticket : List ℕ) (p : Placements) (source source' out out' scratch scratch' : List ℕ)
    → SameLengths source source' out out' scratch scratch'
    → answer ticket p (lengths source out scratch) ≡ answer ticket p (lengths source' out' scratch')

-- so the refusal is the same, or both finish
abbrev pub SameNumber : Type 0
SameNumber =
    (ticket : List ℕ) (p : Placements) (source source' out out' scratch scratch' : List ℕ)
    → SameLengths source source' out out' scratch scratch'
    → number_of (answer ticket p (lengths source out scratch))
    ≡ number_of (answer ticket p (lengths source' out' scratch'))

-- and its place
abbrev pub SamePlace : Type 0
SamePlace =
    (ticket : List ℕ) (p : Placements) (source source' out out' scratch scratch' : List ℕ)
    → SameLengths source source' out out' scratch scratch'
    → place_of (answer ticket p (lengths source out scratch)) ≡ place_of (answer ticket p (lengths source' out' scratch'))

-- and the work
abbrev pub SameWork : Type 0
SameWork =
    (ticket : List ℕ) (p : Placements) (source source' out out' scratch scratch' : List ℕ)
    → SameLengths source source' out out' scratch scratch'
    → work_in (answer ticket p (lengths source out scratch)) ≡ work_in (answer ticket p (lengths source' out' scratch'))
