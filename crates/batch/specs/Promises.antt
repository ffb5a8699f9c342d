-- What the functions below the call promise one another. Nothing here is needed to read what a call does (Call).
-- Assumes nothing.
use Rattle.std.specs.Prelude.{◌≡◌, List, ℕ}
use Rattle.refusal.specs.Answer.{Answer}
use Rattle.std.proofs.lemmas.List.Edits.{sets}
use Rattle.listing.specs.declared.Listed.{Listed}
use Rattle.batch.specs.Batch.{Lent, Trays, single_answer, after_job, trays_after}
use Rattle.batch.specs.Call.{told_from}

-- one job of a list, run on the trays as they are
pub record RanOne (tickets source : List ℕ) (job : Listed) (before after : Trays) (given : Answer) : Type 0 where
  pub answered_is : given ≡ single_answer tickets source job before
  pub left_is : after ≡ after_job tickets source job before

-- all jobs of a list, their answers stored from the first number on
pub record RanJobs (count : ℕ) (l : Lent) (answers : List ℕ) (after : Trays) (stored : List ℕ) : Type 0 where
  pub left_is : after ≡ trays_after l count
  pub stored_is : stored ≡ sets answers 0 (told_from l 0 count)
