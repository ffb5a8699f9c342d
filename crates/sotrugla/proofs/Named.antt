-- What the job promises, said of the numbers that it was given. Assumes nothing.
use mathlib.Core.Path.{◌≡◌, ap, ◌∙◌}
use Rattle.refusal.specs.Answer.{Answer}
use mathlib.Core.List.{List}
use Prim.Native.Nat.{ℕ}
use Rattle.job.specs.Job.{lengths, answer, output_after, scratch_after}
use Rattle.placement.specs.declared.Placements.{Placements}
use Rattle.showing.specs.Outcome.{outcome_of}
use Rattle.showing.specs.declared.Outcome.{Outcome}

pub told :
    (ticket : List ℕ) (p q : Placements) (source output scratch after used : List ℕ) (given : Answer) (said : Outcome) → p ≡ q
    → (given ≡ answer ticket p (lengths source output scratch))
    × ((after ≡ output_after ticket p source output scratch) × (used ≡ scratch_after ticket p source output scratch))
    → said ≡ outcome_of given
    → (said ≡ outcome_of (answer ticket q (lengths source output scratch)))
    × ((after ≡ output_after ticket q source output scratch) × (used ≡ scratch_after ticket q source output scratch))
told ticket p q source output scratch after used given said same ran is = (
  is ∙ ap outcome_of (ran.0 ∙ ap (λ (x : Placements). answer ticket x (lengths source output scratch)) same),
  (
    ran.1.0 ∙ ap (λ (x : Placements). output_after ticket x source output scratch) same,
    ran.1.1 ∙ ap (λ (x : Placements). scratch_after ticket x source output scratch) same,
  ),
)
