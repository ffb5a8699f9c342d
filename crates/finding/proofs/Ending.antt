-- What ends a search: the first hit found, or places looked over to their end, which is absurd.
-- Assumes nothing.
use Rattle.std.proofs.Common.{◌≡◌, sym, ap, ap₂, ◌∙◌, arith, true, false, ℕ, ◌+◌, ◌-◌, ◌≤◌, ◌<◌, eqb}
use Rattle.std.proofs.Common.{List, get_or, Option, Some, None, IsSome}
use Rattle.std.proofs.lemmas.Bool.{false≢true}
use Rattle.std.specs.Option.{option_eq}
use Rattle.finding.specs.Row.{absent, first_pass, result_of, through_of, from_of, hit_with, hit_of}
use Rattle.finding.proofs.Laws.{first_at, value_same, found_hit, window_has}
use Rattle.finding.specs.declared.Hit.{Hit}
use Rattle.finding.specs.declared.Search.{Search}

-- none of the places looked over has the value
abbrev pub NoneBefore : (ℕ → Option ℕ) → Option ℕ → ℕ → ℕ → Type 0
NoneBefore value w from to = (k : ℕ) → k < to → from ≤ k → option_eq eqb (value k) w ≡ false

module _ (s : Search) (row : List (Option ℕ)) where
  -- a place that gives the grey has it in its window
  pub window_ended :
      (grey : Option ℕ) (through : ℕ) → IsSome grey → first_pass s row through ≡ grey
      → NoneBefore (λ j. get_or row j absent) grey (through - s.back) (through - s.back + s.length) → ⊥
  window_ended None through found gives none_has = false≢true found
  window_ended (Some w) through found gives none_has =
      let one = window_has s row w through gives in
      false≢true (sym (none_has one.at one.to one.from) ∙ value_same _ (Some w) one.there)

  -- the result is given at some place
  pub search_ended :
      (grey : Option ℕ) → IsSome (result_of s row) → grey ≡ result_of s row
      → NoneBefore (first_pass s row) grey s.from (s.from + s.steps) → ⊥
  search_ended grey found result none_has =
      let hit = found_hit s row found in
      let has = value_same _ grey (hit.gives ∙ sym result) in
      false≢true (sym (none_has _ hit.through_to hit.through_from) ∙ has)

  pub hit_found :
      (grey : Option ℕ) (through from : ℕ) → grey ≡ result_of s row → s.from ≤ through → through < s.from + s.steps
      → NoneBefore (first_pass s row) grey s.from through → option_eq eqb (first_pass s row through) grey ≡ true
      → through - s.back ≤ from → from < through - s.back + s.length
      → NoneBefore (λ j. get_or row j absent) grey (through - s.back) from
      → option_eq eqb (get_or row from absent) grey ≡ true
      → ◌≡◌ {A = Hit} (record { through = through; from = from }) (hit_of s row)
  unfolding hit_of hit_with through_of from_of
  hit_found grey through from result low high before gives first last none_has has =
      let t : through ≡ through_of s row grey =
      first_at _ _ _ through low (omega arith) (λ q from below. before q below from) (λ h. gives) in
      let f : from ≡ from_of s row grey through =
      first_at _ _ _ from first (omega arith) (λ q from below. none_has q below from) (λ h. has) in
      ap₂ (λ (i j : ℕ). record { through = i; from = j }) t (f ∙ ap (from_of s row grey) t) ∙ ap (hit_with s row) result
