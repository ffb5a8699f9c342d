-- A search in a row that has the values near a pixel: its first passes, its result and its hits, by these values.
-- Assumes nothing.
use mathlib.Core.Path.{◌≡◌, refl, ap, ◌∙◌}
use mathlib.Core.Bool.{not}
use mathlib.Core.List.{List}
use mathlib.Core.Option.{Option, none, some}
use Rattle.std.specs.Prelude.{Some, Option as Value}
use Rattle.std.specs.Option.{option_eq}
use Prim.Native.Nat.{ℕ, ◌-◌, ◌<◌}
use native.Mathlib.Omega.{arith}
use lib.Dec.{eqb}
use lib.ListN.{length, get_or}
use Rattle.geometry.specs.Drift.{first}
use Rattle.filter.specs.Filters.{extreme}
use Rattle.filter.proofs.Laws.{extreme_same}
use Rattle.finding.specs.Row.{absent, grey_in, value_of, in_row, pass_at_place, pass_in, first_pass, result_of}
use Rattle.finding.specs.Row.{through_of, from_of}
use Rattle.finding.specs.Promises.{Lies, Fits}
use Rattle.finding.proofs.Laws.{grey_value, fits_lies, first_same}
use Rattle.finding.specs.declared.Search.{Search}
use Rattle.why.specs.Reason.{has}

-- a value is w where its number is
pub value_has : (w : ℕ) (o : Option ℕ) → option_eq eqb (value_of o) (Some w) ≡ has w o
unfolding value_of has
value_has w none = refl
value_has w (some v) = refl

module _ (s : Search) (row : List (Value ℕ)) (value : ℕ → Option ℕ)
    (same : (i : ℕ) → i < length row → get_or row i absent ≡ value_of (value i)) where
  -- the first pass of the search, over the values
  abbrev passed : ℕ → Option ℕ
  passed = pass_in s.low s.back s.length value

  in_row_lem : (i : ℕ) → i < length row → in_row row i ≡ value i
  unfolding in_row
  in_row_lem i within = ap grey_in (same i within) ∙ grey_value (value i)

  by_value :
      (i : ℕ) → Lies s (length row) i → (o : Option ℕ)
      → pass_at_place s.low s.back s.length (in_row row) i o
      ≡ pass_at_place s.low s.back s.length value i o
  unfolding pass_at_place
  by_value i lies none = refl
  by_value i lies (some v) =
      extreme_same s.low (in_row row) value (i - s.back) s.length
      (λ q from to. in_row_lem q (omega (arith, lies.begins, lies.ends)))

  pub pass_same :
      (i : ℕ) → Lies s (length row) i → pass_in s.low s.back s.length (in_row row) i ≡ passed i
  unfolding pass_in
  pass_same i lies =
      ap (pass_at_place s.low s.back s.length (in_row row) i)
      (in_row_lem i (omega (arith, lies.ends, lies.inside)))
      ∙ by_value i lies (value i)

  module _ (fits : Fits s (length row)) where
    pub result_same : result_of s row ≡ value_of (extreme (not s.low) passed s.from s.steps)
    unfolding result_of
    result_same =
        ap value_of
        (extreme_same (not s.low) _ passed s.from s.steps
        (λ q from to. pass_same q (fits_lies s (length row) q fits from to)))

    pub through_same :
        (w : ℕ) → through_of s row (Some w) ≡ first (λ i. has w (passed i)) s.from s.steps
    unfolding through_of first_pass
    through_same w =
        first_same _ _ s.from s.steps
        (λ q from to.
        ap (λ (o : Option ℕ). option_eq eqb (value_of o) (Some w))
        (pass_same q (fits_lies s (length row) q fits from to))
        ∙ value_has w (passed q))

  pub from_same :
      (w i : ℕ) → Lies s (length row) i
      → from_of s row (Some w) i ≡ first (λ j. has w (value j)) (i - s.back) s.length
  unfolding from_of
  from_same w i lies =
      first_same _ _ (i - s.back) s.length
      (λ q from to.
      ap (λ (v : Value ℕ). option_eq eqb v (Some w)) (same q (omega (arith, lies.begins, lies.ends)))
      ∙ value_has w (value q))
