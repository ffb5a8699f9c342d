-- Document 02, wish 4, along one line: "the first unhidden step of the second window that gives the result, then the
-- first unhidden step in that one's own window that gave it". The values along the line stand in a row, by their
-- places: a grey, or none where the pixel is absent. One pass is looked over as two are, with one place in the second
-- window.
-- Assumes nothing.
use Rattle.std.specs.Prelude.{ℕ, ◌-◌, Bool, not, List, eqb, get_or, Option, Some, None}
use Rattle.std.specs.Option.{option_eq}
use Rattle.std.proofs.Math.Option as maybe
use Rattle.std.proofs.Math.Option.{none, some}
use Rattle.geometry.specs.Drift.{first}
use Rattle.filter.specs.Filters.{extreme}
use Rattle.finding.specs.declared.Hit.{Hit}
use Rattle.finding.specs.declared.Search.{Search}

-- the value of an absent pixel
abbrev pub absent : Option ℕ
absent = None

-- what a value says, and how it is written: the code has its own options, and the filters theirs
unfoldable pub grey_in : Option ℕ → maybe.Option ℕ
grey_in None = none
grey_in (Some v) = some v

unfoldable pub value_of : maybe.Option ℕ → Option ℕ
value_of none = absent
value_of (some v) = Some v

-- what a row has at its place i; places past its end are not asked for
unfoldable pub in_row : List (Option ℕ) → ℕ → maybe.Option ℕ
in_row row i = grey_in (get_or row i absent)

-- a pass along the line: the lowest, or highest, of the window of n places that begins a places before place i; an
-- absent pixel stays absent
unfoldable pub pass_at_place : Bool → ℕ → ℕ → (ℕ → maybe.Option ℕ) → ℕ → maybe.Option ℕ → maybe.Option ℕ
pass_at_place low a n value i none = none
pass_at_place low a n value i (some v) = extreme low value (i - a) n

unfoldable pub pass_in : Bool → ℕ → ℕ → (ℕ → maybe.Option ℕ) → ℕ → maybe.Option ℕ
pass_in low a n value i = pass_at_place low a n value i (value i)

-- the first pass of a search at place i
unfoldable pub first_pass : Search → List (Option ℕ) → ℕ → Option ℕ
first_pass s row i = value_of (pass_in s.low s.back s.length (in_row row) i)

-- the result: where the first pass takes the lowest, the highest of the second window, and the reverse
unfoldable pub result_of : Search → List (Option ℕ) → Option ℕ
result_of s row =
    value_of (extreme (not s.low) (pass_in s.low s.back s.length (in_row row)) s.from s.steps)

-- the first place of the second window that gives w after the first pass
unfoldable pub through_of : Search → List (Option ℕ) → Option ℕ → ℕ
through_of s row w = first (λ i. option_eq eqb (first_pass s row i) w) s.from s.steps

-- the first place in the window of place i that has w
unfoldable pub from_of : Search → List (Option ℕ) → Option ℕ → ℕ → ℕ
from_of s row w i = first (λ j. option_eq eqb (get_or row j absent) w) (i - s.back) s.length

-- the first hit of w, and of the result
unfoldable pub hit_with : Search → List (Option ℕ) → Option ℕ → Hit
hit_with s row w = record { through = through_of s row w; from = from_of s row w (through_of s row w) }

unfoldable pub hit_of : Search → List (Option ℕ) → Hit
hit_of s row = hit_with s row (result_of s row)
