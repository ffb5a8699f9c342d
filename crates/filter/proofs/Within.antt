-- A bound of the page's pixels bounds what a filter makes of them: no pixel comes out above the brightest.
-- Assumes nothing.
use Rattle.std.specs.Prelude.{◌≡◌, ◌&&◌, List, ℕ, ◌≤◌, ◌<◌}
use Rattle.std.proofs.Math.Path.{refl}
use Rattle.std.proofs.Math.Bool.{Bool, true, false, not, cond, and-eq-true_iff}
use Rattle.std.proofs.Math.Option.{Option, none, some, some-injective, none-ne-some}
use Rattle.std.proofs.Common.{arith, ltb-true}
use Rattle.std.proofs.lemmas.Bool.{not-true}
use Rattle.std.proofs.Math.Dec.{ltb}
use Rattle.geometry.specs.declared.Line.{Line}
use Rattle.ticket.specs.declared.HiddenBox.{HiddenBox}
use Rattle.boxes.specs.Boxes.{hidden}
use Rattle.filter.specs.Seen.{View, seen, turned, runs_steep}
use Rattle.filter.specs.Filters.{value_at, on_line, pass, eroded, dilated, opened, closed, operated, filtered}
use Rattle.filter.specs.Filters.{dilation_back}
use Rattle.filter.specs.Filters.{or_white, recipe_boxes, filtered_page}
use Rattle.filter.proofs.Laws.{pass_found}
use Rattle.ticket.specs.declared.Operation.{Operation}
use Rattle.ticket.specs.declared.Operation.TheVariants.{Erode, Dilate, Open, Close}
use Rattle.filter.specs.declared.Recipe.{Recipe}
use Rattle.filter.specs.declared.Segment.{Segment}

-- no pixel that is there is above this
unfoldable pub Within : ℕ → View → Type 0
Within most page = (M m v : ℕ) → page M m ≡ some v → v ≤ most

module _ (most : ℕ) where
  -- the page that a filter sees
  pub seen_within :
      (boxes : List HiddenBox) (width height : ℕ) (pixel : ℕ → ℕ → ℕ)
      → ((c r : ℕ) → c < width → r < height → hidden boxes c r ≡ false → pixel c r ≤ most)
      → Within most (seen boxes width height pixel)
  unfolding Within seen
  seen_within boxes width height pixel small c r v e =
      by_test ((ltb c width && ltb r height) && not (hidden boxes c r)) refl e
    where
      by_test :
          (b : Bool) → ((ltb c width && ltb r height) && not (hidden boxes c r)) ≡ b
          → cond b (some (pixel c r)) none ≡ some v
          → v ≤ most
      by_test true test there =
          let both = (and-eq-true_iff (ltb c width && ltb r height) (not (hidden boxes c r))).0 test in
          let sides = (and-eq-true_iff (ltb c width) (ltb r height)).0 both.0 in
          let bound = small c r (ltb-true _ _ sides.0) (ltb-true _ _ sides.1) (not-true _ both.1) in
          omega (arith, bound, some-injective (pixel c r) v there)
      by_test false test there = absurd (none-ne-some v there)

  turned_within : (steep : Bool) (page : View) → Within most page → Within most (turned steep page)
  unfolding Within turned
  turned_within true page small M m v e = small m M v e
  turned_within false page small M m v e = small M m v e

  value_within :
      (page : View) → Within most page → (M : ℕ) (place : Option ℕ) (v : ℕ) → value_at page M place ≡ some v → v ≤ most
  unfolding Within value_at
  value_within page small M none v e = absurd (none-ne-some v e)
  value_within page small M (some m) v e = small M m v e

  pass_within :
      (low : Bool) (l : Line) (a n : ℕ) (page : View) → Within most page → Within most (pass low l a n page)
  unfolding Within on_line
  pass_within low l a n page small M m w e =
      value_within page small _ _ w (pass_found low l a n page M m w e).there

  operated_within : (n : Operation) (s : Segment) (page : View) → Within most page → Within most (operated n s page)
  unfolding operated opened closed eroded dilated
  operated_within n s page small = by n
    where
      eroded_so : (view : View) → Within most view → Within most (eroded s view)
      eroded_so view h = pass_within true s.line s.origin s.length view h

      dilated_so : (view : View) → Within most view → Within most (dilated s view)
      dilated_so view h = pass_within false s.line (dilation_back s) s.length view h

      by : (n : Operation) → Within most (operated n s page)
      by Erode = eroded_so page small
      by Dilate = dilated_so page small
      by Open = dilated_so _ (eroded_so page small)
      by Close = eroded_so _ (dilated_so page small)

  filtered_within : (n : Operation) (s : Segment) (page : View) → Within most page → Within most (filtered n s page)
  unfolding filtered
  filtered_within n s page small =
      let steep : Bool = runs_steep s.line in
      turned_within steep _ (operated_within n s _ (turned_within steep page small))

  or_white_lem :
      (white : ℕ) → white ≤ most → (o : Option ℕ) → ((v : ℕ) → o ≡ some v → v ≤ most) → or_white white o ≤ most
  unfolding or_white
  or_white_lem white bright none small = bright
  or_white_lem white bright (some v) small = small v refl

  -- a page whose unhidden pixels are at most this, and white too, is filtered into such a page
  pub page_within :
      (how : Recipe) (width height : ℕ) (pixel : ℕ → ℕ → ℕ) → how.white ≤ most
      → ((c r : ℕ) → c < width → r < height → hidden (recipe_boxes how) c r ≡ false → pixel c r ≤ most)
      → (c r : ℕ) → filtered_page how width height pixel c r ≤ most
  unfolding Within filtered_page
  page_within how width height pixel bright small c r =
      or_white_lem how.white bright _
      (λ v e.
      filtered_within how.operation how.segment _ (seen_within (recipe_boxes how) width height pixel small) c r v
      e)
