-- Document 01, 'The four filters', along a segment: a line, a length L and an origin o. A page is a function with
-- nothing where a pixel is absent (Seen); a filter makes such a page of such a page, so what is absent stays absent and
-- "hidden pixels are absent in the second pass too". Up to `operated` a page is by its place M on the major axis and m
-- on the minor one, from `filtered` on by column and row.
-- Assumes nothing.
use Rattle.std.specs.Prelude.{ℕ, zero, suc, ◌+◌, ◌-◌, Bool, true, false, cond, List, leb, take}
use Rattle.std.proofs.Math.Option.{Option, none, some}
use Rattle.geometry.specs.Line.{landing, step_of, major_at}
use Rattle.geometry.specs.declared.Line.{Line}
use Rattle.runs.specs.Span.{chosen}
use Rattle.ticket.specs.declared.HiddenBox.{HiddenBox}
use Rattle.ticket.specs.declared.Operation.{Operation}
use Rattle.ticket.specs.declared.Operation.TheVariants.{Erode, Dilate, Open, Close}
use Rattle.filter.specs.Seen.{View, seen, turned, runs_steep}
use Rattle.filter.specs.declared.Recipe.{Recipe}
use Rattle.filter.specs.declared.Segment.{Segment}

-- an absent pixel does not count
unfoldable pub joined : Bool → Option ℕ → Option ℕ → Option ℕ
joined low none y = y
joined low (some x) none = some x
joined low (some x) (some y) = some (chosen low x y)

-- the lowest, or highest, of n values from the k-th on
unfoldable pub extreme : Bool → (ℕ → Option ℕ) → ℕ → ℕ → Option ℕ
extreme low value k zero = none
extreme low value k (suc n) = joined low (value k) (extreme low value (suc k) n)

-- what a page has at a place that may be none
unfoldable pub value_at : View → ℕ → Option ℕ → Option ℕ
value_at page M none = none
value_at page M (some m) = page M m

-- what the line through (M, m) has at its step s
unfoldable pub on_line : Line → View → ℕ → ℕ → ℕ → Option ℕ
on_line l page M m s = value_at page (major_at l M s) (landing l m (step_of l M) s)

-- the k-th step of the window of (M, m) that begins a steps before it: there is none before the line's step 0
unfoldable pub in_window : Line → View → ℕ → ℕ → ℕ → ℕ → Option ℕ
in_window l page a M m k = cond (leb a (step_of l M + k)) (on_line l page M m (step_of l M + k - a)) none

-- one pass: the lowest, or highest, of the window of n steps that begins a steps before each pixel; an absent pixel
-- stays absent
unfoldable pub pass_at : Bool → Line → ℕ → ℕ → View → ℕ → ℕ → Option ℕ → Option ℕ
pass_at low l a n page M m none = none
pass_at low l a n page M m (some v) = extreme low (in_window l page a M m) 0 n

unfoldable pub pass : Bool → Line → ℕ → ℕ → View → View
pass low l a n page M m = pass_at low l a n page M m (page M m)

-- "Erosion at step x is the minimum over steps x-o to x-o+L-1."
unfoldable pub eroded : Segment → View → View
eroded s page = pass true s.line s.origin s.length page

-- how far the window of a dilation begins before its pixel
unfoldable pub dilation_back : Segment → ℕ
dilation_back s = s.length - 1 - s.origin

-- "Dilation is the maximum over steps x-(L-1-o) to x+o."
unfoldable pub dilated : Segment → View → View
dilated s page = pass false s.line (dilation_back s) s.length page

-- "Opening erodes, then dilates the eroded page"
unfoldable pub opened : Segment → View → View
opened s page = dilated s (eroded s page)

-- "closing does the reverse"
unfoldable pub closed : Segment → View → View
closed s page = eroded s (dilated s page)

-- "operation: 1 erode, 2 dilate, 3 open, 4 close"
abbrev pub erosion : Operation
erosion = Erode

abbrev pub dilation : Operation
dilation = Dilate

abbrev pub opening : Operation
opening = Open

abbrev pub closing : Operation
closing = Close

-- every operation by its name
unfoldable pub operated : Operation → Segment → View → View
operated Erode s page = eroded s page
operated Dilate s page = dilated s page
operated Open s page = opened s page
operated Close s page = closed s page

-- the same, by column and row
unfoldable pub filtered : Operation → Segment → View → View
filtered n s page = turned (runs_steep s.line) (operated n s (turned (runs_steep s.line) page))

-- an absent pixel comes out as white
unfoldable pub or_white : ℕ → Option ℕ → ℕ
or_white white none = white
or_white white (some v) = v

-- the boxes of a recipe, of its 64 places
unfoldable pub recipe_boxes : Recipe → List HiddenBox
recipe_boxes how = take how.count how.boxes

-- the page that a recipe makes of the pixels of a page with these sides
unfoldable pub filtered_page : Recipe → ℕ → ℕ → (ℕ → ℕ → ℕ) → ℕ → ℕ → ℕ
filtered_page how width height pixel c r =
    or_white how.white (filtered how.operation how.segment (seen (recipe_boxes how) width height pixel) c r)
