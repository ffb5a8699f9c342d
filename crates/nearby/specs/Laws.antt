-- What others may use of a row, with the definitions left shut: what a pixel on its line is, which pixel stands at a
-- place of its row, and that the page has there what the row is to have.
-- Assumes nothing.
use Rattle.std.specs.Prelude.{◌≡◌, Bool, true, false, List, ℕ, ◌+◌, ◌≤◌, ◌<◌}
use Rattle.std.proofs.Math.Path.{refl, sym, ap}
use Rattle.std.proofs.Common.{◌∙◌, arith, le-leb, lt-ltb, le-ltb}
use Rattle.std.proofs.Math.Logic.{by_cases}
use Rattle.std.proofs.Math.Option.{Option, none, some, none-ne-some}
use Rattle.std.proofs.Math.Decide.{dec_le, dec_lt}
use Rattle.std.proofs.lemmas.Bool.{lt-leb}
use Rattle.geometry.specs.Line.{landing, step_of, major_at}
use Rattle.geometry.specs.Drift.{Allowed}
use Rattle.geometry.specs.declared.Line.{Line}
use Rattle.ticket.specs.declared.HiddenBox.{HiddenBox}
use Rattle.ticket.specs.declared.Ticket.{Ticket}
use Rattle.placement.specs.Placement.{Placed}
use Rattle.placement.specs.declared.Placement.{Placement}
use Rattle.tray.specs.Turned.{down_of, across_of}
use Rattle.tray.specs.Laws.{down_in, across_in}
use Rattle.filter.specs.Seen.{View, seen, turned, runs_steep}
use Rattle.filter.specs.Axes.{turned_is}
use Rattle.filter.specs.Filters.{value_at, on_line, in_window}
use Rattle.filter.specs.Engine.{Absent}
use Rattle.filter.proofs.Absence.{absent_turned}
use Rattle.nearby.specs.Stand.{standing_of, step_in, on_side, major_in, landed, minor_in, pixel_by, pixel_in, near_at}
use Rattle.nearby.specs.Promises.{Stands, OfPage}
use Rattle.nearby.specs.declared.Pixel.{Pixel}
use Rattle.nearby.specs.declared.Standing.{Standing}

-- ---- a pixel on its line

either_most : (steep : Bool) (a b : ℕ) → a ≤ 8192 → b ≤ 8192 → (down_of steep a b ≤ 8192) × (across_of steep a b ≤ 8192)
unfolding down_of across_of
either_most true a b h k = (k, h)
either_most false a b h k = (h, k)

-- a pixel of a page within its limits stands on its line
pub standing_stands :
    (l : Line) (reach width height : ℕ) (at : Pixel) → Allowed l → reach < 8192 → width ≤ 8192 → height ≤ 8192
    → at.column < width → at.row < height → Stands (standing_of l reach width height at)
unfolding standing_of
standing_stands l reach width height at ok near wide high c_in r_in =
    let sides = either_most (runs_steep l) width height wide high in
    record {
      allowed = ok;
      steep_is = refl;
      reach_near = near;
      high_near = sides.0;
      wide_near = sides.1;
      major_in_lem = down_in (runs_steep l) at.column at.row width height c_in r_in;
      minor_in_lem = across_in (runs_steep l) at.column at.row width height c_in r_in;
    }

-- and it is of the page whose sides it was given
pub standing_page :
    (t : Ticket) (l : Line) (reach : ℕ) (at : Pixel) (p : Placement) (bytes : ℕ) → Placed p bytes → t.count ≤ 64
    → OfPage t (standing_of l reach p.width p.height at) p bytes
unfolding standing_of
standing_page t l reach at p bytes placed few =
    record { page = record { placed = placed; high_is = refl; wide_is = refl }; count_near = few }

-- ---- the places of the row on the two axes

on_side_lem : (side n : ℕ) → n < side → on_side side n ≡ n
unfolding on_side
on_side_lem side n h = rw (lt-ltb n side h)

past_side : (side n : ℕ) → side ≤ n → on_side side n ≡ side
unfolding on_side
past_side side n h = rw (le-ltb n side h)

-- a step that lands on no place of the side is at the side's end
pub landed_none : (side : ℕ) → landed side none ≡ side
unfolding landed
landed_none side = refl

pub landed_past : (side m : ℕ) → side ≤ m → landed side (some m) ≡ side
unfolding landed
landed_past side m h = past_side side m h

pub landed_on : (side m : ℕ) → m < side → landed side (some m) ≡ m
unfolding landed
landed_on side m h = on_side_lem side m h

-- the step at which the pixel stands, and where the step at place i of the row is on the two axes
abbrev own : Standing → ℕ
own s = step_of s.line s.major

abbrev along : Standing → ℕ → ℕ
along s i = major_at s.line s.major (step_in s i)

abbrev across : Standing → ℕ → Option ℕ
across s i = landing s.line s.minor (own s) (step_in s i)

module _ (s : Standing) (i : ℕ) where
  -- before the line's step 0 there is nothing
  pub major_before : step_of s.line s.major + i < s.reach → major_in s i ≡ s.high
  unfolding major_in
  major_before h = rw (lt-leb s.reach (own s + i) h)

  -- from there on it is where the step is, if that is on the page
  pub major_from :
      s.reach ≤ step_of s.line s.major + i
      → major_in s i ≡ on_side s.high (major_at s.line s.major (step_in s i))
  unfolding major_in
  major_from h = rw (le-leb s.reach (own s + i) h)

  pub major_on :
      s.reach ≤ step_of s.line s.major + i → major_at s.line s.major (step_in s i) < s.high
      → major_in s i ≡ major_at s.line s.major (step_in s i)
  major_on h k = major_from h ∙ on_side_lem s.high (along s i) k

  pub major_past :
      s.reach ≤ step_of s.line s.major + i → s.high ≤ major_at s.line s.major (step_in s i)
      → major_in s i ≡ s.high
  major_past h k = major_from h ∙ past_side s.high (along s i) k

  pub minor_is :
      minor_in s i ≡ landed s.wide (landing s.line s.minor (step_of s.line s.major) (step_in s i))
  unfolding minor_in
  minor_is = refl

  -- a place of the row that is on the page is the place of one of the line's steps
  pub record OnMajor : Type 0 where
    pub after : s.reach ≤ step_of s.line s.major + i
    pub low : major_at s.line s.major (step_in s i) < s.high
    pub is : major_in s i ≡ major_at s.line s.major (step_in s i)

  pub on_major : major_in s i < s.high → OnMajor
  on_major h =
      by_cases (dec_le s.reach (own s + i))
      (λ after.
      by_cases (dec_lt (along s i) s.high)
      (λ low. record { after = after; low = low; is = major_on after low })
      (λ past. absurd (omega (arith, major_past after (omega arith)))))
      (λ before. absurd (omega (arith, major_before (omega arith))))

  -- its pixel is by these places, and else off the page
  pub pixel_on : major_in s i < s.high → pixel_in s i ≡ pixel_by s (major_in s i) (minor_in s i)
  unfolding pixel_in
  pixel_on h = rw (lt-leb s.high (major_in s i) h)

  pub pixel_off : s.high ≤ major_in s i → pixel_in s i ≡ pixel_by s s.high s.wide
  unfolding pixel_in
  pixel_off h = rw (le-leb s.high (major_in s i) h)

-- ---- what a page has at a place of the row

-- a pixel that is there is where the line lands, on the page
pub record There (s : Standing) (view : View) (i v : ℕ) : Type 0 where
  pub after : s.reach ≤ step_of s.line s.major + i
  pub lands : landing s.line s.minor (step_of s.line s.major) (step_in s i) ≡ some (minor_in s i)
  pub major_is : major_in s i ≡ major_at s.line s.major (step_in s i)
  pub major_low : major_in s i < s.high
  pub minor_low : minor_in s i < s.wide
  pub view_has : view (major_in s i) (minor_in s i) ≡ some v
  pub pixel_is : pixel_in s i ≡ pixel_by s (major_in s i) (minor_in s i)

-- before the line's step 0 there is nothing, and from there on what the page has where the step lands
module _ (s : Standing) (view : View) (i : ℕ) where
  near_before : own s + i < s.reach → near_at s view i ≡ none
  unfolding near_at in_window
  near_before h = rw (lt-leb s.reach (own s + i) h)

  near_after : s.reach ≤ own s + i → near_at s view i ≡ value_at view (along s i) (across s i)
  unfolding near_at in_window on_line step_in
  near_after h = rw (le-leb s.reach (own s + i) h)

module _ (s : Standing) (view : View) (i : ℕ) (off : Absent s.high s.wide view) where
  -- past the page there is nothing, and the side's end is past it
  value_past : (o : Option ℕ) → s.high ≤ along s i → value_at view (along s i) o ≡ none
  unfolding value_at
  value_past none h = refl
  value_past (some m) h = off.below (along s i) m h

  value_landed : (M : ℕ) (o : Option ℕ) → value_at view M o ≡ view M (landed s.wide o)
  unfolding value_at
  value_landed M none = sym (ap (view M) (landed_none s.wide) ∙ off.beside M s.wide (omega arith))
  value_landed M (some m) =
      by_cases (dec_lt m s.wide)
      (λ low. sym (ap (view M) (landed_on s.wide m low)))
      (λ past.
      off.beside M m (omega arith)
      ∙ sym (ap (view M) (landed_past s.wide m (omega arith)) ∙ off.beside M s.wide (omega arith)))

  -- a place of the row is there only where its step lands on the page
  module _ (v : ℕ) (there : near_at s view i ≡ some v) where
    is_after : s.reach ≤ own s + i
    is_after =
        by_cases (dec_le s.reach (own s + i))
        (λ h. h)
        (λ h. absurd (none-ne-some v (sym (near_before s view i (omega arith)) ∙ there)))

    value_there : value_at view (along s i) (across s i) ≡ some v
    value_there = sym (near_after s view i is_after) ∙ there

    is_low : along s i < s.high
    is_low =
        by_cases (dec_lt (along s i) s.high)
        (λ h. h)
        (λ h. absurd (none-ne-some v (sym (value_past (across s i) (omega arith)) ∙ value_there)))

    landed_there :
        (o : Option ℕ) → value_at view (along s i) o ≡ some v
        → (o ≡ some (landed s.wide o)) × (landed s.wide o < s.wide)
    unfolding value_at
    landed_there none e = absurd (none-ne-some v e)
    landed_there (some m) e =
        by_cases (dec_lt m s.wide)
        (λ low.
        (ap {B = Option ℕ} some (sym (landed_on s.wide m low)), omega (arith, landed_on s.wide m low)))
        (λ past. absurd (none-ne-some v (sym (off.beside (along s i) m (omega arith)) ∙ e)))

    is_there : There s view i v
    unfolding minor_in
    is_there =
        let is : major_in s i ≡ along s i = major_on s i is_after is_low in
        let low : major_in s i < s.high = omega (arith, is, is_low) in
        let lands = landed_there (across s i) value_there in
        record {
          after = is_after;
          lands = lands.0;
          major_is = is;
          major_low = low;
          minor_low = lands.1;
          view_has =
              ap (λ (M : ℕ). view M (minor_in s i)) is ∙ sym (value_landed (along s i) (across s i)) ∙ value_there;
          pixel_is = pixel_on s i low;
        }

pub pixel_there :
    (s : Standing) (view : View) (i v : ℕ) → Absent s.high s.wide view → near_at s view i ≡ some v
    → There s view i v
pixel_there s view i v off there = is_there s view i off v there

-- what a filter sees at the pixel of a place of the row is what the page has there, by its axes
module _ (boxes : List HiddenBox) (width height : ℕ) (pixel : ℕ → ℕ → ℕ) (s : Standing) (i : ℕ)
    (high_is : s.high ≡ down_of s.steep width height) (wide_is : s.wide ≡ across_of s.steep width height) where
  abbrev page : View
  page = seen boxes width height pixel

  abbrev view : View
  view = turned s.steep page

  off : Absent s.high s.wide view
  off = rw (high_is, wide_is) (absent_turned boxes width height pixel s.steep)

  by_axes : (M m : ℕ) → page (pixel_by s M m).column (pixel_by s M m).row ≡ view M m
  unfolding pixel_by
  by_axes M m = sym (turned_is s.steep page M m)

  -- where the line has no step on the page
  near_none : major_in s i ≡ s.high → near_at s view i ≡ none
      → page (pixel_in s i).column (pixel_in s i).row ≡ near_at s view i
  near_none past none_there =
      rw (pixel_off s i (omega arith))
      (by_axes s.high s.wide ∙ off.below s.high s.wide (omega arith) ∙ sym none_there)

  -- and where it has one
  near_some : s.reach ≤ own s + i → along s i < s.high
      → page (pixel_in s i).column (pixel_in s i).row ≡ near_at s view i
  unfolding minor_in
  near_some after low =
      let is : major_in s i ≡ along s i = major_on s i after low in
      rw (pixel_on s i (omega arith))
      (by_axes (major_in s i) (minor_in s i)
      ∙ ap (λ (M : ℕ). view M (minor_in s i)) is
      ∙ sym (value_landed s view i off (along s i) _)
      ∙ sym (near_after s view i after))

  pub seen_near :
      seen boxes width height pixel (pixel_in s i).column (pixel_in s i).row
      ≡ near_at s (turned s.steep (seen boxes width height pixel)) i
  seen_near =
      by_cases (dec_le s.reach (own s + i))
      (λ after.
      by_cases (dec_lt (along s i) s.high)
      (λ low. near_some after low)
      (λ past.
      near_none (major_past s i after (omega arith))
      (near_after s view i after ∙ value_past s view i off _ (omega arith))))
      (λ before. near_none (major_before s i (omega arith)) (near_before s view i (omega arith)))
