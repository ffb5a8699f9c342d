-- What is absent from a page that a filter sees, and what stays absent: laws that others may use, with Seen left shut.
-- Document 01, 'The four filters': "Steps off the page and hidden pixels are absent."
-- Assumes nothing.
use Rattle.std.specs.Prelude.{◌≡◌, Bool, ◌&&◌, List, ℕ, ◌≤◌, ◌<◌}
use Rattle.std.proofs.Math.Path.{refl}
use Rattle.std.proofs.Math.Bool.{true, false, and-false}
use Rattle.std.proofs.Math.Option.{none, some}
use Rattle.std.proofs.Math.Dec.{ltb}
use borrow.Author.Tests.{lt-ltb, le-ltb}
use Rattle.boxes.specs.Boxes.{hidden}
use Rattle.geometry.specs.declared.Line.{Line}
use Rattle.ticket.specs.declared.HiddenBox.{HiddenBox}
use Rattle.tray.specs.Turned.{across_of, down_of}
use Rattle.filter.specs.Seen.{View, seen, turned}
use Rattle.filter.specs.Filters.{pass}
use Rattle.filter.specs.Engine.{Absent}
use Rattle.filter.proofs.Laws.{pass_absent}

module _ (boxes : List HiddenBox) (width height : ℕ) (pixel : ℕ → ℕ → ℕ) where
  -- past its right edge and below its last row there is nothing
  pub seen_wide : (c r : ℕ) → width ≤ c → seen boxes width height pixel c r ≡ none
  unfolding seen
  seen_wide c r h = rw (le-ltb c width h) refl

  pub seen_low : (c r : ℕ) → height ≤ r → seen boxes width height pixel c r ≡ none
  unfolding seen
  seen_low c r h = rw (le-ltb r height h, and-false (ltb c width)) refl

  -- a hidden pixel is absent, and one of the page that is in no box is there
  pub seen_hidden : (c r : ℕ) → hidden boxes c r ≡ true → seen boxes width height pixel c r ≡ none
  unfolding seen
  seen_hidden c r e = rw (e, and-false (ltb c width && ltb r height)) refl

  pub seen_shown : (c r : ℕ) → c < width → r < height → hidden boxes c r ≡ false
      → seen boxes width height pixel c r ≡ some (pixel c r)
  unfolding seen
  seen_shown c r c_in r_in e = rw (e, lt-ltb c width c_in, lt-ltb r height r_in) refl

  -- by its axes, it is absent past the sides
  pub absent_turned : (steep : Bool)
      → Absent (down_of steep width height) (across_of steep width height)
      (turned steep (seen boxes width height pixel))
  unfolding turned down_of across_of
  absent_turned true = record { below = λ M m h. seen_low m M h; beside = λ M m h. seen_wide m M h }
  absent_turned false = record { below = λ M m h. seen_wide M m h; beside = λ M m h. seen_low M m h }

-- what is off the page stays off it
pub pass_off : (low : Bool) (l : Line) (a n : ℕ) (H W : ℕ) (page : View) → Absent H W page
    → Absent H W (pass low l a n page)
pass_off low l a n H W page off =
    record {
      below = λ M m h. pass_absent low l a n page M m (off.below M m h);
      beside = λ M m h. pass_absent low l a n page M m (off.beside M m h);
    }
