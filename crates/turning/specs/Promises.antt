-- What taking a page in and giving it out ask and promise, where it is more than an equation with a definition: each
-- promise says what stands at every place of every buffer that was lent.
-- Assumes nothing.
use Rattle.std.specs.Prelude.{◌≡◌, ℕ, ◌*◌, ◌<◌, ◌≤◌, List, length, slice_index}
use Rattle.placement.specs.Placement.{pixel_in}
use Rattle.placement.specs.declared.Placement.{Placement}
use Rattle.tray.specs.declared.Layout.{Layout}
use Rattle.tray.specs.Turned.{compact_at}

-- a page of these sides
pub record SameSides (lay : Layout) (p : Placement) : Type 0 where
  pub across : p.width ≡ lay.width
  pub down : p.height ≡ lay.height

-- a source page laid out compactly at the start of a tray, and nothing after it changed
pub record PageIn (source : List ℕ) (p : Placement) (lay : Layout) (before after : List ℕ) : Type 0 where
  pub size : length after ≡ length before
  pub pixel :
      (r : ℕ) → r < lay.height → (c : ℕ) → c < lay.width → slice_index after (compact_at lay c r) ≡ pixel_in source p c r
  pub rest : (i : ℕ) → lay.width * lay.height ≤ i → slice_index after i ≡ slice_index before i

-- the pixel that a page given out has at column c, row r
unfoldable pub compact_pixel : List ℕ → Layout → ℕ → ℕ → ℕ
compact_pixel page lay c r = slice_index page (compact_at lay c r)
