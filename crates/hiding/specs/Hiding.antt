-- Hidden pixels on the compact page: the boxes painted over it. Document 01: "The hidden boxes are handed on as one
-- lent list of boxes."
-- Assumes nothing.
use Rattle.std.specs.Prelude.{◌≡◌, true, false, List, ℕ, ◌*◌, ◌≤◌, ◌<◌, length, get_or}
use Rattle.ticket.specs.declared.HiddenBox.{HiddenBox}
use Rattle.tray.specs.Turned.{compact_at}
use Rattle.boxes.specs.Boxes.{hidden, box_allowed}
use Rattle.tray.specs.declared.Layout.{Layout}

-- how many bytes the compact page has
abbrev pub area : Layout → ℕ
area lay = lay.width * lay.height

-- the page's sides are within their limits, and every box lies on the page
pub record BoxesLie (boxes : List HiddenBox) (lay : Layout) : Type 0 where
  pub wide : 1 ≤ lay.width
  pub high : 1 ≤ lay.height
  pub width_most : lay.width ≤ 8192
  pub height_most : lay.height ≤ 8192
  pub each : (k : ℕ) (d : HiddenBox) → k < length boxes → box_allowed lay.width lay.height (get_or boxes k d) ≡ true

-- the boxes lie on the page, and the page has that many bytes or more
pub record Hideable (boxes : List HiddenBox) (lay : Layout) (bytes : ℕ) : Type 0 where
  pub lie : BoxesLie boxes lay
  pub room : area lay ≤ bytes

-- the pixels that one of the boxes hides hold the value, every other byte is as it was
pub record BoxesPainted (boxes : List HiddenBox) (lay : Layout) (value : ℕ) (before after : List ℕ) : Type 0 where
  pub same_length : length after ≡ length before
  pub hides :
      (r : ℕ) → r < lay.height → (c : ℕ) → c < lay.width → hidden boxes c r ≡ true → get_or after (compact_at lay c r) 0 ≡ value
  pub shows :
      (r : ℕ) → r < lay.height → (c : ℕ) → c < lay.width → hidden boxes c r ≡ false
      → get_or after (compact_at lay c r) 0 ≡ get_or before (compact_at lay c r) 0
  pub rest : (i : ℕ) → area lay ≤ i → get_or after i 0 ≡ get_or before i 0
