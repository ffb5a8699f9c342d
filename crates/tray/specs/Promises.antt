-- What the public functions ask and promise, where it is more than an equation with a definition: each promise says
-- what stands at every place of every buffer that was lent.
-- Assumes nothing.
use Rattle.std.specs.Prelude.{◌≡◌, Bool, List, ℕ, ◌+◌, ◌*◌, ◌≤◌, ◌<◌, length, get_or}
use Rattle.tray.specs.declared.Layout.{Layout}
use Rattle.tray.specs.declared.Rectangle.{Rectangle}
use Rattle.geometry.specs.Drift.{mirrored}
use Rattle.tray.specs.Turned.{compact_at, InRectangle}

-- a row holds the other, read from the other end where it is mirrored
pub record RowFilled (from : List ℕ) (falls : Bool) (to : List ℕ) : Type 0 where
  pub size : length to ≡ length from
  pub each : (k : ℕ) → k < length from → get_or to k 0 ≡ get_or from (mirrored falls (length from) k) 0

-- a rectangle of a page of these sides
pub record RectangleFits (x : Rectangle) (width height : ℕ) : Type 0 where
  pub width_least : 1 ≤ width
  pub height_least : 1 ≤ height
  pub wide : x.left ≤ x.right
  pub high : x.top ≤ x.bottom
  pub right_in : x.right ≤ width
  pub bottom_in : x.bottom ≤ height

-- a rectangle of rows that are w long and stand one after the other in a tray of n bytes
pub record RectangleInRows (x : Rectangle) (w n : ℕ) : Type 0 where
  pub row_least : 1 ≤ w
  pub high : x.top ≤ x.bottom
  pub wide : x.left ≤ x.right
  pub right_in : x.right ≤ w
  pub rows_in : x.bottom * w ≤ n

-- rows that are w long, with a rectangle of one value
pub record RectanglePainted (w : ℕ) (x : Rectangle) (value : ℕ) (before after : List ℕ) : Type 0 where
  pub size : length after ≡ length before
  pub painted : (a b : ℕ) → InRectangle x a b → get_or after (a * w + b) 0 ≡ value
  pub kept : (a b : ℕ) → b < w → (InRectangle x a b → ⊥) → get_or after (a * w + b) 0 ≡ get_or before (a * w + b) 0

-- the compact page with a rectangle of the page in one value, and nothing after it changed
pub record BoxPainted (lay : Layout) (x : Rectangle) (value : ℕ) (before after : List ℕ) : Type 0 where
  pub size : length after ≡ length before
  pub hidden :
      (r : ℕ) → r < lay.height → (c : ℕ) → c < lay.width → InRectangle x r c
      → get_or after (compact_at lay c r) 0 ≡ value
  pub shown :
      (r : ℕ) → r < lay.height → (c : ℕ) → c < lay.width → (InRectangle x r c → ⊥)
      → get_or after (compact_at lay c r) 0 ≡ get_or before (compact_at lay c r) 0
  pub rest : (i : ℕ) → lay.width * lay.height ≤ i → get_or after i 0 ≡ get_or before i 0
