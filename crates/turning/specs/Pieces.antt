-- What the functions promise one another that move a page piece by piece. No caller from outside has to read this.
-- Assumes nothing.
use Rattle.std.specs.Prelude.{◌≡◌, ℕ, ◌+◌, ◌-◌, ◌*◌, ◌^◌, ◌<◌, ◌≤◌, Bool, true, false, List, length, slice_index}
use Rattle.placement.specs.Placement.{byte_of, pixel_in, Placed}
use Rattle.placement.specs.declared.Placement.{Placement}
use Rattle.turning.specs.declared.turn.Turn.{Turn}
use Rattle.tray.specs.Written.{written}
use Rattle.geometry.specs.Drift.{mirrored}

-- the tray holds the page's pixel at column c, row r
abbrev pub Right : Placement → (ℕ → ℕ → ℕ) → List ℕ → ℕ → ℕ → Type 0
Right p page tray c r = slice_index tray (byte_of p c r) ≡ page c r

-- From before to after nothing outside the page was changed, for the page written over the one is the page written over
-- the other; and pixels that were right are so still.
pub record Moved (p : Placement) (page : ℕ → ℕ → ℕ) (before after : List ℕ) : Type 0 where
  pub outside : written p page after ≡ written p page before
  pub kept : (c r : ℕ) → c < p.width → r < p.height → Right p page before c r → Right p page after c r

-- the pixel that a copy of the page has at column c, row r: the columns are mirrored where the line falls
unfoldable pub copied_pixel : List ℕ → Placement → Bool → ℕ → ℕ → ℕ
copied_pixel tray p falls c r = pixel_in tray p (mirrored falls p.width c) r

-- the pixel of the source's column a that goes to the target's column b
unfoldable pub source_pixel : List ℕ → Turn → ℕ → ℕ → ℕ
source_pixel tray t a b = pixel_in tray t.source a (mirrored t.readup t.source.height b)

-- the pixel that the transposed page has at column c, row r
unfoldable pub turned_pixel : List ℕ → Turn → ℕ → ℕ → ℕ
turned_pixel tray t c r = source_pixel tray t (mirrored t.writeup t.target.height r) c

-- two pages that can be copied, row to row ..
pub record Alike (p q : Placement) : Type 0 where
  pub across : q.width ≡ p.width
  pub down : q.height ≡ p.height

-- .. and two that can be transposed, in trays of n and m bytes
pub record Turnable (t : Turn) (n m : ℕ) : Type 0 where
  pub from_tray : Placed t.source n
  pub to_tray : Placed t.target m
  pub across : t.target.width ≡ t.source.height
  pub down : t.target.height ≡ t.source.width

-- what is added to a row's start, modulo 2^64, to give the next row's, or that of the row above it
unfoldable pub row_step_of : Bool → ℕ → ℕ
row_step_of true stride = 2 ^ 64 - stride
row_step_of false stride = stride

-- in a row the columns from b to just before e hold a value each, and the others are as they were
pub record Stored (value : ℕ → ℕ) (b e : ℕ) (before after : List ℕ) : Type 0 where
  pub size : length after ≡ length before
  pub each : (k : ℕ) → b ≤ k → k < e → slice_index after k ≡ value k
  pub below : (k : ℕ) → k < b → slice_index after k ≡ slice_index before k
  pub above : (k : ℕ) → e ≤ k → slice_index after k ≡ slice_index before k

-- a tile holds the source's columns from a on of the rows that go to the target's columns from b on; n rows of it, with
-- 16 all
pub record Taken (n : ℕ) (tray : List ℕ) (t : Turn) (a b : ℕ) (tile : List ℕ) : Type 0 where
  pub size : length tile ≡ 256
  pub each : (k : ℕ) → k < n → (i : ℕ) → i < 16 → slice_index tile (16 * k + i) ≡ source_pixel tray t (a + i) (b + k)

-- of the target page, the columns from b to just before f are right in the rows that the source's columns from a to
-- just before e become
pub record Part (page : ℕ → ℕ → ℕ) (t : Turn) (a e b f : ℕ) (before after : List ℕ) : Type 0 where
  pub moved : Moved t.target page before after
  pub right :
      (i : ℕ) → a ≤ i → i < e → (k : ℕ) → b ≤ k → k < f
      → Right t.target page after k (mirrored t.writeup t.target.height i)

-- that much of the transposed page
abbrev pub TurnedPart : List ℕ → Turn → (a e b f : ℕ) → (before after : List ℕ) → Type 0
TurnedPart tray t a e b f before after = Part (turned_pixel tray t) t a e b f before after

-- and whole rows of it
abbrev pub TurnedRows : List ℕ → Turn → (a e : ℕ) → (before after : List ℕ) → Type 0
TurnedRows tray t a e before after = TurnedPart tray t a e 0 t.target.width before after

-- n rows of a tile were written to the target: whatever page they hold pixels of, these pixels of it are right
pub record PutRows (n : ℕ) (tile : List ℕ) (t : Turn) (a b : ℕ) (before after : List ℕ) : Type 0 where
  pub size : length after ≡ length before
  pub part :
      (page : ℕ → ℕ → ℕ)
      → ((i : ℕ) → i < n → (k : ℕ) → k < 16
      → slice_index tile (16 * i + k) ≡ page (b + k) (mirrored t.writeup t.target.height (a + i)))
      → Part page t a (a + n) b (b + 16) before after
