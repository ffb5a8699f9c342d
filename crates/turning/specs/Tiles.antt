-- What is promised of tiles: sixteen rows of sixteen bytes, 256 in all, row after row.
-- Assumes nothing.
use Rattle.std.specs.Prelude.{◌≡◌, ℕ, ◌+◌, ◌*◌, ◌<◌, ◌≤◌, List, length, slice_index}

-- n bytes from a on stand from b on, and nothing else was changed
pub record Copied (n : ℕ) (from : List ℕ) (a b : ℕ) (before after : List ℕ) : Type 0 where
  pub size : length after ≡ length before
  pub each : (i : ℕ) → i < n → slice_index after (b + i) ≡ slice_index from (a + i)
  pub below : (i : ℕ) → i < b → slice_index after i ≡ slice_index before i
  pub above : (i : ℕ) → b + n ≤ i → slice_index after i ≡ slice_index before i

-- the first n bytes of each half of a tile, in turn; with 128 a whole tile
pub record Shuffled (n : ℕ) (x y : List ℕ) : Type 0 where
  pub size : length y ≡ 256
  pub even : (i : ℕ) → i < n → slice_index y (2 * i) ≡ slice_index x i
  pub odd : (i : ℕ) → i < n → slice_index y (2 * i + 1) ≡ slice_index x (128 + i)

-- rows have become columns
pub record Transposed (before after : List ℕ) : Type 0 where
  pub size : length after ≡ 256
  pub turned : (a b : ℕ) → a < 16 → b < 16 → slice_index after (16 * a + b) ≡ slice_index before (16 * b + a)
