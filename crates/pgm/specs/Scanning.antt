-- What the functions that scan a file promise one another.
-- Assumes nothing.
use Rattle.std.specs.Prelude.{◌≡◌, ℕ, ◌≤◌, ◌<◌, Bool, true, false, not, ◌&&◌, List, length, get_or}
use Rattle.pgm.specs.Bytes.{Byte, is_hash, is_line_end, bytes_from}

-- a test of bytes that is passed on, by the results that a call of it may give, computes a test of numbers
pub record Computes (gives : ℕ → Bool → Type 0) (test : ℕ → Bool) : Type 0 where
  pub is : (b : ℕ) (r : Bool) → b < 256 → gives b r → r ≡ test b

-- a byte and whether it stands inside a comment: whether it is in none and starts none, and whether the byte behind it
-- stands inside one
unfoldable pub is_outside : Bool → ℕ → Bool
is_outside inside b = not inside && not (is_hash b)

unfoldable pub inside_behind : Bool → ℕ → Bool
inside_behind true b = not (is_line_end b)
inside_behind false b = is_hash b

-- these bytes start at the place k, which no comment starts at; or there are none and k is the file's length
pub record Stands (file : List ℕ) (bytes : List Byte) (k : ℕ) : Type 0 where
  pub rest : bytes_from file k ≡ bytes
  pub plain : k < length file → is_hash (get_or file k 0) ≡ false
  pub within : k ≤ length file

-- the same, found from an earlier place on
pub record Onward (file : List ℕ) (bytes : List Byte) (at k : ℕ) : Type 0 where
  pub stands : Stands file bytes k
  pub onward : at ≤ k
