-- The bytes of a raw Netpbm grey file (P5), up to its pixels: white space, digits, comments. A header is read as the
-- list of its bytes that stand in no comment, each with its place in the file.
-- Assumes nothing.
use Rattle.std.specs.Prelude.{ℕ, suc, ◌+◌, ◌-◌, ◌*◌, Bool, true, false, not, ◌&&◌, ◌||◌, cond, List, [], ◌∷◌, length, drop, leb, eqb}

-- "White space is blank, tab, LF, CR, VT, FF.": 32, and the five from 9 to 13
unfoldable pub is_space : ℕ → Bool
is_space b = eqb b 32 || (leb 9 b && leb b 13)

-- the decimal digits, '0' to '9'
unfoldable pub is_digit : ℕ → Bool
is_digit b = leb 48 b && leb b 57

unfoldable pub is_hash : ℕ → Bool
is_hash b = eqb b 35

-- LF or CR
unfoldable pub is_line_end : ℕ → Bool
is_line_end b = eqb b 10 || eqb b 13

-- a byte of the file and its place there
pub record Byte : Type 0 where
  pub place : ℕ
  pub value : ℕ

-- "everything from a `#` through the next CR or LF is a comment and counts as nothing, even in the middle of a number;
-- the CR or LF that ends a comment goes with it": the bytes in no comment, the first byte's place being k, and whether
-- it stands inside a comment
unfoldable pub uncommented : Bool → ℕ → List ℕ → List Byte
uncommented inside k [] = []
uncommented true k (b ∷ bytes) = uncommented (not (is_line_end b)) (suc k) bytes
uncommented false k (b ∷ bytes) =
    cond (is_hash b) (uncommented true (suc k) bytes) (record { place = k; value = b } ∷ uncommented false (suc k) bytes)

-- the bytes of a file from its place k on, which is in no comment
unfoldable pub bytes_from : List ℕ → ℕ → List Byte
bytes_from file k = uncommented false k (drop k file)

-- the place of the first byte, or the file's length where none is left
unfoldable pub first_place : List ℕ → List Byte → ℕ
first_place file [] = length file
first_place file (b ∷ bytes) = b.place

-- whether there is a first byte, of this kind
unfoldable pub starts_with : (ℕ → Bool) → List Byte → Bool
starts_with kind [] = false
starts_with kind (b ∷ bytes) = kind b.value

-- what stands behind all bytes of a kind at the front
unfoldable pub behind : (ℕ → Bool) → List Byte → List Byte
behind kind [] = []
behind kind (b ∷ bytes) = cond (kind b.value) (behind kind bytes) (b ∷ bytes)

-- the number that the digits at the front make, n standing before them already; any number of digits
unfoldable pub numeral : ℕ → List Byte → ℕ
numeral n [] = n
numeral n (b ∷ bytes) = cond (is_digit b.value) (numeral (n * 10 + (b.value - 48)) bytes) n
