-- A P5 file as it is written: "`P5`, width, height, maximum, each followed by one newline, then the pixels."
-- Assumes nothing.
use Rattle.std.specs.Prelude.{ℕ, zero, suc, ◌+◌, ◌/◌, ◌%◌, cond, List, [], ◌∷◌, ◌++◌, ltb}

-- the decimal digits of a number, the highest first; no number has more of them than itself and one
unfoldable pub decimal_in : ℕ → ℕ → List ℕ
decimal_in zero n = []
decimal_in (suc most) n = cond (ltb n 10) ((48 + n) ∷ []) (decimal_in most (n / 10) ++ ((48 + n % 10) ∷ []))

unfoldable pub decimal : ℕ → List ℕ
decimal n = decimal_in (suc n) n

-- a field and its newline
unfoldable pub line : List ℕ → List ℕ
line field = field ++ (10 ∷ [])

-- width, height, maximum
unfoldable pub header_of : ℕ → ℕ → ℕ → List ℕ
header_of width height maximum =
    line (80 ∷ 53 ∷ []) ++ (line (decimal width) ++ (line (decimal height) ++ line (decimal maximum)))

-- the whole file
unfoldable pub file_of : ℕ → ℕ → ℕ → List ℕ → List ℕ
file_of width height maximum pixels = header_of width height maximum ++ pixels
