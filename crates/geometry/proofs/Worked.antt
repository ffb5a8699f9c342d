-- Document 01, 'Lines': the three tables of D, the third as document 02, wish 2, has it, and that of (2, 1) beside it.
-- Document 02, wish 5: the running error of two of them.
-- Then the numbers of the pixels of three small pages, as a second program written from the documents alone has them: a
-- falling line with a phase, a steep one that falls, with ties, and a periodic one.
-- Assumes nothing.
use Rattle.std.specs.Prelude.{◌≡◌, refl, true, false, cond, ℕ, zero, suc, ◌+◌, ◌*◌, List, [], ◌∷◌, map, ℤ, pos, negsuc}
use Rattle.vectors.specs.Vector.{shallow, steep, major_of, minor_of}
use Rattle.geometry.specs.Line.{nearest, D, shift, period, profile, place, landing, step_of, major_at}
use Rattle.geometry.specs.Bresenham.{error}
use Rattle.geometry.specs.Number.{within, in_page, count, behind, ahead}
use Rattle.geometry.specs.declared.Line.{Line}

record Table : Type 0 where
  major : ℕ
  minor : ℤ
  rows : List ℤ

-- "D for (5, 3), columns 0 to 5: 0 1 1 2 2 3. For (3, -2), columns 0 to 3: 0 -1 -1 -2." "(2, -1) gives 0 -1 -1 -2":
-- its true line is half a place away at column 1, and the tie goes away from zero, as it does for (2, 1)
abbrev tables : List Table
tables =
    record { major = 5; minor = pos 3; rows = pos 0 ∷ pos 1 ∷ pos 1 ∷ pos 2 ∷ pos 2 ∷ pos 3 ∷ [] }
    ∷ record { major = 3; minor = negsuc 1; rows = pos 0 ∷ negsuc 0 ∷ negsuc 0 ∷ negsuc 1 ∷ [] }
    ∷ record { major = 2; minor = negsuc 0; rows = pos 0 ∷ negsuc 0 ∷ negsuc 0 ∷ negsuc 1 ∷ [] }
    ∷ record { major = 2; minor = pos 1; rows = pos 0 ∷ pos 1 ∷ pos 1 ∷ pos 2 ∷ [] }
    ∷ []

-- the rows of D from a column on, as many as a table has
abbrev rows_from : ℕ → ℤ → ℕ → List ℤ → List ℤ
rows_from major minor c [] = []
rows_from major minor c (y ∷ ys) = D major minor c ∷ rows_from major minor (suc c) ys

d_tables : map (λ (t : Table). rows_from t.major t.minor 0 t.rows) tables ≡ map (λ (t : Table). t.rows) tables
unfolding nearest D
d_tables = refl

-- the running error of (5, 3): it begins with 5, each step adds 6, and with each row 10 is taken back. That of (2, 1)
-- begins with 2, and each step adds 2: at column 1, the tie, this makes just the 4 that is taken back
errors : map (error 5 3) (0 ∷ 1 ∷ 2 ∷ 3 ∷ 4 ∷ 5 ∷ []) ≡ 5 ∷ 1 ∷ 7 ∷ 3 ∷ 9 ∷ 5 ∷ []
unfolding error
errors = refl

errors_tie : map (error 2 1) (0 ∷ 1 ∷ 2 ∷ 3 ∷ []) ≡ 2 ∷ 0 ∷ 2 ∷ 0 ∷ []
unfolding error
errors_tie = refl

-- behind and ahead of the pixel at column c and row r of a page w wide and h high, as one number of two digits
abbrev numbers_at : Line → ℕ → ℕ → ℕ → ℕ → ℕ
numbers_at l w h c r =
    cond (steep l.dx l.dy) (10 * behind l h w r c + ahead l h w r c) (10 * behind l w h c r + ahead l w h c r)

abbrev row_of : Line → ℕ → ℕ → ℕ → ℕ → ℕ → List ℕ
row_of l w h r c zero = []
row_of l w h r c (suc n) = numbers_at l w h c r ∷ row_of l w h r (suc c) n

abbrev page_from : Line → ℕ → ℕ → ℕ → ℕ → List (List ℕ)
page_from l w h r zero = []
page_from l w h r (suc n) = row_of l w h r 0 w ∷ page_from l w h (suc r) n

falling : page_from record { periodic = false; dx = pos 3; dy = negsuc 1; phase = 1 } 4 3 0 3
    ≡ (1 ∷ 10 ∷ 20 ∷ 30 ∷ []) ∷ (2 ∷ 11 ∷ 21 ∷ 10 ∷ []) ∷ (3 ∷ 12 ∷ 1 ∷ 0 ∷ []) ∷ []
unfolding
    shallow steep major_of minor_of nearest D shift period profile place landing step_of major_at within in_page count
    behind ahead
falling = refl

steep_falling : page_from record { periodic = false; dx = negsuc 0; dy = pos 2; phase = 0 } 3 4 0 4
    ≡ (0 ∷ 2 ∷ 3 ∷ []) ∷ (11 ∷ 12 ∷ 2 ∷ []) ∷ (20 ∷ 21 ∷ 11 ∷ []) ∷ (30 ∷ 20 ∷ 0 ∷ []) ∷ []
unfolding
    shallow steep major_of minor_of nearest D shift period profile place landing step_of major_at within in_page count
    behind ahead
steep_falling = refl

periodic_rising : page_from record { periodic = true; dx = pos 1; dy = pos 2; phase = 0 } 3 5 0 5
    ≡ (2 ∷ 1 ∷ 0 ∷ []) ∷ (1 ∷ 1 ∷ 0 ∷ []) ∷ (1 ∷ 11 ∷ 10 ∷ []) ∷ (0 ∷ 10 ∷ 10 ∷ []) ∷ (0 ∷ 10 ∷ 20 ∷ []) ∷ []
unfolding
    shallow steep major_of minor_of nearest D shift period profile place landing step_of major_at within in_page count
    behind ahead
periodic_rising = refl
