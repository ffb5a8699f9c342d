-- What a finished job leaves behind. Document 01: a finished job "writes only its page and leaves the scratch it used
-- at zero"; "Only these first bytes may be used; they hold zero at the end of a finished job. Later scratch bytes keep
-- their values."
-- Assumes nothing.
use Rattle.std.specs.Prelude.{ℕ, suc, cond, List, [], ◌∷◌, ◌++◌, replicate, drop}
use Rattle.placement.specs.declared.Placement.{Placement}
use Rattle.placement.specs.Placement.{column_of, row_of, inside}

-- the tray from its byte at on, with a page written into it: the page's bytes are the page's pixels, every other is as
-- it was
unfoldable pub written_from : Placement → (ℕ → ℕ → ℕ) → ℕ → List ℕ → List ℕ
written_from p page at [] = []
written_from p page at (old ∷ tray) =
    cond (inside p at) (page (column_of p at) (row_of p at)) old ∷ written_from p page (suc at) tray

unfoldable pub written : Placement → (ℕ → ℕ → ℕ) → List ℕ → List ℕ
written p page tray = written_from p page 0 tray

-- the scratch with its first n bytes at zero
unfoldable pub cleared : ℕ → List ℕ → List ℕ
cleared n scratch = replicate n 0 ++ drop n scratch
