-- The page as a filter sees it: a function of column and row, with a grey or nothing. Document 01, 'The four filters':
-- "Steps off the page and hidden pixels are absent." Nothing here speaks of a tray: the pixels are a function too.
-- Assumes nothing.
use Rattle.std.specs.Prelude.{ℕ, Bool, true, false, not, ◌&&◌, cond, List, ltb}
use Rattle.std.proofs.Math.Option.{Option, none, some}
use Rattle.vectors.specs.Vector.{steep}
use Rattle.geometry.specs.declared.Line.{Line}
use Rattle.boxes.specs.Boxes.{hidden}
use Rattle.ticket.specs.declared.HiddenBox.{HiddenBox}

abbrev pub View : Type 0
View = ℕ → ℕ → Option ℕ

-- a page of these sides under these boxes
unfoldable pub seen : List HiddenBox → ℕ → ℕ → (ℕ → ℕ → ℕ) → View
seen boxes width height pixel c r =
    cond ((ltb c width && ltb r height) && not (hidden boxes c r)) (some (pixel c r)) none

-- "Steep: the same with columns and rows, dx and dy exchanged": a page by its places on the major and minor axis, or
-- back
unfoldable pub turned {ℓ} : {X : Type ℓ} → Bool → (ℕ → ℕ → X) → ℕ → ℕ → X
turned true page M m = page m M
turned false page M m = page M m

unfoldable pub runs_steep : Line → Bool
runs_steep l = steep l.dx l.dy
