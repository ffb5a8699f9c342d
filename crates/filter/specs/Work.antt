-- Document 01, 'Work'. The comparisons of a pass are charged to the pixels: x is a pixel's number on its line, n how
-- many pixels the line has, L the length of a block, a how far the window begins before its pixel. "Hidden pixels cost
-- the same", so nothing here looks at a box. A whole number; the answer carries it in 64 bits.
-- Assumes nothing.
use Rattle.std.specs.Prelude.{ℕ, suc, ◌+◌, ◌-◌, cond}
use Rattle.geometry.specs.Number.{behind, ahead}
use Rattle.geometry.specs.declared.Line.{Line}
use Rattle.runs.specs.Block.{rightward, leftward, resulting}
use Rattle.runs.specs.Scratch.{total}
use Rattle.filter.specs.Seen.{runs_steep}
use Rattle.filter.specs.Filters.{dilation_back}
use Rattle.ticket.specs.declared.Operation.{Operation}
use Rattle.ticket.specs.declared.Operation.TheVariants.{Erode, Dilate, Open, Close}
use Rattle.filter.specs.declared.Segment.{Segment}

-- a step of a rightward running extreme, of a leftward one, and a result (sweep, Block)
unfoldable pub charged : ℕ → ℕ → ℕ → ℕ → ℕ
charged L a x n = leftward L n x + rightward L x + resulting L n a (L - 1 - a) x

-- what the pixel at (M, m) of a page with sides H and W is charged in one pass
unfoldable pub charged_at : Line → ℕ → ℕ → ℕ → ℕ → ℕ → ℕ → ℕ
charged_at l H W L a M m = charged L a (behind l H W M m) (suc (behind l H W M m + ahead l H W M m))

-- one pass over the whole page
unfoldable pub pass_work : Line → ℕ → ℕ → ℕ → ℕ → ℕ
pass_work l H W L a = total (λ (M : ℕ). total (λ (m : ℕ). charged_at l H W L a M m) 0 W) 0 H

-- of a page w by h: in an erosion, in a dilation
unfoldable pub erosion_work : Segment → ℕ → ℕ → ℕ
erosion_work s w h =
    pass_work s.line (cond (runs_steep s.line) h w) (cond (runs_steep s.line) w h) s.length s.origin

unfoldable pub dilation_work : Segment → ℕ → ℕ → ℕ
dilation_work s w h =
    pass_work s.line (cond (runs_steep s.line) h w) (cond (runs_steep s.line) w h) s.length (dilation_back s)

-- "Opening and closing add their two passes."
unfoldable pub work_of : Operation → Segment → ℕ → ℕ → ℕ
work_of Erode s w h = erosion_work s w h
work_of Dilate s w h = dilation_work s w h
work_of Open s w h = erosion_work s w h + dilation_work s w h
work_of Close s w h = dilation_work s w h + erosion_work s w h
