-- Document 01, 'Lines', with the D of document 02, wish 2: where the steps of a line land. A pixel is named by its
-- place M on the major axis and its place m on the minor one (Vector). A line's steps are counted from the page's
-- corner: a pixel at M stands at step M / period of its line.
-- Assumes nothing.
use Rattle.std.specs.Prelude.{ℕ, suc, ◌+◌, ◌*◌, ◌/◌, ◌%◌, cond, ℤ, pos, negsuc, neg_ℤ, ◌+ℤ◌, ◌-ℤ◌, ◌*ℤ◌}
use Rattle.std.proofs.Math.Option.{Option, none, some}
use Rattle.vectors.specs.Vector.{major_of, minor_of}
use Rattle.geometry.specs.declared.Line.{Line}

-- Document 02, wish 2: D "rounds the size with ties away from zero". The true line of a major component a and a minor
-- one of size b is c·b / a places away at column c; this is the whole number nearest to it, the larger one on a tie.
unfoldable pub nearest : ℕ → ℕ → ℕ → ℕ
nearest a b c = (2 * c * b + a) / (2 * a)

-- "D takes the sign of dy", for a major component dx and a minor component dy: of a line that does not fall it is
-- document 01's "floor((2·c·dy + dx) / (2·dx))", and of one that falls that of the line that rises as fast, counted
-- down
unfoldable pub D : ℕ → ℤ → ℕ → ℤ
D major (pos b) c = pos (nearest major b c)
D major (negsuc b) c = neg_ℤ (pos (nearest major (suc b) c))

-- "With phase i the shift is D(c+i) - D(i)."
unfoldable pub shift : ℕ → ℤ → ℕ → ℕ → ℤ
shift major minor i c = D major minor (c + i) -ℤ D major minor i

-- how far one step goes along the major axis: "Periodic: one step adds (dx, dy)"; connected, "One step from column c to
-- c+1"
unfoldable pub period : Line → ℕ
period l = cond l.periodic (major_of l.dx l.dy) 1

-- how far a line has moved along the minor axis at its step t: connected, the shift at column t; periodic, t times the
-- vector
unfoldable pub profile : Line → ℕ → ℤ
profile l t =
    let major = major_of l.dx l.dy in
    let minor = minor_of l.dx l.dy in
    cond l.periodic (pos t *ℤ minor) (shift major minor l.phase t)

-- a place before the page's edge is no place
unfoldable pub place : ℤ → Option ℕ
place (pos n) = some n
place (negsuc n) = none

-- "One step from column c to c+1 on the same line moves the row by the difference of the two shifts": the line that is
-- at m at its step t is there at its step s
unfoldable pub landing : Line → ℕ → ℕ → ℕ → Option ℕ
landing l m t s = place (pos m +ℤ (profile l s -ℤ profile l t))

-- the step of its line at which a pixel at M stands, and the place on the major axis of another step of that line
unfoldable pub step_of : Line → ℕ → ℕ
step_of l M = M / period l

unfoldable pub major_at : Line → ℕ → ℕ → ℕ
major_at l M s = M % period l + s * period l
