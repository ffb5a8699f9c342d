-- What a ticket orders of the filter: the operation along a segment, with the pixels under its boxes absent.
-- Assumes nothing.
use Rattle.std.specs.Prelude.{ℕ}
use Rattle.geometry.specs.declared.Line.{Line}
use Rattle.ticket.specs.Reading.{periodic_kind}
use Rattle.ticket.specs.declared.Ticket.{Ticket}
use Rattle.filter.specs.declared.Recipe.{Recipe}
use Rattle.filter.specs.declared.Segment.{Segment}

-- "line: 1 connected (Bresenham), 2 periodic", "vector dx, dy", "phase i"
unfoldable pub line_of : Ticket → Line
line_of t = record { periodic = periodic_kind t.line; dx = t.dx; dy = t.dy; phase = t.phase }

-- "segment length L", "origin o"
unfoldable pub segment_of : Ticket → Segment
segment_of t = record { line = line_of t; length = t.length; origin = t.origin }

-- the operation, the boxes, and how a hidden pixel comes out
unfoldable pub recipe_of : Ticket → ℕ → Recipe
recipe_of t white =
    record { operation = t.operation; segment = segment_of t; white = white; count = t.count; boxes = t.boxes }

-- "A hidden pixel comes out as 255 in every finished page."
abbrev pub white : ℕ
white = 255
