-- What a ticket that was read orders is within the filter's limits. Assumes nothing.
use mathlib.Core.Bool.{Bool}
use mathlib.Core.Path.{◌≡◌, ap₂}
use mir.Syntax.{w32}
use mir.Val.{to_z, of_z}
use lib.IntN.{ℤ}
use Rattle.geometry.proofs.Laws as Lines
use Rattle.geometry.specs.declared.Line.{Line}
use Rattle.ticket.specs.Laws.{Allowed}
use Rattle.ticket.specs.Reading.{periodic_kind}
use Rattle.ticket.specs.declared.Ticket.{Ticket}
use Rattle.filter.specs.Engine.{Fair}
use Rattle.job.specs.Laws.{line_allowed}
use Rattle.job.specs.Order.{line_of, segment_of}

module _ (t : Ticket) (ok : Allowed t) where
  pub line_as :
      (periodic : Bool) → periodic ≡ periodic_kind t.line
      → ◌≡◌ {A = Line}
      (record {
        periodic = periodic;
        dx = to_z w32 (of_z w32 t.dx);
        dy = to_z w32 (of_z w32 t.dy);
        phase = t.phase;
      })
      (line_of t)
  unfolding line_of
  line_as periodic is =
      rw is
      (ap₂ {C = Line}
      (λ (dx dy : ℤ). record { periodic = periodic_kind t.line; dx = dx; dy = dy; phase = t.phase })
      (Lines.component_back t.dx ok.dx_to)
      (Lines.component_back t.dy ok.dy_to))

  pub segment_fair : Fair (segment_of t)
  unfolding segment_of
  segment_fair =
      record {
        line = line_allowed t ok;
        length_from = ok.length_from;
        length_to = ok.length_to;
        origin_below = ok.origin_below;
      }
