-- A page that is listed, and a line's tables for it.
-- Assumes nothing.
use Rattle.std.specs.Prelude.{ℕ, ◌≤◌, List, length, eqb}
use Rattle.geometry.specs.Drift.{Allowed}
use Rattle.geometry.specs.Tables.{ProfileTable, ReachTable}
use Rattle.geometry.specs.declared.Line.{Line}
use Rattle.numbers.specs.declared.order.Asked.{Asked}
use Rattle.numbers.specs.declared.order.Order.{Order}

-- sides of a page that has pixels, at most 4096 of them: no side is longer
pub record Sides (w h : ℕ) : Type 0 where
  pub columns : 1 ≤ w
  pub rows : 1 ≤ h
  pub w_near : w ≤ 4096
  pub h_near : h ≤ 4096

pub record Listed (l : Line) (profile reach : List ℕ) (w h : ℕ) : Type 0 where
  pub allowed : Allowed l
  pub sides : Sides w h
  pub tabled : ProfileTable l profile
  pub profile_long : 4096 ≤ length profile
  pub reaches : ReachTable l (length profile) reach
  pub reach_long : 4096 ≤ length reach

-- what is known of an order that can be listed
pub record Good (o : Order) : Type 0 where
  pub allowed : Allowed o.line
  pub sides : Sides o.w o.h

-- the order that is asked for: the kind 2 is a periodic line
abbrev pub order_of : Asked → Order
order_of asked =
    record {
      line = record { periodic = eqb asked.kind 2; dx = asked.dx; dy = asked.dy; phase = asked.phase };
      w = asked.w;
      h = asked.h;
    }
