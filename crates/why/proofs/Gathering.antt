-- The values near a pixel, gathered: what the functions on the way are handed, and what is told in the end.
-- Assumes nothing.
use mathlib.Core.Path.{◌≡◌, ap, ◌∙◌}
use mathlib.Core.Bool.{false}
use mathlib.Core.List.{List}
use Rattle.std.specs.Prelude.{Option}
use Prim.Native.Nat.{ℕ, suc, ◌+◌, ◌-◌, ◌≤◌}
use native.Mathlib.Omega.{arith}
use lib.ListN.{length}
use Rattle.geometry.specs.Drift as lines
use Rattle.geometry.specs.Tables.{ProfileTable}
use Rattle.geometry.specs.declared.Line.{Line}
use Rattle.ticket.specs.declared.Ticket.{Ticket}
use Rattle.boxes.specs.Boxes.{hidden, boxes_of}
use Rattle.placement.specs.declared.Placement.{Placement}
use Rattle.job.specs.Order.{line_of}
use Rattle.job.specs.Laws.{line_allowed}
use Rattle.nearby.specs.Stand.{standing_of}
use Rattle.nearby.specs.Promises.{Stands, Tabled, OfPage, RowNear}
use Rattle.nearby.specs.Laws.{standing_stands, standing_page}
use Rattle.nearby.specs.declared.Pixel.{Pixel}
use Rattle.nearby.specs.declared.Standing.{Standing}
use Rattle.why.specs.Reason.{by_steps}
use Rattle.why.specs.Promises.{Asked, Searched, reason_in}
use Rattle.why.specs.declared.Reason.{Reason}
use Rattle.why.proofs.Telling.{row_tells, row_fits, row_result}

module _ (t : Ticket) (p : Placement) (tray : List ℕ) (at : Pixel) (asked : Asked t p (length tray) at) (line : Line)
    (line-is : line ≡ line_of t) where
  pub line_near : lines.Allowed line
  line_near = rw line-is (line_allowed t asked.ticket)

  module _ (s : Standing) (s-is : s ≡ standing_of line (t.length - 1) p.width p.height at) where
    own : s ≡ standing_of (line_of t) (t.length - 1) p.width p.height at
    own = s-is ∙ ap (λ (l : Line). standing_of l (t.length - 1) p.width p.height at) line-is

    pub stands : Stands s
    stands =
        rw s-is
        (standing_stands line (t.length - 1) p.width p.height at line_near
        (omega (arith, asked.ticket.length_from, asked.ticket.length_to))
        (omega (arith, asked.placed.width_most))
        (omega (arith, asked.placed.height_most))
        asked.column_in
        asked.row_in)

    pub of_page : OfPage t s p (length tray)
    of_page =
        rw s-is (standing_page t line (t.length - 1) at p (length tray) asked.placed asked.ticket.count_to)

    pub tabled : (profile : List ℕ) → length profile ≡ 8192 → ProfileTable line profile → Tabled s profile
    unfolding standing_of
    tabled profile long table =
        record { tabled = rw s-is table; room = omega (arith, stands.high_near) }

    module _ (row : List (Option ℕ)) (places : suc (length row) ≡ t.length + t.length) where
      pub short : length row ≤ 16383
      short = omega (arith, asked.ticket.length_to)

      module _ (shows : hidden (boxes_of t) at.column at.row ≡ false) (filled : RowNear t s p tray row) where
        near : RowNear t (standing_of (line_of t) (t.length - 1) p.width p.height at) p tray row
        near = rw own at filled

        pub searched : (profile : List ℕ) → length profile ≡ 8192 → ProfileTable line profile → Searched t s profile row
        searched profile long table =
            record {
              ticket = asked.ticket;
              stands = stands;
              tabled = tabled profile long table;
              fits = row_fits t p tray at asked shows row near places;
              short = short;
              result = row_result t p tray at asked shows row near places;
            }

        pub tells : (told : Reason) → told ≡ reason_in t s row → told ≡ by_steps t p tray at
        tells told is =
            is
            ∙ ap (λ (x : Standing). reason_in t x row) own
            ∙ row_tells t p tray at asked shows row near places
