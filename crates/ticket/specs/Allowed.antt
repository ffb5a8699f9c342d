-- What a caller may rely on when a ticket was read, in plain facts about numbers: nobody above unfolds the judging.
-- That it holds is `good-allowed` and `read-allowed` (Laws). Document 01, 'The ticket': the limits of each field.
-- Assumes nothing.
use Rattle.std.specs.Prelude.{◌≡◌, ℕ, ◌<◌, ◌≤◌, max, true, ◌||◌, List, length, get_or, nat_abs}
use Rattle.vectors.specs.Vector.{shallow, steep}
use Rattle.fields.specs.Vectors.{coprime}
use Rattle.ticket.specs.Reading.{no_box}
use Rattle.ticket.specs.declared.HiddenBox.{HiddenBox}
use Rattle.ticket.specs.declared.LineKind.TheVariants.{Connected, Periodic}
use Rattle.ticket.specs.declared.Ticket.{Ticket}

-- a box's numbers have two bytes each
pub record TwoBytes (b : HiddenBox) : Type 0 where
  pub left : b.left < 65536
  pub top : b.top < 65536
  pub width : b.width < 65536
  pub height : b.height < 65536

-- the fields of a ticket that was read; its operation and its kind of line are known by their types
pub record Allowed (t : Ticket) : Type 0 where
  pub runs : (shallow t.dx t.dy || steep t.dx t.dy) ≡ true
  pub dx_to : nat_abs t.dx ≤ 255
  pub dy_to : nat_abs t.dy ≤ 255
  pub connected_coprime : t.line ≡ Connected → coprime t.dx t.dy ≡ true
  pub length_from : 1 ≤ t.length
  pub length_to : t.length ≤ 8192
  pub origin_below : t.origin < t.length
  pub connected_phase : t.line ≡ Connected → t.phase < max (nat_abs t.dx) (nat_abs t.dy)
  pub periodic_phase : t.line ≡ Periodic → t.phase ≡ 0
  pub count_to : t.count ≤ 64
  pub places : length t.boxes ≡ 64
  pub box_numbers_lem : (k : ℕ) → TwoBytes (get_or t.boxes k no_box)

-- the ticket is bytes, as every slice of u8 is: a proof has it as `λ k. (c.shared-slice-known.given k).fits`
abbrev pub Bytes : List ℕ → Type 0
Bytes s = (k : ℕ) → get_or s k 0 < 256
