-- `turning::turn::turn_row` meets its contract: the row is lent, and a part of it is gathered. Assumes nothing.
use Rattle.std.proofs.Common.{◌≡◌, ℕ, List, ◌+◌, ◌-◌, ◌<◌, ◌≤◌, length, take, drop, sym, refl, ap, ◌∙◌, arith}
use native.Mathlib.Nat.{add-sub_cancel_left}
use Rattle.placement.specs.Placement.{row_start}
use Rattle.geometry.specs.Drift.{mirrored}
use Rattle.turning.specs.declared.turn.Turn.{Turn}
use Rattle.turning.specs.Pieces.{Turnable, source_pixel, turned_pixel}
use Rattle.tray.proofs.Lent.{part_length}
use Rattle.turning.proofs.Pieces.{stored_as, part_row_at}
use Rattle.turning.proofs.Lines.{mirrored_room, turned_is}
use Rattle.turning.proofs.turn.turn_row.Goals as goal

-- the row that is filled lies in the tray ..
inside :
    (t : Turn) (n m a r at : ℕ) → Turnable t n m → a < t.target.height → r ≡ mirrored t.writeup t.target.height a
    → at ≡ row_start t.target r → at + t.target.width ≤ m
inside t n m a r at ok a_in mirror starts =
    mirrored_room t.writeup t.target m a at ok.to_tray a_in (starts ∙ ap (row_start t.target) mirror)

-- .. and the part that is lent is as long as the page is wide
lent_wide : (at w : ℕ) (to : List ℕ) → at + w ≤ length to → length (take (at + w - at) (drop at to)) ≡ w
lent_wide at w to fits =
    let wide = add-sub_cancel_left at w in
    let fits : at + (at + w - at) ≤ length to = omega (arith, fits, wide) in
    part_length at (at + w - at) to fits ∙ wide

pub row_start-at-requires : goal.row_start-at-requires
row_start-at-requires c =
    let fits = inside c.args.t _ _ _ _ _ c.requires.turnable c.requires.a_lt_height.0 c.mirrored.ensures refl in
    omega (arith, fits, c.well_formed.1.1.0.0)

pub overflow_add-end : goal.overflow_add-end
overflow_add-end c =
    let at = c.row_start-at.ensures in
    let fits = inside c.args.t _ _ _ _ _ c.requires.turnable c.requires.a_lt_height.0 c.mirrored.ensures at in
    omega (arith, fits, c.well_formed.1.1.0.0)

pub slice_bounds-gather-end : goal.slice_bounds-gather-end
slice_bounds-gather-end c =
    let at = c.row_start-at.ensures in
    inside c.args.t _ _ _ _ _ c.requires.turnable c.requires.a_lt_height.0 c.mirrored.ensures at

pub gather-requires : goal.gather-requires
gather-requires c =
    let a = c.args in
    let ok = c.requires.turnable in
    let asked = c.requires.a_lt_height in
    let fits = inside a.t _ _ _ _ _ ok asked.0 c.mirrored.ensures c.row_start-at.ensures in
    let long = lent_wide _ a.t.target.width a.to.now fits in
    record {
      placed = ok.from_tray;
      a_lt_width = (
        omega (arith, asked.0, ok.down),
        asked.1,
        omega (arith, asked.2, ok.across),
        omega (arith, long, asked.2),
      );
    }

pub returns : goal.returns
returns c =
    let a = c.args in
    let ok = c.requires.turnable in
    let asked = c.requires.a_lt_height in
    let page = turned_pixel a.from.now a.t in
    let r = c.mirrored.result in
    let is = c.mirrored.ensures in
    let at = c.row_start-at.result in
    let width = a.t.target.width in
    let fits = inside a.t _ _ _ _ at ok asked.0 is c.row_start-at.ensures in
    let stored =
    stored_as (source_pixel a.from.now a.t a.a) (λ (k : ℕ). page k r) a.b a.e _ c.gather.new.part
    (λ k low high. turned_is a.from.now a.t a.a k asked.0 ∙ ap (page k) (sym is)) c.gather.ensures
    in
    part_row_at a.t page a.a a.b a.e a.to.now _ r is ok.to_tray asked.0 at (at + width - at) c.row_start-at.ensures
    (add-sub_cancel_left at width) stored (c.gather.ensures.size ∙ lent_wide at width a.to.now fits) asked.2
