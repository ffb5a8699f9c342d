-- `turning::turn::copy_rows` meets its contract. Assumes nothing.
use Rattle.std.proofs.Common.{◌≡◌, ℕ, ◌+◌, ◌-◌, ◌<◌, ◌≤◌, length, List, take, drop, sym, ◌∙◌, subst, arith}
use native.Mathlib.Nat.{add-sub_cancel_left}
use Rattle.placement.specs.declared.Placement.{Placement}
use Rattle.placement.specs.Placement.{row_start, Placed}
use Rattle.placement.proofs.Laws.{row_room}
use Rattle.turning.specs.Pieces.{Moved, Alike, copied_pixel}
use Rattle.tray.proofs.Lent.{part_length}
use Rattle.turning.proofs.Pieces.{moved_length, Rows, rows_more, rows_all}
use Rattle.turning.proofs.Lines.{line_length, filled_pixel}
use Rattle.turning.proofs.turn.copy_rows.Goals as goal

-- the row that is filled lies in the tray, which is as long as it was
room :
    (q : Placement) (page : ℕ → ℕ → ℕ) (before to : List ℕ) (r : ℕ) → Placed q (length before) → Moved q page before to
    → r < q.height → row_start q r + q.width ≤ length to
room q page before to r placed moved r_in =
    row_room _ _ _ (subst (λ (n : ℕ). Placed q n) (sym (moved_length _ _ _ _ moved)) placed) r_in

pub row_start-at-requires : goal.row_start-at-requires
row_start-at-requires c =
    let fits = room _ _ _ _ c.loop-r.r c.requires.placed_2 c.loop-r.invariant.moved c.loop-r-test.true in
    omega (arith, fits, c.loop-r.auto.to, c.well_formed.1.1.1.0.0)

pub overflow_add-end : goal.overflow_add-end
overflow_add-end c =
    let fits = room _ _ _ _ c.loop-r.r c.requires.placed_2 c.loop-r.invariant.moved c.loop-r-test.true in
    omega (arith, fits, c.loop-r.auto.to, c.well_formed.1.1.1.0.0, c.row_start-at.ensures)

pub slice_bounds-fill_row-end : goal.slice_bounds-fill_row-end
slice_bounds-fill_row-end c =
    let fits = room _ _ _ _ c.loop-r.r c.requires.placed_2 c.loop-r.invariant.moved c.loop-r-test.true in
    omega (arith, fits, c.row_start-at.ensures)

-- the row that was handed out is as long as the one to be filled
line_wide :
    (from line : List ℕ) (p q : Placement) (r : ℕ) → line ≡ take p.width (drop (row_start p r) from)
    → Placed p (length from) → Alike p q → r < q.height → length line ≡ q.width
line_wide from line p q r is placed alike r_in =
    line_length from line p r is placed (omega (arith, alike.down, r_in)) ∙ sym alike.across

pub fill_row-requires : goal.fill_row-requires
fill_row-requires c =
    let a = c.args in
    let to = c.loop-r.to in
    let at = c.row_start-at.result in
    let w = a.q.width in
    let room_now = room _ _ _ _ c.loop-r.r c.requires.placed_2 c.loop-r.invariant.moved c.loop-r-test.true in
    let wide = add-sub_cancel_left at w in
    let fits : at + (at + w - at) ≤ length to = omega (arith, room_now, c.row_start-at.ensures, wide) in
    line_wide a.from.now _ a.p a.q c.loop-r.r c.row-line.ensures c.requires.placed c.requires.alike c.loop-r-test.true
    ∙ sym (part_length at (at + w - at) to fits ∙ wide)

pub loop-r-preserved : goal.loop-r-preserved
loop-r-preserved c =
    let a = c.args in
    let l = c.loop-r in
    let filled = c.fill_row.ensures in
    let across = c.requires.alike.across in
    let line = c.row-line.result.now in
    let wide =
    line_wide a.from.now line a.p a.q l.r c.row-line.ensures c.requires.placed c.requires.alike c.loop-r-test.true
    in
    rows_more a.q (copied_pixel a.from.now a.p a.falls) a.to.now l.to _ l.r c.row_start-at.result _
    c.row_start-at.ensures
    (add-sub_cancel_left c.row_start-at.result a.q.width)
    (subst (λ (n : ℕ). Placed a.q n) (sym l.auto.to) c.requires.placed_2)
    c.loop-r-test.true
    (filled.size ∙ wide)
    (λ k k-in.
    filled_pixel a.from.now line a.p l.r c.row-line.ensures a.falls _ (wide ∙ across) filled k (omega (arith, across)))
    l.invariant

pub returns : goal.returns
returns c =
    let a = c.args in
    let l = c.loop-r in
    let done : l.r ≡ a.q.height = omega (arith, c.loop-r-test.false, l.auto.r-end) in
    rows_all _ _ _ _
    (subst (λ (n : ℕ). Rows a.q (copied_pixel a.from.now a.p a.falls) n a.to.now l.to) done l.invariant)
