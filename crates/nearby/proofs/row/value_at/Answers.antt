-- `row::value_at` meets its contract.
-- Assumes nothing.
use Rattle.std.proofs.Common.{ℕ, List, Some, Option, sym, ap, ◌∙◌, arith, length, get_or, length-take, length-drop}
use Rattle.std.proofs.Math.Logic.{⊎_elim}
use Rattle.placement.specs.Placement.{pixel_in}
use Rattle.placement.proofs.Laws.{row_pixel, row_room}
use Rattle.filter.proofs.Absence.{seen_wide, seen_low, seen_hidden, seen_shown}
use Rattle.nearby.proofs.Rows.{value_none, value_some, found_hides}
use Rattle.nearby.proofs.row.value_at.Goals as goal

pub returns-then-from-row : goal.returns-then-from-row
returns-then-from-row c =
    let a = c.args in
    let pixel : ℕ → ℕ → ℕ = pixel_in a.source.now a.from in
    ⊎_elim
    (λ wide. value_none _ (seen_wide a.boxes.now a.from.width a.from.height pixel a.at.column a.at.row wide))
    (λ low. value_none _ (seen_low a.boxes.now a.from.width a.from.height pixel a.at.column a.at.row low.1))
    c.if-from-row.either

pub returns-then-is_some : goal.returns-then-is_some
returns-then-is_some c =
    let a = c.args in
    value_none _
    (seen_hidden a.boxes.now a.from.width a.from.height (pixel_in a.source.now a.from) a.at.column a.at.row
    (sym (found_hides _ _ _ c.first.ensures) ∙ sym c.is_some.ensures ∙ c.if-is_some.true))

pub bounds-part-column : goal.bounds-part-column
bounds-part-column c =
    let size = simp (length-take, length-drop) at (ap {B = ℕ} length c.row-part.ensures) in
    let room = row_room c.args.from (length c.args.source.now) c.args.at.row c.requires in
    omega (arith, size, c.if-from-row.false, room c.if-from-row.false.1)

pub returns-else-is_some : goal.returns-else-is_some
returns-else-is_some c =
    let a = c.args in
    let on = c.if-from-row.false in
    let v : ℕ → Option ℕ = Some in
    ap (λ (part : List ℕ). v (get_or part a.at.column 0)) c.row-part.ensures
    ∙ ap v (row_pixel a.source.now a.from a.at.column a.at.row on.0)
    ∙ value_some _ _
    (seen_shown a.boxes.now a.from.width a.from.height (pixel_in a.source.now a.from) a.at.column a.at.row
    on.0 on.1 (sym (found_hides _ _ _ c.first.ensures) ∙ sym c.is_some.ensures ∙ c.if-is_some.false))
