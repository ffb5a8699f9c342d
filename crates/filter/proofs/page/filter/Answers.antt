-- `filter::page::filter` meets its contract: tables as long as the page in normal form has rows. Assumes nothing.
use Rattle.std.proofs.Common.{◌≡◌, ◌≤◌, ◌∙◌, ℕ, List, arith, length, length-take-le, refl, sym, take}
use Rattle.placement.specs.declared.Placement.{Placement}
use Rattle.tray.specs.Turned.{compact_height}
use Rattle.tray.specs.declared.Layout.{Layout}
use Rattle.filter.specs.Engine.{layout_of}
use Rattle.filter.specs.Promises.{Fits}
use Rattle.filter.specs.declared.Recipe.{Recipe}
use Rattle.filter.proofs.Finishing.{rows_fit}
use Rattle.filter.proofs.page.filter.Goals as goal

-- the tables have room for so many rows ..
room :
    (how : Recipe) (from to : Placement) (n m k : ℕ) → Fits how from to n m k → (lay : Layout)
    → lay ≡ layout_of how from.width from.height → (rows : ℕ) → rows ≡ compact_height lay → rows ≤ 8192
room how from to n m k fits lay laid rows is = omega (arith, rows_fit how from to n m k fits lay laid, is)

-- .. and the part that is lent is as long
front : (n : ℕ) (xs : List ℕ) → n ≤ 8192 → length xs ≡ 8192 → length (take n xs) ≡ n
front n xs fits long = length-take-le n xs (omega (arith, long))

pub slice_bounds-profile-end : goal.slice_bounds-profile-end
slice_bounds-profile-end c =
    room _ _ _ _ _ _ c.requires _ c.layout_of-lay.ensures _ c.compact_height-rows.ensures

pub slice_bounds-filter_with-end : goal.slice_bounds-filter_with-end
slice_bounds-filter_with-end c =
    sym (front _ _ (room _ _ _ _ _ _ c.requires _ c.layout_of-lay.ensures _ c.compact_height-rows.ensures) refl)

pub slice_bounds-reaches-end : goal.slice_bounds-reaches-end
slice_bounds-reaches-end c =
    room _ _ _ _ _ _ c.requires _ c.layout_of-lay.ensures _ c.compact_height-rows.ensures

pub slice_bounds-filter_with-end-2 : goal.slice_bounds-filter_with-end-2
slice_bounds-filter_with-end-2 c =
    sym (front _ _ (room _ _ _ _ _ _ c.requires _ c.layout_of-lay.ensures _ c.compact_height-rows.ensures) refl)

pub filter_with-requires-clause-profile_len : goal.filter_with-requires-clause-profile_len
filter_with-requires-clause-profile_len c =
    let rows = c.compact_height-rows.ensures in
    front _ _ (room _ _ _ _ _ _ c.requires _ c.layout_of-lay.ensures _ rows) refl ∙ rows

pub returns : goal.returns
returns c = c.filter_with.ensures
