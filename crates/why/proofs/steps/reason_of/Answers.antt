-- `steps::reason_of` meets its contract: the first box that holds the pixel, or the steps of its line. Assumes nothing.
use mathlib.Core.List.{List}
use Rattle.std.specs.Prelude.{Option}
use mathlib.Core.Path.{◌≡◌, refl, sym, ◌∙◌}
use Prim.Native.Nat.{ℕ, suc, ◌+◌, ◌-◌, ◌≤◌}
use native.Mathlib.Omega.{arith}
use lib.ListN.{length, take}
use lib.Seq.{length-take-le}
use Rattle.boxes.specs.Boxes.{boxes_of}
use Rattle.why.proofs.Boxed.{shows, box_told, steps_told}
use Rattle.why.proofs.steps.reason_of.Goals as goal

-- a row of 2·L - 1 places
places_are :
    (L : ℕ) (row : List (Option ℕ)) → 1 ≤ L → L + L - 1 ≤ length row
    → suc (length (take (L + L - 1) row)) ≡ L + L
places_are L row some-step fits =
    let is : length (take (L + L - 1) row) ≡ L + L - 1 = length-take-le _ _ fits in
    omega arith

pub returns-in-Some : goal.returns-in-Some
unfolding boxes_of
returns-in-Some c =
    let a = c.args in
    c.without_steps.ensures ∙ box_told a.t a.at _ _ _ (sym c.first_of.ensures.0 ∙ c.in-Some.is)

pub slice_bounds-by_steps-end-in-None : goal.slice_bounds-by_steps-end-in-None
slice_bounds-by_steps-end-in-None c =
    let room : c.args.t.length + c.args.t.length - 1 ≤ 16384 = omega (arith, c.requires.ticket.length_to) in
    sym (length-take-le _ _ room)

pub by_steps-requires : goal.by_steps-requires
unfolding boxes_of
by_steps-requires c =
    let ok = c.requires.ticket in
    let room : c.args.t.length + c.args.t.length - 1 ≤ 16384 = omega (arith, ok.length_to) in
    record {
      asked = c.requires;
      row_value = shows c.args.t c.args.at (sym c.first_of.ensures.0 ∙ c.in-None.is);
      profile_len = (refl, places_are c.args.t.length _ ok.length_from room);
    }

pub returns-in-None : goal.returns-in-None
unfolding boxes_of
returns-in-None c =
    c.by_steps.ensures ∙ steps_told c.args.t c.args.at _ _ (sym c.first_of.ensures.0 ∙ c.in-None.is)
