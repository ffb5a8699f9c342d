-- `runs::marks::fill_marks` meets its contract: the marks of v - 1 entries stand. Assumes nothing.
use mathlib.Core.Path.{◌≡◌, ap, ◌∙◌}
use Prim.Native.Nat.{ℕ, ◌+◌, ◌%◌}
use native.Mathlib.Omega.{arith}
use mathlib.Core.List.{List}
use lib.ListN.{get_or, get_or-replicate, length-set}
use lib.ListN as lists
use Rattle.runs.proofs.marks.fill_marks.Goals as goal

room : {marks : List ℕ} → marks ≡ lists.replicate 8224 0 → lists.length marks ≡ 8224
room is = ap lists.length is ∙ lists.length-replicate {A = ℕ} 8224 0

pub returns : goal.returns
returns c =
    let l = c.loop-v in
    let tables = c.args.tables.now in
    let g = tables.grid in
    let whole : lists.length c.args.marks.now ≡ 8224 = room c.requires in
    record {
      long = omega (arith, l.invariant.0, whole, tables.sized.height_most);
      zero_is = λ j few. l.invariant.1 (g.height + j) (omega arith) ∙ ap (λ (q : List ℕ). get_or q (g.height + j) 0) c.requires ∙ get_or-replicate {A = ℕ} 8224 (g.height + j) 0 0 (omega (arith, tables.sized.height_most));
      mark_is = λ v one below. l.invariant.2 v one (omega arith) below ∙ ap (λ (q : ℕ). q % g.length) (tables.tabled.reaches_is v below);
    }
