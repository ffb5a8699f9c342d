-- `steps::named_in` meets its contract. Assumes nothing.
use Rattle.std.proofs.Common.{◌≡◌, ◌∙◌, cond}
use Rattle.why.specs.Reason.{one_pass, two_passes}
use Rattle.why.proofs.Ordered.{then_is, else_is}
use Rattle.why.proofs.Searching.{fits, result_there, through_near, from_near, named_as}
use Rattle.why.proofs.steps.named_in.Goals.{then-twice, else-twice}
use Rattle.why.proofs.steps.named_in.Goals as goal

pub first_hit-hit-requires : goal.first_hit-hit-requires
first_hit-hit-requires c =
    let q-is = c.search_of.ensures in
    record {
      fits = fits _ _ _ c.args.row.now c.requires _ q-is;
      row_bound = result_there _ _ _ c.args.row.now c.requires _ q-is;
    }

pub pixel_in-requires : goal.pixel_in-requires
pixel_in-requires c =
    let hit-is = c.first_hit-hit.ensures in
    record {
      stands = c.requires.stands;
      tabled = c.requires.tabled;
      i_bound = through_near _ _ _ c.args.row.now c.requires _ c.search_of.ensures _ hit-is;
    }

pub pixel_in-requires-2 : goal.pixel_in-requires-2
pixel_in-requires-2 c =
    let hit-is = c.first_hit-hit.ensures in
    record {
      stands = c.requires.stands;
      tabled = c.requires.tabled;
      i_bound = from_near _ _ _ c.args.row.now c.requires _ c.search_of.ensures _ hit-is;
    }

pub returns : goal.returns
returns c =
    let kind-is : c.if-twice.result ≡ cond c.passes_twice-twice.result two_passes one_pass =
    elim c.if-twice.branch [
      | then-twice w ↦ w.result-is ∙ then_is _ _ _ w.if-twice.true
      | else-twice w ↦ w.result-is ∙ else_is _ _ _ w.if-twice.false
    ]
    in
    named_as _ _ _ c.args.row.now c.requires _ c.search_of.ensures _ c.first_hit-hit.ensures _ _ _ _
    c.passes_twice-twice.ensures kind-is c.pixel_in.ensures c.pixel_in-2.ensures
