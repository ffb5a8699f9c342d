-- `filter::passes::one_pass` meets its contract: the boxes painted, then a pass over the grid. Assumes nothing.
use Rattle.filter.proofs.Passing.{pass_done_as, pass_asks}
use Rattle.filter.proofs.passes.one_pass.Goals as goal

pub pass-requires : goal.pass-requires
pass-requires c =
    pass_asks _ _ _ _ _ c.requires c.args.low _ c.grid_of-g.ensures _
    c.hide_all.ensures.same_length

pub returns : goal.returns
returns c =
    pass_done_as _ _ _ _ _ c.requires c.args.low _ c.grid_of-g.ensures _
    c.neutral_of-absent.ensures _ _ _ _
    c.hide_all.ensures c.pass.ensures
