-- `filter::page::filter_in` meets its contract: in, through the filter, and white. Assumes nothing.
use native.Mathlib.Omega.{arith}
use Rattle.filter.proofs.Finishing.{runs_asks, ready_as}
use Rattle.filter.proofs.page.filter_in.Goals as goal

pub filter_held-work-requires : goal.filter_held-work-requires
filter_held-work-requires c =
    let a = c.args in
    record {
      pass_ready =
          runs_asks a.how a.from a.lay c.requires.lay_value _ _ c.requires.enters _ _ c.requires.tables _
          c.page_in.ensures.size;
    }

pub returns : goal.returns
returns c =
    ready_as c.args.how c.args.from c.args.lay c.requires.lay_value c.args.source.now
    (λ k. omega (arith, c.type_inv.source k)) _ _ _ _ _
    c.page_in.ensures
    c.filter_held-work.ensures
    c.hide_all.ensures
