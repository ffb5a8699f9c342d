-- `filter::page::fill_tables` meets its contract. Assumes nothing.
use mathlib.Core.Path.{refl, ◌∙◌}
use Rattle.filter.proofs.Finishing.{tables_as}
use Rattle.filter.proofs.page.fill_tables.Goals as goal

pub returns : goal.returns
returns c =
    tables_as c.args.how _ _ _ _
    refl
    c.fill_profile.ensures.same_length
    (c.fill_reach.ensures.same_length ∙ c.requires.2)
    c.fill_profile.ensures.tabled
    c.fill_reach.ensures.tabled
