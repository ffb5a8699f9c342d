-- `job::job::finish` meets its contract: filtered, then cleared. Assumes nothing.
use native.Mathlib.Omega.{arith}
use Rattle.job.proofs.Running.{fits_all, sides_most, used_room, finished_all, needed_as}
use Rattle.job.proofs.job.finish.Goals as goal

pub recipe_of-how-requires : goal.recipe_of-how-requires
recipe_of-how-requires c = c.requires.ticket

pub filter-work-requires : goal.filter-work-requires
filter-work-requires c =
    fits_all _ _ _ _ _ c.requires _ _ _ _ c.recipe_of-how.ensures c.source_page-from.ensures c.output_page-to.ensures

pub scratch_needed-used-requires : goal.scratch_needed-used-requires
scratch_needed-used-requires c =
    let small = sides_most _ _ _ _ _ c.requires in
    (c.pages_of.ensures.few, small.0, small.1)

pub clear-requires : goal.clear-requires
clear-requires c =
    let t = c.args.t in
    let p = c.args.p in
    let needed = needed_as t p _ _ (c.pages_of.ensures.every_job t) c.scratch_needed-used.ensures in
    omega (arith, used_room t p _ _ _ c.requires _ needed, c.filter-work.ensures.same_length)

pub returns : goal.returns
returns c =
    finished_all _ _ _ _ _ _ _ _ _ _ c.requires _ _ _ _ c.recipe_of-how.ensures c.source_page-from.ensures
    c.output_page-to.ensures
    (needed_as c.args.t c.args.p _ _ (c.pages_of.ensures.every_job c.args.t) c.scratch_needed-used.ensures)
    c.filter-work.ensures
    c.clear.ensures
