-- `filter::page::filter_with` meets its contract: tables, filter, out. Assumes nothing.
use native.Mathlib.Omega.{arith}
use Rattle.filter.proofs.Finishing.{boxes_lie, given_out, rows_most}
use Rattle.filter.proofs.page.filter_with.Goals as goal

pub fill_tables-requires : goal.fill_tables-requires
fill_tables-requires c =
    let a = c.args in
    let enters = c.requires.fits.enters in
    let most =
    rows_most a.how a.way.lay (boxes_lie a.how a.way.from a.way.lay c.requires.lay_value _ _ enters) in
    (enters.segment.line, omega (arith, c.requires.profile_len, most), c.requires.reaches_len)

pub returns : goal.returns
returns c =
    let a = c.args in
    given_out a.how a.way.from a.way.to _ _ _ c.requires.fits a.way.lay c.requires.lay_value _ _ _ _ _ _
    c.filter_in-work.ensures
    c.page_out.ensures
