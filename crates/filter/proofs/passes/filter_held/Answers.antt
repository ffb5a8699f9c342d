-- `filter::passes::filter_held` meets its contract, operation by operation. Assumes nothing.
use native.Mathlib.Omega.{arith}
use Rattle.filter.proofs.Passing.{erosion_is, dilation_is, opening_is, closing_is, operated_as}
use Rattle.filter.proofs.passes.filter_held.Goals as goal

pub returns-in-Erode : goal.returns-in-Erode
returns-in-Erode c =
    let laid = c.requires.pass_ready.laid in
    operated_as _ _ laid _ _ 3 _ _ _ (omega arith) c.in-Erode.is (erosion_is _ _ laid) c.one_pass.ensures

pub returns-in-Dilate : goal.returns-in-Dilate
returns-in-Dilate c =
    let laid = c.requires.pass_ready.laid in
    operated_as _ _ laid _ _ 3 _ _ _ (omega arith) c.in-Dilate.is (dilation_is _ _ laid) c.one_pass-in-Dilate.ensures

pub returns-in-Open : goal.returns-in-Open
returns-in-Open c =
    let laid = c.requires.pass_ready.laid in
    operated_as _ _ laid _ _ 6 _ _ _ (omega arith) c.in-Open.is (opening_is _ _ laid) c.two_passes.ensures

pub returns-in-Close : goal.returns-in-Close
returns-in-Close c =
    let laid = c.requires.pass_ready.laid in
    operated_as _ _ laid _ _ 6 _ _ _ (omega arith) c.in-Close.is (closing_is _ _ laid) c.two_passes-in-Close.ensures
