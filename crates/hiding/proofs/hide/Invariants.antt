-- The loop's invariant is that the boxes before this one are painted.
-- Assumes nothing.
use Rattle.std.proofs.Common.{take}
use Rattle.hiding.specs.Hiding.{BoxesPainted}
use Rattle.hiding.proofs.hide.Given as goal

abbrev pub invariant-loop-b : goal.invariant-loop-b
invariant-loop-b l = BoxesPainted (take l.b-index l.boxes) l.lay l.value l.fn.page l.page
