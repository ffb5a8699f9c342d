-- The list gets shorter entry by entry. Assumes nothing.
use Rattle.std.proofs.Common.{length}
use Rattle.tickets.proofs.print_list.Given as goal

abbrev pub decreases-loop-rest : goal.decreases-loop-rest
decreases-loop-rest g l = length l.rest
