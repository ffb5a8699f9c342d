-- `listing::list::ticket_of` meets its contract: a ticket that lies in the buffer is handed out, else none of it.
-- Assumes nothing.
use Rattle.std.proofs.Common.{sym, ◌∙◌}
use native.Mathlib.Nat.{add-sub_cancel_left}
use Rattle.listing.specs.Listed.{ticket_of}
use Rattle.listing.proofs.list.ticket_of.Goals as goal

pub returns-then-is_within : goal.returns-then-is_within
unfolding ticket_of
returns-then-is_within c =
    let job = c.args.job in
    rw (sym c.is_within.ensures ∙ c.if-is_within.true, add-sub_cancel_left job.start job.length)

pub returns : goal.returns
unfolding ticket_of
returns c = rw (sym c.is_within.ensures ∙ c.if-is_within.false)
