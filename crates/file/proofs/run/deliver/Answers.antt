-- `file::run::deliver` meets its contract: filtered behind the header's place, then headed. Assumes nothing.
use native.Mathlib.Omega.{arith}
use Rattle.refusal.specs.Chain.{handed_on}
use Rattle.file.proofs.Delivering.{deliver_refused, file_room, header_room, sum_room, delivered}
use Rattle.file.proofs.run.deliver.Goals as goal

pub returns-in_err-work : goal.returns-in_err-work
returns-in_err-work c =
    deliver_refused _ _ _ _ _ _ _ _ _ c.places_of-places.ensures c.run_read.ensures c.in_err-work.was
    (handed_on c.from_residual.ensures.1)

pub put_header-requires : goal.put_header-requires
put_header-requires c =
    header_room _ _ _ _ _ _ _ _ _ c.places_of-places.ensures c.run_read.ensures c.in_ok-work.was

-- the product and the sum are no more than the output's length
pub overflow_mul-length : goal.overflow_mul-length
overflow_mul-length c =
    let room = file_room _ _ _ _ _ _ _ _ _ c.places_of-places.ensures c.run_read.ensures c.in_ok-work.was in
    omega arith

pub overflow_add-length : goal.overflow_add-length
overflow_add-length c =
    let room = sum_room _ _ _ _ _ _ _ _ _ c.places_of-places.ensures c.run_read.ensures c.in_ok-work.was in
    omega arith

pub returns : goal.returns
returns c =
    delivered _ _ _ _ _ _ _ _ _ c.places_of-places.ensures c.run_read.ensures c.in_ok-work.was c.put_header.ensures
