-- `heading::write::put_header` meets its contract: the first line, and three lines behind it. Assumes nothing.
use Rattle.std.proofs.Common.{◌+◌, ◌≤◌, length, refl, ap, arith, length-set}
use Rattle.std.proofs.Math.Seq.{length-sets}
use Rattle.heading.specs.Decimal.{length_line, length_header}
use Rattle.heading.specs.Writing.{decimal, line}
use Rattle.heading.proofs.Stores.{header_put}
use Rattle.heading.proofs.write.put_header.Goals as goal
use Rattle.heading.proofs.write.put_header.Goals.{Start}

-- the header has room: its three bytes and its three lines
room : (start : Start)
    → 3 + length (line (decimal start.args.width)) + length (line (decimal start.args.height))
    + length (line (decimal start.args.maximum))
    ≤ length start.args.output.now
room start =
    let a = start.args in
    omega (
      arith,
      start.requires,
      length_header a.width a.height a.maximum,
      length_line a.width,
      length_line a.height,
      length_line a.maximum,
    )

pub bounds-output-0 : goal.bounds-output-0
bounds-output-0 c = omega (arith, room (goal.at.bounds-output-0 c).Start)

pub bounds-output-1 : goal.bounds-output-1
bounds-output-1 c = simp length-set (omega (arith, room (goal.at.bounds-output-1 c).Start))

pub bounds-output-2 : goal.bounds-output-2
bounds-output-2 c = simp length-set (omega (arith, room (goal.at.bounds-output-2 c).Start))

pub put_line-second-requires : goal.put_line-second-requires
put_line-second-requires c = simp length-set (omega (arith, room (goal.at.put_line-second-requires c).Start))

pub put_line-third-requires : goal.put_line-third-requires
put_line-third-requires c =
    omega (
      arith,
      room (goal.at.put_line-third-requires c).Start,
      simp (length-sets, length-set) at (ap length c.put_line-second.ensures.content),
    )

pub put_line-requires : goal.put_line-requires
put_line-requires c =
    omega (
      arith,
      room (goal.at.put_line-requires c).Start,
      simp (length-sets, length-set) at (ap length c.put_line-second.ensures.content),
      simp length-sets at (ap length c.put_line-third.ensures.content),
    )

pub returns : goal.returns
returns c =
    let a = c.args in
    header_put a.width a.height a.maximum a.output.now _ _ _ _ _ _
    refl
    c.put_line-second.ensures.content
    c.put_line-second.ensures.place
    c.put_line-third.ensures.content
    c.put_line-third.ensures.place
    c.put_line.ensures.content
    c.requires
