-- `heading::write::put_digits` meets its contract: the digits put, and those of what is left, are all. Assumes nothing.
use Rattle.std.proofs.Common.{◌∙◌, arith}
use Rattle.heading.specs.Decimal.{length_more, some_digit}
use Rattle.heading.proofs.Stores.{only_digit, more_digits, digit_put, only_digit_put}
use Rattle.heading.proofs.write.put_digits.Goals as goal

pub loop-i-preserved : goal.loop-i-preserved
loop-i-preserved c =
    let l = c.loop-i in
    let more = more_digits l.left (omega arith) in
    record {
      count = omega (arith, length_more l.left more);
      put = digit_put l.output c.args.at l.left _ l.i more l.invariant.count c.digit.ensures ∙ l.invariant.put;
    }

pub digit-requires-2 : goal.digit-requires-2
digit-requires-2 c = omega (arith, only_digit c.loop-i.left (omega arith))

pub bounds-output-at-2 : goal.bounds-output-at-2
bounds-output-at-2 c = omega (arith, some_digit c.args.number)

pub returns : goal.returns
returns c =
    let l = c.loop-i in
    only_digit_put l.output c.args.at l.left _ (only_digit l.left (omega arith)) c.digit-2.ensures ∙ l.invariant.put
