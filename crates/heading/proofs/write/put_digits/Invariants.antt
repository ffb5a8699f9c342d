-- `heading::write::put_digits` meets its contract: the digits put, and those of what is left, are all. Assumes nothing.
use Rattle.std.proofs.Common.{◌≡◌, length}
use Rattle.std.proofs.lemmas.List.Edits.{sets}
use Rattle.heading.specs.Writing.{decimal}
use Rattle.heading.proofs.write.put_digits.Given as goal

abbrev pub invariant-loop-i : goal.invariant-loop-i
invariant-loop-i l = record {
  count : l.i ≡ length (decimal l.left);
  put : sets l.output l.at (decimal l.left) ≡ sets l.initial.output l.at (decimal l.number);
}
