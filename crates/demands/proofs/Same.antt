-- The answer takes lengths alone, so equal lengths give equal answers.
-- Assumes nothing.
use mathlib.Core.Path.{◌≡◌, ap}
use Rattle.refusal.specs.Answer.{number_of, place_of, work_in}
use Rattle.job.specs.Job.{answer, lengths}
use Rattle.judging.specs.declared.Lengths.{Lengths}
use Rattle.demands.specs.Same.{SameAnswer, SameNumber, SamePlace, SameWork}

pub same_lengths :
    (n n' : Lengths) → n.source ≡ n'.source → n.output ≡ n'.output → n.scratch ≡ n'.scratch → n ≡ n'
same_lengths n n' source output scratch = λ i. record { source = source i; output = output i; scratch = scratch i }

pub same_answer : SameAnswer
same_answer ticket p source source' out out' scratch scratch' same =
    ap (answer ticket p)
    (same_lengths (lengths source out scratch) (lengths source' out' scratch') same.sources same.outputs
    same.scratches)

pub same_number : SameNumber
same_number ticket p source source' out out' scratch scratch' same =
    ap number_of (same_answer ticket p source source' out out' scratch scratch' same)

pub same_place : SamePlace
same_place ticket p source source' out out' scratch scratch' same =
    ap place_of (same_answer ticket p source source' out out' scratch scratch' same)

pub same_work : SameWork
same_work ticket p source source' out out' scratch scratch' same =
    ap work_in (same_answer ticket p source source' out out' scratch scratch' same)
