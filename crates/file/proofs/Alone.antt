-- A file alone: what was read of it, and its sides judged. Assumes nothing.
use mathlib.Core.Path.{◌≡◌, sym, ap, ◌∙◌}
use mathlib.Core.List.{List}
use Prim.Native.Nat.{ℕ}
use Rattle.std.specs.Prelude.{Result, Ok, Err}
use Rattle.refusal.specs.Answer.{giving}
use Rattle.refusal.specs.Chain.{then_given, then_not_given, given}
use Rattle.refusal.specs.declared.Refused.{Refused}
use Rattle.pgm.specs.Reading.{judged, header_in, reading}
use Rattle.pgm.specs.declared.Header.{Header}
use Rattle.judging.specs.Judging.{judge_sides}
use Rattle.file.specs.Places.{places_of}
use Rattle.file.specs.Reading.{judged_alone, reading_alone}

module _ (file : List ℕ) where
  pub alone_refused : {e : Refused} → reading file ≡ Err e → reading_alone file ≡ Err e
  unfolding reading reading_alone judged_alone
  alone_refused h = then_not_given (judged file) _ (header_in file) h

  pub header_is : {header : Header} → reading file ≡ Ok header → header ≡ header_in file
  unfolding reading
  header_is {header} h = sym (given (judged file) (header_in file) header h).1

  pub alone_read : {header : Header} {r : Result Header Refused} → reading file ≡ Ok header
      → r ≡ giving (judge_sides (places_of header)) header
      → r ≡ reading_alone file
  unfolding reading reading_alone judged_alone
  alone_read {header} h e =
      let same = header_is h in
      then_given (judged file) _ (header_in file) header h
      (e ∙ ap (λ (k : Header). giving (judge_sides (places_of k)) header) same)
