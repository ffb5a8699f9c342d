-- The reading of a file from that of its header and the judgement of its pixels. Assumes nothing.
use mathlib.Core.Path.{◌≡◌, refl, sym}
use Rattle.std.specs.Prelude.{Result, Ok, Err}
use Prim.Native.Nat.{ℕ, ◌≤◌}
use mathlib.Core.List.{List}
use lib.ListN.{length}
use Rattle.refusal.specs.Answer.{Answer, giving}
use Rattle.refusal.specs.Chain.{◌then◌, then_done, then_given, then_not_given, given}
use Rattle.refusal.specs.declared.Refused.{Refused}
use Rattle.pgm.specs.Header.{judge_header, judge_maximum}
use Rattle.pgm.specs.Reading.{judge_pixels, judged, header_in, reading}
use Rattle.pgm.specs.Laws.{header_good}
use Rattle.pgm.specs.Fielding.{header_read}
use Rattle.pgm.specs.declared.Header.{Header}

regrouped : (a b c : Answer) → ((a then b) then c) ≡ (a then (b then c))
unfolding ◌then◌
regrouped (Ok work) b c = refl
regrouped (Err refused) b c = refl

module _ (file : List ℕ) where
  all_judged : judged file ≡ ((judge_header file then judge_maximum file) then judge_pixels file)
  unfolding judged
  all_judged = sym (regrouped (judge_header file) (judge_maximum file) (judge_pixels file))

  pub header_refused : {e : Refused} → header_read file ≡ Err e → reading file ≡ Err e
  unfolding reading
  header_refused h = rw all_judged (then_not_given _ (judge_pixels file) (header_in file) h)

  module _ {header : Header} (h : header_read file ≡ Ok header) where
    pub header_is : header ≡ header_in file
    header_is = sym (given _ (header_in file) header h).1

    pub start_within : header.start ≤ length file
    unfolding header_in
    start_within =
        let both = then_done (judge_header file) (judge_maximum file) (given _ (header_in file) header h).0 in
        rw header_is (header_good file both.0 both.1).start

    pub pixels_read : {r : Result Header Refused} → r ≡ giving (judge_pixels file) header → r ≡ reading file
    unfolding reading
    pixels_read e = rw all_judged (then_given _ (judge_pixels file) (header_in file) header h e)
