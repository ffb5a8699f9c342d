-- Pixels: how many there are, the greatest, and those before the first above a maximum. Assumes nothing.
use mathlib.Core.Path.{◌≡◌, refl, sym, ap, ◌∙◌}
use Rattle.refusal.specs.Answer.{Answer}
use mathlib.Core.Logic.{by_cases}
use Prim.Native.Nat.{ℕ, zero, suc, ◌+◌, ◌-◌, ◌*◌, ◌≤◌, ◌<◌, min, max}
use native.Mathlib.Decide.{dec_lt}
use native.Mathlib.Nat.{mul_comm, mul-zero, mul-le-mul_left, add-sub_cancel_left}
use native.Mathlib.Numerals.{add-one}
use native.Mathlib.Omega.{arith}
use borrow.Author.Tests.{le-leb, lt-leb, ne_eqb}
use Rattle.std.specs.Prelude.{nat_lt, position}
use Rattle.std.specs.List.{position_or_len}
use Rattle.std.specs.Option.{unwrap_or}
use Rattle.std.proofs.lemmas.Bool.{lt-ltb, le-ltb}
use mathlib.Core.Bool.{Bool, ◌&&◌}
use mathlib.Core.List.{List, [], ◌∷◌}
use lib.ListN.{length, get_or, take, drop, drop_of_length-le, length-take, length-drop}
use lib.Seq.{drop-cons, take_all}
use lib.Dec.{leb, eqb}
use Rattle.refusal.specs.Chain.{unless}
use Rattle.refusal.specs.declared.Later.TheVariants.{BadPixel}
use Rattle.refusal.specs.declared.Refusal.TheVariants.{Later}
use Rattle.pgm.specs.Header.{width_in, height_in, maximum_in, pixels_start}
use Rattle.pgm.specs.Reading.{sound_pixels, image_pixels, judge_pixels, largest, told, header_in}
use Rattle.pgm.specs.Pixels.{greatest}
use Rattle.pgm.specs.Laws.{sound_few}
use Rattle.pgm.specs.declared.Header.{Header}

-- ---- pixel by pixel

module _ (pixels : List ℕ) (k : ℕ) (h : k < length pixels) where
  pub greatest_on : (found : ℕ)
      → max (max found (get_or pixels k 0)) (greatest (drop (k + 1) pixels)) ≡ max found (greatest (drop k pixels))
  unfolding greatest
  greatest_on found = rw (add-one k, drop-cons pixels k 0 h) (omega arith)

module _ (pixels : List ℕ) (k : ℕ) (h : length pixels ≤ k) where
  pub greatest_ended : (found : ℕ) → found ≡ max found (greatest (drop k pixels))
  unfolding greatest
  greatest_ended found = rw (drop_of_length-le pixels h) (omega arith)

-- ---- all of them

pub sound_all : (maximum : ℕ) (pixels : List ℕ)
    → greatest pixels ≤ maximum
    → sound_pixels maximum pixels ≡ length pixels
unfolding greatest sound_pixels
sound_all maximum [] h = refl
sound_all maximum (b ∷ pixels) h =
    rw (le-leb b maximum (omega arith), sound_all maximum pixels (omega arith))

-- the library's search for the first above the maximum
sound_position : (maximum : ℕ) (pixels : List ℕ)
    → sound_pixels maximum pixels ≡ position_or_len (λ b. nat_lt maximum b) pixels
unfolding sound_pixels
sound_position maximum [] = refl
sound_position maximum (b ∷ pixels) =
    let more = sound_position maximum pixels in
    by_cases (dec_lt maximum b)
    (λ h. rw (lt-leb b maximum h, lt-ltb maximum b h))
    (λ h. rw (le-leb b maximum (omega arith), le-ltb maximum b (omega arith), more) (omega arith))

pub sound_found : (maximum : ℕ) (pixels : List ℕ)
    → unwrap_or (position (λ b. nat_lt maximum b) pixels) (length pixels) ≡ sound_pixels maximum pixels
sound_found maximum pixels =
    let few = sound_few maximum pixels in
    rw (← sound_position maximum pixels)
    (by_cases (dec_lt (sound_pixels maximum pixels) (length pixels))
    (λ h. rw (lt-ltb (sound_pixels maximum pixels) (length pixels) h))
    (λ h. rw (le-ltb (sound_pixels maximum pixels) (length pixels) (omega arith)) (omega arith)))

pub greatest_most : (n : ℕ) (pixels : List ℕ) → ((i : ℕ) → get_or pixels i 0 ≤ n) → greatest pixels ≤ n
unfolding greatest
greatest_most n [] all = omega arith
greatest_most n (b ∷ pixels) all =
    let more = greatest_most n pixels (λ i. all (suc i)) in
    let one : b ≤ n = all 0 in
    omega arith

-- ---- how many there are

-- what is told of the sides is whole, or both products are beyond the room
data Told (w h room : ℕ) : Type 0 where
  whole : told w * told h ≡ w * h → Told w h room
  beyond : room < told w * told h → room < w * h → Told w h room

wide : (w h room : ℕ) → room < largest → largest < w → Told w h room
unfolding told
wide w zero room l b = whole (rw (mul-zero (min w largest), mul-zero w))
wide w (suc h) room l b =
    let e : min w largest ≡ largest = omega arith in
    let one : 1 ≤ suc h = omega arith in
    let some : 1 ≤ min (suc h) largest = omega arith in
    beyond (rw e (omega (arith, mul-le-mul_left largest some))) (omega (arith, mul-le-mul_left w one))

turned : (w h room : ℕ) → Told w h room → Told h w room
turned w h room (whole e) = whole (mul_comm (told h) (told w) ∙ e ∙ mul_comm w h)
turned w h room (beyond a b) = beyond (rw (mul_comm (told h) (told w)) a) (rw (mul_comm h w) b)

told_sides : (w h room : ℕ) → room < largest → Told w h room
unfolding told
told_sides w h room l =
    by_cases (dec_lt largest w) (λ b. wide w h room l b)
    (λ b.
    by_cases (dec_lt largest h) (λ d. turned h w room (wide h w room l d))
    (λ d.
    let e : min w largest ≡ w = omega arith in
    let f : min h largest ≡ h = omega arith in
    whole (rw (e, f))))

told_count : (w h room : ℕ) → Told w h room → min (told w * told h) room ≡ min (w * h) room
told_count w h room (whole e) = rw e
told_count w h room (beyond a b) = omega arith

told_room : (w h room : ℕ) → Told w h room → leb (told w * told h) room ≡ leb (w * h) room
told_room w h room (whole e) = rw e
told_room w h room (beyond a b) = lt-leb _ room a ∙ sym (lt-leb _ room b)

-- no more are taken than there are
take_there : (n : ℕ) (l : List ℕ) → take (min n (length l)) l ≡ take n l
take_there n l =
    by_cases (dec_lt (length l) n)
    (λ h.
    let e : min n (length l) ≡ length l = omega arith in
    rw e (take_all (length l) l (omega arith) ∙ sym (take_all n l (omega arith))))
    (λ h. let e : min n (length l) ≡ n = omega arith in rw e)

-- all pixels are sound: as many as there are, which are enough
all_sound : (n room sound : ℕ) → sound ≤ min n room → (leb n room && eqb sound (min n room)) ≡ eqb sound n
all_sound n room sound few =
    by_cases (dec_lt room n)
    (λ h. rw (lt-leb n room h) (sym (ne_eqb sound n (λ e. omega arith))))
    (λ h. let e : min n room ≡ n = omega arith in rw (le-leb n room (omega arith), e))

-- ---- what is judged

module _ (file : List ℕ) (fits : length file ≤ largest) (header : Header) (e : header ≡ header_in file)
    (start : header.start ≤ length file) (count : ℕ)
    (counted : count ≡ min (header.width * header.height) (length file - header.start)) where
  at_start : header.start ≡ pixels_start file
  unfolding header_in
  at_start = rw e

  sides : Told (width_in file) (height_in file) (length file - header.start)
  unfolding pixels_start
  sides = told_sides (width_in file) (height_in file) (length file - header.start) (omega (arith, at_start))

  at_maximum : header.maximum ≡ maximum_in file
  unfolding header_in
  at_maximum = rw e

  at_room : leb (header.width * header.height) (length file - header.start)
      ≡ leb (width_in file * height_in file) (length file - header.start)
  unfolding header_in
  at_room =
      ap (λ (h : Header). leb (h.width * h.height) (length file - header.start)) e
      ∙ told_room (width_in file) (height_in file) (length file - header.start) sides

  count_there : count ≡ min (width_in file * height_in file) (length file - header.start)
  unfolding header_in
  count_there =
      counted
      ∙ ap (λ (h : Header). min (h.width * h.height) (length file - header.start)) e
      ∙ told_count (width_in file) (height_in file) (length file - header.start) sides

  part : take (header.start + count - header.start) (drop header.start file) ≡ image_pixels file
  unfolding image_pixels
  part =
      rw
      (add-sub_cancel_left header.start count, count_there, ← length-drop header.start file, take_there, at_start)

  part_few : (maximum : ℕ)
      → sound_pixels maximum (take (header.start + count - header.start) (drop header.start file)) ≤ count
  part_few maximum =
      let few = sound_few maximum (take (header.start + count - header.start) (drop header.start file)) in
      omega (arith, length-take (header.start + count - header.start) (drop header.start file))

  pub place_fits : {sound : ℕ}
      → sound ≡ sound_pixels header.maximum (take (header.start + count - header.start) (drop header.start file))
      → header.start + sound ≤ length file
  place_fits s = omega (arith, part_few header.maximum)

  pub pixels_judged : {sound : ℕ} {enough : Bool} {r : Answer}
      → sound ≡ sound_pixels header.maximum (take (header.start + count - header.start) (drop header.start file))
      → enough ≡ leb (header.width * header.height) (length file - header.start)
      → r ≡ unless (enough && eqb sound count) (Later BadPixel) (header.start + sound)
      → r ≡ judge_pixels file
  unfolding judge_pixels
  pixels_judged {sound} {enough} {r} s t u =
      let n = width_in file * height_in file in
      let room = length file - header.start in
      let few : sound ≤ min n room = omega (arith, part_few header.maximum, count_there) in
      let brightest : header.maximum ≡ maximum_in file = at_maximum in
      let sounds : sound ≡ sound_pixels (maximum_in file) (image_pixels file) = rw (brightest, part) at s in
      let enough_is : enough ≡ leb n room = t ∙ at_room in
      let test : (enough && eqb sound count) ≡ eqb sound n = rw (enough_is, count_there) (all_sound n room sound few) in
      let place = at_start in
      cc
