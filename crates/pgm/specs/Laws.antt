-- The laws of a file that was read, as callers cite them, with their proofs: its maximum is a byte other than 0, all
-- its pixels are there, and none is above the maximum.
-- Assumes nothing.
use Rattle.std.specs.Prelude.{◌≡◌, refl, ℕ, zero, suc, ◌+◌, ◌-◌, ◌*◌, ◌≤◌, ◌<◌, Bool, true, false, not, cond, Ok}
use Rattle.std.specs.Prelude.{List, [], ◌∷◌, length, get_or, take, drop, leb}
use Rattle.std.proofs.Common.{arith, leb-true, eqb-true, length-take, length-drop, get_or-take, get_or-drop}
use Rattle.std.proofs.lemmas.Bool.{false≢true}
use Rattle.refusal.specs.Answer.{is_done}
use Rattle.refusal.specs.Chain.{unless, then_done, unless_done, giving_on}
use Rattle.refusal.specs.declared.Later.TheVariants.{BadHeader, BadPixel}
use Rattle.refusal.specs.declared.Refusal.TheVariants.{Later}
use Rattle.pgm.specs.Bytes.{Byte, is_space, is_digit, is_hash, is_line_end, uncommented, bytes_from, first_place}
use Rattle.pgm.specs.Bytes.{starts_with, behind}
use Rattle.pgm.specs.Header.{digits, behind_number, judge_number, from_width, from_height, from_maximum}
use Rattle.pgm.specs.Header.{from_delimiter, width_in, height_in, maximum_in, maximum_place, pixels_start}
use Rattle.pgm.specs.Header.{judge_magic, judge_from_maximum, judge_header, judge_maximum}
use Rattle.pgm.specs.Reading.{sound_pixels, image_pixels, judge_pixels, judged}
use Rattle.pgm.specs.Reading.{told, header_in, reading}

-- ---- the bytes of a header stand in the file

data Within (n : ℕ) : List Byte → Type 0 where
  none : Within n []
  more : {b : Byte} {bytes : List Byte} → b.place < n → Within n bytes → Within n (b ∷ bytes)

either_within : {n : ℕ} {some other : List Byte} (test : Bool)
    → Within n some
    → Within n other
    → Within n (cond test some other)
either_within true s o = s
either_within false s o = o

uncommented_within : (n : ℕ) (inside : Bool) (k : ℕ) (bytes : List ℕ)
    → length bytes ≤ n - k
    → Within n (uncommented inside k bytes)
unfolding uncommented
uncommented_within n true k [] h = none
uncommented_within n false k [] h = none
uncommented_within n true k (b ∷ bytes) h = uncommented_within n (not (is_line_end b)) (suc k) bytes (omega arith)
uncommented_within n false k (b ∷ bytes) h =
    either_within (is_hash b) (uncommented_within n true (suc k) bytes (omega arith))
    (more (omega arith) (uncommented_within n false (suc k) bytes (omega arith)))

behind_within : {n : ℕ} {bytes : List Byte} (kind : ℕ → Bool) → Within n bytes → Within n (behind kind bytes)
unfolding behind
behind_within kind none = none
behind_within kind (more {b} h w) = either_within (kind b.value) (behind_within kind w) (more h w)

number_within : {n : ℕ} {bytes : List Byte} → Within n bytes → Within n (behind_number bytes)
unfolding behind_number digits
number_within w = behind_within is_digit (behind_within is_space w)

delimiter_within : (file : List ℕ) → Within (length file) (from_delimiter file)
unfolding from_delimiter from_maximum from_height from_width bytes_from
delimiter_within file =
    let width = uncommented_within (length file) false 2 (drop 2 file) (omega (arith, length-drop 2 file)) in
    number_within (number_within (number_within width))

starts_within : (file : List ℕ) {bytes : List Byte} (kind : ℕ → Bool)
    → starts_with kind bytes ≡ true
    → Within (length file) bytes
    → first_place file bytes < length file
unfolding starts_with first_place
starts_within file kind s none = absurd (false≢true s)
starts_within file kind s (more h w) = h

-- ---- what is known of a header in which nothing is refused

pub record Headed (file : List ℕ) : Type 0 where
  pub least : 1 ≤ maximum_in file
  pub most : maximum_in file ≤ 255
  pub start : pixels_start file ≤ length file

pub header_good : (file : List ℕ) → is_done (judge_header file) ≡ true → is_done (judge_maximum file) ≡ true → Headed file
unfolding judge_header judge_from_maximum judge_maximum pixels_start
header_good file good small =
    let width = (then_done (judge_magic file) _ good).1 in
    let height = (then_done (judge_number file (from_width file)) _ width).1 in
    let maximum = (then_done (judge_number file (from_height file)) _ height).1 in
    let behind = (then_done (judge_number file (from_maximum file)) _ maximum).1 in
    let least = then_done (unless (leb 1 (maximum_in file)) (Later BadHeader) (maximum_place file)) _ behind in
    let space = unless_done (starts_with is_space (from_delimiter file)) _ _ least.1 in
    record {
      least = leb-true 1 (maximum_in file) (unless_done (leb 1 (maximum_in file)) _ _ least.0);
      most = leb-true (maximum_in file) 255 (unless_done (leb (maximum_in file) 255) _ _ small);
      start = starts_within file is_space space (delimiter_within file);
    }

-- ---- the pixels

suc_or_none_few : (test : Bool) {n m : ℕ} → n ≤ m → cond test (suc n) 0 ≤ suc m
suc_or_none_few true h = omega arith
suc_or_none_few false h = omega arith

pub sound_few : (maximum : ℕ) (pixels : List ℕ) → sound_pixels maximum pixels ≤ length pixels
unfolding sound_pixels
sound_few maximum [] = omega arith
sound_few maximum (b ∷ pixels) = suc_or_none_few (leb b maximum) (sound_few maximum pixels)

-- one pixel more is sound, or none
sound_more : (maximum b i n : ℕ) (pixels : List ℕ) (test : Bool) → leb b maximum ≡ test
    → ((j : ℕ) → j < n → get_or pixels j 0 ≤ maximum)
    → i < cond test (suc n) 0
    → get_or (b ∷ pixels) i 0 ≤ maximum
sound_more maximum b i n pixels false e all h = let z : ⊥ = omega arith in absurd z
sound_more maximum b zero n pixels true e all h = leb-true b maximum e
sound_more maximum b (suc i) n pixels true e all h = all i (omega arith)

sound_below : (maximum : ℕ) (pixels : List ℕ) (i : ℕ) → i < sound_pixels maximum pixels → get_or pixels i 0 ≤ maximum
unfolding sound_pixels
sound_below maximum [] i h = let z : ⊥ = omega arith in absurd z
sound_below maximum (b ∷ pixels) i h =
    sound_more maximum b i (sound_pixels maximum pixels) pixels (leb b maximum) refl (sound_below maximum pixels) h

-- ---- THE LAWS

pub record Read (file : List ℕ) : Type 0 where
  pub maximum_least : 1 ≤ maximum_in file
  pub maximum_most : maximum_in file ≤ 255
  pub enough : pixels_start file + width_in file * height_in file ≤ length file
  pub pixels : (i : ℕ) → i < width_in file * height_in file → get_or file (pixels_start file + i) 0 ≤ maximum_in file
  pub header : reading file ≡ Ok (header_in file)

pub read_good : (file : List ℕ) → is_done (judged file) ≡ true → Read file
unfolding judged judge_pixels image_pixels reading
read_good file good =
    let n = width_in file * height_in file in
    let image = take n (drop (pixels_start file) file) in
    let header = then_done (judge_header file) _ good in
    let maximum = then_done (judge_maximum file) _ header.1 in
    let headed = header_good file header.0 maximum.0 in
    let all : sound_pixels (maximum_in file) image ≡ n = eqb-true _ n (unless_done _ (Later BadPixel) _ maximum.1) in
    let few = sound_few (maximum_in file) image in
    let room : length image ≤ length file - pixels_start file = simp (length-take, length-drop) (omega arith) in
    record {
      maximum_least = headed.least;
      maximum_most = headed.most;
      enough = omega (arith, headed.start);
      pixels =
          λ i h.
          let sound = sound_below (maximum_in file) image i (omega arith) in
          rw (get_or-take n (drop (pixels_start file) file) i 0 h, get_or-drop (pixels_start file) file i 0) at sound;
      header = giving_on (judged file) (header_in file) good;
    }

-- a side that is told within its limits is the side
pub told_small : (n m : ℕ) → m < 18446744073709551615 → told n ≤ m → told n ≡ n
unfolding told
told_small n m h l = omega arith

-- a number of 64 bits is told as it is
pub told_same : (n : ℕ) → n ≤ 18446744073709551615 → told n ≡ n
unfolding told
told_same n l = omega arith
