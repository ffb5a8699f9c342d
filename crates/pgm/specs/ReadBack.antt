-- What is written reads back. Document 02, wish 1: "Each header field we write ends in one newline; read back, a page
-- is the same."
-- Assumes nothing.
use Rattle.std.specs.Prelude.{◌≡◌, true, false, Ok, ℕ, suc, ◌+◌, ◌-◌, ◌*◌, ◌/◌, ◌%◌, ◌<◌, ◌≤◌, length, get_or, drop}
use Rattle.std.proofs.Math.Path.{refl, ap}
use Rattle.std.proofs.Common.{sym, ◌∙◌, add-one, arith, length-append, drop_at}
use mathlib.Core.List.{List, [], ◌∷◌, ◌++◌, append_assoc}
use borrow.Author.Tests.{le-leb, lt-leb, ne_eqb, eq-eqb}
use Rattle.std.proofs.Math.ListN.{take}
use Rattle.std.proofs.Math.Seq.{take_at}
use Rattle.refusal.specs.Answer.{done_with, giving}
use Rattle.refusal.specs.Chain.{unless, ◌then◌}
use Rattle.heading.specs.Decimal.{decimal_small, decimal_more, by_digits, length_header}
use Rattle.heading.specs.Writing.{decimal, line, header_of, file_of}
use Rattle.pgm.specs.Bytes.{Byte, is_space, is_digit, is_hash, uncommented, bytes_from, first_place}
use Rattle.pgm.specs.Bytes.{starts_with, behind, numeral}
use Rattle.pgm.specs.Header.{digits, number_in, behind_number, from_width, from_height, from_maximum, from_delimiter}
use Rattle.pgm.specs.Header.{width_in, height_in, maximum_in, pixels_start}
use Rattle.pgm.specs.Header.{judge_number, judge_magic, judge_from_maximum, judge_header, judge_maximum}
use Rattle.pgm.specs.Laws.{told_same}
use Rattle.pgm.specs.Reading.{sound_pixels, image_pixels, judge_pixels, judged}
use Rattle.pgm.specs.Reading.{largest, told, header_in, reading}

-- ---- the digits of a number

-- one digit, wherever it stands
digit_read : (k d : ℕ) (rest : List ℕ) → d < 10
    → uncommented false k ((48 + d) ∷ rest) ≡ record { place = k; value = 48 + d } ∷ uncommented false (suc k) rest
unfolding uncommented is_hash
digit_read k d rest h = rw (ne_eqb (48 + d) 35 (λ e. omega arith))

is_digit_lem : (d : ℕ) → d < 10 → is_digit (48 + d) ≡ true
unfolding is_digit
is_digit_lem d h = rw (le-leb 48 (48 + d) (omega arith), le-leb (48 + d) 57 (omega arith))

no_space : (d : ℕ) → d < 10 → is_space (48 + d) ≡ false
unfolding is_space
no_space d h =
    rw (ne_eqb (48 + d) 32 (λ e. omega arith), le-leb 9 (48 + d) (omega arith), lt-leb (48 + d) 13 (omega arith))

-- digits from place k on, and what stands behind them: they make the number n, a digit is the first of them, and behind
-- them it goes on
record Digits (n : ℕ) (ds : List ℕ) (k : ℕ) (rest : List ℕ) : Type 0 where
  value : numeral 0 (uncommented false k (ds ++ rest)) ≡ numeral n (uncommented false (k + length ds) rest)
  passed : behind is_digit (uncommented false k (ds ++ rest)) ≡ behind is_digit (uncommented false (k + length ds) rest)
  starts : starts_with is_digit (uncommented false k (ds ++ rest)) ≡ true
  there : behind is_space (uncommented false k (ds ++ rest)) ≡ uncommented false k (ds ++ rest)

one_digit : (n : ℕ) → n < 10 → (k : ℕ) (rest : List ℕ) → Digits n (decimal n) k rest
unfolding numeral behind starts_with
one_digit n h k rest =
    let same : 0 * 10 + (48 + n - 48) ≡ n = omega arith in
    rw (decimal_small n h)
    (record {
      value = rw (digit_read k n rest h, is_digit_lem n h, same, add-one k);
      passed = rw (digit_read k n rest h, is_digit_lem n h, add-one k);
      starts = rw (digit_read k n rest h) (is_digit_lem n h);
      there = rw (digit_read k n rest h, no_space n h);
    })

one_more : (n : ℕ) → 10 ≤ n
    → ((k : ℕ) (rest : List ℕ) → Digits (n / 10) (decimal (n / 10)) k rest)
    → (k : ℕ) (rest : List ℕ) → Digits n (decimal n) k rest
unfolding numeral behind
one_more n large tenth k rest =
    let d = n % 10 in
    let ds = decimal (n / 10) in
    let before = tenth k ((48 + d) ∷ rest) in
    let joined : (ds ++ ((48 + d) ∷ [])) ++ rest ≡ ds ++ ((48 + d) ∷ rest) = append_assoc ds ((48 + d) ∷ []) rest in
    let longer : k + length (ds ++ ((48 + d) ∷ [])) ≡ suc (k + length ds) = simp length-append (omega arith) in
    let same : n / 10 * 10 + (48 + d - 48) ≡ n = omega arith in
    let next = digit_read (k + length ds) d rest (omega arith) in
    let digit = is_digit_lem d (omega arith) in
    rw (decimal_more n large)
    (record {
      value = rw (joined, longer, before.value, next, digit, same);
      passed = rw (joined, longer, before.passed, next, digit);
      starts = rw joined before.starts;
      there = rw joined before.there;
    })

digits_read : (n k : ℕ) (rest : List ℕ) → Digits n (decimal n) k rest
digits_read = by_digits (λ n. (k : ℕ) (rest : List ℕ) → Digits n (decimal n) k rest) one_digit one_more

-- ---- a field: a number between two newlines

abbrev field : ℕ → ℕ → List ℕ → List Byte
field n k rest = uncommented false k (10 ∷ (decimal n ++ (10 ∷ rest)))

module _ (n k : ℕ) (rest : List ℕ) where
  field_digits : digits (field n k rest) ≡ uncommented false (suc k) (decimal n ++ (10 ∷ rest))
  unfolding uncommented is_hash is_space digits behind
  field_digits = (digits_read n (suc k) (10 ∷ rest)).there

  field_number : number_in (field n k rest) ≡ n
  unfolding uncommented is_hash is_digit number_in numeral
  field_number = ap (numeral 0) field_digits ∙ (digits_read n (suc k) (10 ∷ rest)).value

  -- behind the number stands the next newline
  field_behind : behind_number (field n k rest) ≡ uncommented false (suc k + length (decimal n)) (10 ∷ rest)
  unfolding uncommented is_hash is_digit behind_number behind
  field_behind = ap (behind is_digit) field_digits ∙ (digits_read n (suc k) (10 ∷ rest)).passed

  field_judged : (file : List ℕ) → judge_number file (field n k rest) ≡ done_with 0
  unfolding uncommented is_hash is_space starts_with judge_number unless ◌then◌
  field_judged file = rw (field_digits, (digits_read n (suc k) (10 ∷ rest)).starts)

-- ---- the header

-- a file of three fields, and what stands behind the newline of the last
abbrev written : ℕ → ℕ → ℕ → List ℕ → List ℕ
written w h m body = 80 ∷ 53 ∷ 10 ∷ (decimal w ++ (10 ∷ (decimal h ++ (10 ∷ (decimal m ++ (10 ∷ body))))))

written_is : (w h m : ℕ) (body : List ℕ) → header_of w h m ++ body ≡ written w h m body
unfolding header_of line
written_is w h m body = simp append_assoc

module _ (w h m : ℕ) (body : List ℕ) where
  -- the newlines behind the width, the height and the maximum
  abbrev second : ℕ
  second = 3 + length (decimal w)

  abbrev third : ℕ
  third = suc second + length (decimal h)

  abbrev last : ℕ
  last = suc third + length (decimal m)

  from_width_lem : from_width (written w h m body) ≡ field w 2 (decimal h ++ (10 ∷ (decimal m ++ (10 ∷ body))))
  unfolding from_width bytes_from
  from_width_lem = refl

  from_height_lem : from_height (written w h m body) ≡ field h second (decimal m ++ (10 ∷ body))
  unfolding from_height
  from_height_lem = ap behind_number from_width_lem ∙ field_behind w 2 (decimal h ++ (10 ∷ (decimal m ++ (10 ∷ body))))

  from_maximum_lem : from_maximum (written w h m body) ≡ field m third body
  unfolding from_maximum
  from_maximum_lem = ap behind_number from_height_lem ∙ field_behind h second (decimal m ++ (10 ∷ body))

  from_delimiter_lem : from_delimiter (written w h m body) ≡ uncommented false last (10 ∷ body)
  unfolding from_delimiter
  from_delimiter_lem = ap behind_number from_maximum_lem ∙ field_behind m third body

  width_back : width_in (written w h m body) ≡ w
  unfolding width_in
  width_back = ap number_in from_width_lem ∙ field_number w 2 (decimal h ++ (10 ∷ (decimal m ++ (10 ∷ body))))

  height_back : height_in (written w h m body) ≡ h
  unfolding height_in
  height_back = ap number_in from_height_lem ∙ field_number h second (decimal m ++ (10 ∷ body))

  maximum_back : maximum_in (written w h m body) ≡ m
  unfolding maximum_in
  maximum_back = ap number_in from_maximum_lem ∙ field_number m third body

  start_back : pixels_start (written w h m body) ≡ length (header_of w h m)
  unfolding uncommented is_hash first_place pixels_start
  start_back = rw from_delimiter_lem (omega (arith, length_header w h m))

  header_judged : 1 ≤ m → judge_header (written w h m body) ≡ done_with 0
  unfolding uncommented is_hash is_space starts_with judge_magic judge_header judge_from_maximum unless ◌then◌
  header_judged least =
      rw (
        from_width_lem,
        field_judged w 2 (decimal h ++ (10 ∷ (decimal m ++ (10 ∷ body)))) (written w h m body),
        from_height_lem,
        field_judged h second (decimal m ++ (10 ∷ body)) (written w h m body),
        from_maximum_lem,
        field_judged m third body (written w h m body),
        maximum_back,
        le-leb 1 m least,
        from_delimiter_lem,
      )

-- ---- the pixels

all_sound : (m : ℕ) (pixels : List ℕ) → ((i : ℕ) → i < length pixels → get_or pixels i 0 ≤ m)
    → sound_pixels m pixels ≡ length pixels
unfolding sound_pixels
all_sound m [] h = refl
all_sound m (b ∷ pixels) h =
    rw (le-leb b m (h 0 (omega arith))) (ap suc (all_sound m pixels (λ i k. h (suc i) (omega arith))))

module _ (w h m : ℕ) (pixels rest : List ℕ) (count : length pixels ≡ w * h) where
  abbrev whole : List ℕ
  whole = written w h m (pixels ++ rest)

  pixels_back : image_pixels whole ≡ pixels
  unfolding image_pixels
  pixels_back =
      let header = header_of w h m in
      rw (width_back w h m (pixels ++ rest), height_back w h m (pixels ++ rest), start_back w h m (pixels ++ rest))
      (ap (λ (file : List ℕ). take (w * h) (drop (length header) file)) (sym (written_is w h m (pixels ++ rest)))
      ∙ ap (take (w * h)) (drop_at header (pixels ++ rest) (length header) refl)
      ∙ take_at pixels rest (w * h) count)

  judged_back : 1 ≤ m → m ≤ 255 → ((i : ℕ) → i < length pixels → get_or pixels i 0 ≤ m) → judged whole ≡ done_with 0
  unfolding judged judge_maximum judge_pixels unless ◌then◌
  judged_back least most sound =
      rw (
        header_judged w h m (pixels ++ rest) least,
        width_back w h m (pixels ++ rest),
        height_back w h m (pixels ++ rest),
        maximum_back w h m (pixels ++ rest),
        pixels_back,
        le-leb m 255 most,
        eq-eqb (sound_pixels m pixels) (w * h) (all_sound m pixels sound ∙ count),
      )

-- ---- the whole file

-- what is read of a file, in every way in which it is told
pub record ReadsBack (width height maximum : ℕ) (pixels file : List ℕ) : Type 0 where
  pub answered : judged file ≡ done_with 0
  pub width_is : width_in file ≡ width
  pub height_is : height_in file ≡ height
  pub maximum_is : maximum_in file ≡ maximum
  pub start_is : pixels_start file ≡ length (header_of width height maximum)
  pub pixels_are : image_pixels file ≡ pixels
  pub told_is : reading file ≡
      Ok (record {
        width = told width;
        height = told height;
        maximum = maximum;
        start = length (header_of width height maximum);
      })

-- what is written reads back as the same sides, maximum and pixels, for every page, whatever stands behind it
pub read_back : (width height maximum : ℕ) (pixels rest : List ℕ) → 1 ≤ maximum → maximum ≤ 255
    → length pixels ≡ width * height
    → ((i : ℕ) → i < length pixels → get_or pixels i 0 ≤ maximum)
    → ReadsBack width height maximum pixels (file_of width height maximum pixels ++ rest)
unfolding file_of header_in reading giving
read_back w h m pixels rest least most count sound =
    let body = pixels ++ rest in
    let done = judged_back w h m pixels rest count least most sound in
    rw (append_assoc (header_of w h m) pixels rest, written_is w h m body)
    (record {
      answered = done;
      width_is = width_back w h m body;
      height_is = height_back w h m body;
      maximum_is = maximum_back w h m body;
      start_is = start_back w h m body;
      pixels_are = pixels_back w h m pixels rest count;
      told_is = rw (
        done,
        width_back w h m body,
        height_back w h m body,
        maximum_back w h m body,
        start_back w h m body,
      );
    })

-- the header that is told of it, where its sides are numbers of 64 bits
pub header_back :
    (width height maximum : ℕ) (pixels file : List ℕ) → width ≤ largest → height ≤ largest
    → ReadsBack width height maximum pixels file
    → header_in file
    ≡ record {
      width = width;
      height = height;
      maximum = maximum;
      start = length (header_of width height maximum);
    }
unfolding header_in
header_back width height maximum pixels file wide high back =
    λ i.
    record {
      width = (ap told back.width_is ∙ told_same width wide) i;
      height = (ap told back.height_is ∙ told_same height high) i;
      maximum = back.maximum_is i;
      start = back.start_is i;
    }
