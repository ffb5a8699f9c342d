-- The fields of a header, one behind the other, and what is judged of them. Assumes nothing.
use mathlib.Core.Path.{◌≡◌, ap, ap₂, ◌∙◌}
use Rattle.std.specs.Prelude.{Result, Ok, Err}
use Prim.Native.Nat.{ℕ, ◌+◌, ◌≤◌, ◌<◌}
use native.Mathlib.Numerals.{add-one}
use native.Mathlib.Omega.{arith}
use mathlib.Core.Bool.{Bool, true, false≢true}
use mathlib.Core.List.{List, [], ◌∷◌}
use lib.ListN.{length}
use lib.Dec.{leb, eqb}
use Rattle.refusal.specs.Answer.{Answer, done_with, is_done, giving}
use Rattle.refusal.specs.Chain.{unless, ◌then◌, then_on, then_work, then_done, unless_ok, unless_done}
use Rattle.refusal.specs.declared.Later.TheVariants.{BadHeader, BadMaximum}
use Rattle.refusal.specs.declared.Refusal.TheVariants.{Later}
use Rattle.refusal.specs.declared.Refused.{Refused}
use Rattle.pgm.specs.Bytes.{Byte, is_space, bytes_from, first_place, starts_with}
use Rattle.pgm.specs.Header.{judge_number, from_width, from_height, from_maximum, from_delimiter}
use Rattle.pgm.specs.Header.{width_in, height_in, maximum_in, maximum_place, pixels_start}
use Rattle.pgm.specs.Header.{judge_magic, judge_from_maximum, judge_header, judge_maximum}
use Rattle.pgm.specs.Reading.{header_in}
use Rattle.pgm.specs.Laws.{Headed, header_good}
use Rattle.pgm.specs.Scanning.{Stands}
use Rattle.pgm.specs.Fielding.{IsField, FieldRead, header_read}
use Rattle.pgm.specs.declared.Header.{Header}
use Rattle.pgm.specs.declared.fields.Field.{Field}
use Rattle.pgm.proofs.Scans.{stands_first}
use Rattle.pgm.proofs.Told.{told_fits, told_above, told_below}

pub field_of : {file : List ℕ} {bytes other : List Byte} {f : Field}
    → IsField file bytes f
    → bytes ≡ other
    → IsField file other f
field_of h e = rw e at h

-- ---- what is judged

-- whether a byte of a kind stands at a place
pub kind_judged : {file : List ℕ} {bytes : List Byte} {at : ℕ} {test : Bool} (kind : ℕ → Bool)
    → Stands file bytes at
    → test ≡ starts_with kind (bytes_from file at)
    → unless test (Later BadHeader) at ≡ unless (starts_with kind bytes) (Later BadHeader) (first_place file bytes)
kind_judged kind stands e = rw (e, stands.rest, stands_first stands)

-- what is judged last: that white space delimits the pixels, then that the maximum is a byte
abbrev pub judge_last : List ℕ → Answer
judge_last file =
    unless (starts_with is_space (from_delimiter file)) (Later BadHeader) (first_place file (from_delimiter file))
    then judge_maximum file

module _ {file : List ℕ} {f : Field} (m : IsField file (from_maximum file) f) where
  pub least_judged : unless (leb 1 f.number) (Later BadHeader) f.first
      ≡ unless (leb 1 (maximum_in file)) (Later BadHeader) (maximum_place file)
  unfolding maximum_in maximum_place
  least_judged =
      let number = ap (λ (n : ℕ). leb 1 n) m.number ∙ told_above 1 (maximum_in file) (omega arith) in
      rw (number, m.first)

  -- public though this file alone cites it: another crate can have what is judged of the maximum by itself
  pub most_judged : unless (leb f.number 255) (Later BadMaximum) f.first ≡ judge_maximum file
  unfolding judge_maximum maximum_in maximum_place
  most_judged =
      let number = ap (λ (n : ℕ). leb n 255) m.number ∙ told_below (maximum_in file) 255 (omega arith) in
      rw (number, m.first)

  pub last_judged : {delimited : Bool} {parted small r : Answer}
      → delimited ≡ starts_with is_space (bytes_from file f.end)
      → parted ≡ unless delimited (Later BadHeader) f.end
      → small ≡ unless (leb f.number 255) (Later BadMaximum) f.first
      → r ≡ (parted then small)
      → r ≡ judge_last file
  unfolding from_delimiter
  last_judged delimited parted small e =
      e ∙ ap₂ ◌then◌ (parted ∙ kind_judged is_space m.end delimited) (small ∙ most_judged)

pub last_ok : (file : List ℕ) {work : ℕ} → judge_last file ≡ done_with work → judge_last file ≡ done_with 0
unfolding judge_maximum
last_ok file e =
    let parts = then_work _ _ _ e in
    then_on _ _ parts.0 ∙ unless_ok _ _ _ parts.1

-- ---- the header, field by field: each stands where the one before it ends

-- a file that begins with `P5` has two bytes
pub magic_long : (file : List ℕ) → is_done (judge_magic file) ≡ true → 2 ≤ length file
unfolding judge_magic unless ◌then◌ is_done
magic_long [] h = absurd (false≢true h)
magic_long (a ∷ []) h =
    let second = (then_done (unless (eqb a 80) (Later BadHeader) 0) _ h).1 in
    absurd (false≢true (unless_done (eqb 0 53) (Later BadHeader) 1 second))
magic_long (a ∷ b ∷ file) h = omega arith

pub magic_refused : (file : List ℕ) {r : Result Header Refused} {e : Refused} → r ≡ Err e → judge_magic file ≡ Err e
    → r ≡ header_read file
unfolding judge_header ◌then◌ giving
magic_refused file given m = rw (m, given)

module _ (file : List ℕ) (k : ℕ) (from : bytes_from file k ≡ bytes_from file 2) {i : ℕ}
    (magic : judge_magic file ≡ Ok i) where
  from_width_lem : bytes_from file k ≡ from_width file
  unfolding from_width
  from_width_lem = from

  pub width_refused : {r : Result Header Refused} {e : Refused} → r ≡ Err e
      → judge_number file (bytes_from file k) ≡ Err e
      → r ≡ header_read file
  unfolding judge_header ◌then◌ giving
  width_refused given w = rw (magic, rw from_width_lem at w, given)

  module _ {w : Field} (width : FieldRead (judge_number file (bytes_from file k)) file (bytes_from file k) (Ok w)) where
    width_judged : judge_number file (from_width file) ≡ done_with 0
    width_judged = rw from_width_lem at width.0

    width_field : IsField file (from_width file) w
    width_field = field_of width.1 from_width_lem

    from_height_lem : bytes_from file w.end ≡ from_height file
    unfolding from_height
    from_height_lem = width_field.end.rest

    pub height_refused : {r : Result Header Refused} {e : Refused} → r ≡ Err e
        → judge_number file (bytes_from file w.end) ≡ Err e
        → r ≡ header_read file
    unfolding judge_header ◌then◌ giving
    height_refused given h = rw (magic, width_judged, rw from_height_lem at h, given)

    module _ {h : Field}
        (height : FieldRead (judge_number file (bytes_from file w.end)) file (bytes_from file w.end) (Ok h)) where
      height_judged : judge_number file (from_height file) ≡ done_with 0
      height_judged = rw from_height_lem at height.0

      height_field : IsField file (from_height file) h
      height_field = field_of height.1 from_height_lem

      pub maximum_stands : Stands file (from_maximum file) h.end
      unfolding from_maximum
      maximum_stands = height_field.end

      pub maximum_refused : {r : Result Header Refused} {e : Refused} → r ≡ Err e
          → (judge_from_maximum file then judge_maximum file) ≡ Err e
          → r ≡ header_read file
      unfolding judge_header ◌then◌ giving
      maximum_refused given m = rw (magic, width_judged, height_judged, m, given)

      module _ {f : Field}
          (maximum : FieldRead (judge_from_maximum file then judge_maximum file) file (from_maximum file) (Ok f)) where
        header_judged : (judge_header file then judge_maximum file) ≡ done_with 0
        unfolding judge_header ◌then◌
        header_judged = rw (magic, width_judged, height_judged, maximum.0)

        headed : Headed file
        unfolding is_done
        headed =
            let both = then_done (judge_header file) (judge_maximum file) (ap is_done header_judged) in
            header_good file both.0 both.1

        whole : f.number ≡ maximum_in file
        unfolding maximum_in
        whole =
            let most = headed.most in
            maximum.1.number ∙ told_fits (omega arith)

        pub maximum_byte : f.number < 256
        maximum_byte = omega (arith, whole, headed.most)

        at_delimiter : f.end + 1 ≡ pixels_start file
        unfolding pixels_start from_delimiter
        at_delimiter = rw (add-one, stands_first maximum.1.end)

        pub end_within : f.end < length file
        end_within = omega (arith, at_delimiter, headed.start)

        pub header_told : ◌≡◌ {A = Result Header Refused}
            (Ok (record { width = w.number; height = h.number; maximum = f.number; start = f.end + 1 }))
            (header_read file)
        unfolding header_in width_in height_in giving
        header_told = rw (header_judged, width_field.number, height_field.number, whole, at_delimiter)
