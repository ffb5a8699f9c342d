-- A file's bytes outside comments, place by place. Assumes nothing.
use mathlib.Core.Path.{◌≡◌, refl, sym, ap, ◌∙◌}
use mathlib.Core.Logic.{by_cases}
use Prim.Native.Nat.{ℕ, suc, ◌+◌, ◌-◌, ◌*◌, ◌≤◌, ◌<◌}
use native.Mathlib.Decide.{dec_lt}
use native.Mathlib.Numerals.{add-one}
use native.Mathlib.Omega.{arith}
use borrow.Author.Tests.{not-true, not-false, leb-true}
use mathlib.Core.Bool.{Bool, true, false, ◌&&◌, false≢true}
use mathlib.Core.List.{List, [], ◌∷◌}
use lib.ListN.{length, get_or, drop, drop_of_length-le}
use lib.Seq.{drop-cons}
use lib.Dec.{leb}
use Rattle.pgm.specs.Bytes.{Byte, is_digit, is_hash, uncommented, bytes_from, first_place, starts_with}
use Rattle.pgm.specs.Bytes.{behind, numeral}
use Rattle.pgm.specs.Scanning.{Computes, is_outside, inside_behind, Stands, Onward}

-- ---- the next byte in no comment

-- a byte that is in a comment, or starts one, counts as nothing
passed : (inside : Bool) (k b : ℕ) (bytes : List ℕ)
    → is_outside inside b ≡ false
    → uncommented inside k (b ∷ bytes) ≡ uncommented (inside_behind inside b) (suc k) bytes
unfolding is_outside inside_behind uncommented
passed true k b bytes h = refl
passed false k b bytes h = rw (not-false (is_hash b) h)

none_left : (inside : Bool) (k : ℕ) → uncommented inside k [] ≡ []
unfolding uncommented
none_left true k = refl
none_left false k = refl

outside : (inside : Bool) (b : ℕ) → is_outside inside b ≡ true → (inside ≡ false) × (is_hash b ≡ false)
unfolding is_outside
outside true b h = absurd (false≢true h)
outside false b h = (refl, not-true (is_hash b) h)

module _ (file : List ℕ) (at k : ℕ) (inside : Bool) (on : at ≤ k)
    (all : uncommented inside k (drop k file) ≡ bytes_from file at) where
  pub next_found : k < length file → is_outside inside (get_or file k 0) ≡ true → Onward file (bytes_from file at) at k
  unfolding bytes_from
  next_found h out =
      let o = outside inside (get_or file k 0) out in
      record {
        stands = record { rest = rw o.0 at all; plain = λ l. o.1; within = omega arith };
        onward = on;
      }

  pub next_passed : k < length file → is_outside inside (get_or file k 0) ≡ false
      → uncommented (inside_behind inside (get_or file k 0)) (k + 1) (drop (k + 1) file) ≡ bytes_from file at
  next_passed h out =
      rw add-one (sym (passed inside k (get_or file k 0) (drop (suc k) file) out) ∙ (rw (drop-cons file k 0 h) at all))

  pub next_none : k ≡ length file → Onward file (bytes_from file at) at k
  unfolding bytes_from
  next_none e =
      let over : length file ≤ k = omega arith in
      let gone : drop k file ≡ [] = drop_of_length-le file over in
      record {
        stands =
            record {
              rest = rw gone (none_left false k ∙ sym (none_left inside k) ∙ (rw gone at all));
              plain = λ l. let z : ⊥ = omega arith in absurd z;
              within = omega arith;
            };
        onward = on;
      }

-- ---- a byte that stands at a place, and none at the end

both : (a b : Bool) → (a && b) ≡ true → (a ≡ true) × (b ≡ true)
both true b h = (refl, h)
both false b h = absurd (false≢true h)

pub digit_within : (b : ℕ) → is_digit b ≡ true → (48 ≤ b) × (b ≤ 57)
unfolding is_digit
digit_within b h =
    let p = both (leb 48 b) (leb b 57) h in
    (leb-true 48 b p.0, leb-true b 57 p.1)

-- a place where bytes stand is one for all that follows it
pub here : {file : List ℕ} {bytes : List Byte} {k : ℕ} → Stands file bytes k → Stands file (bytes_from file k) k
here s = record { rest = refl; plain = s.plain; within = s.within }

pub stands_for : {file : List ℕ} {bytes other : List Byte} {k : ℕ}
    → Stands file bytes k
    → bytes ≡ other
    → Stands file other k
stands_for s e = record { rest = s.rest ∙ e; plain = s.plain; within = s.within }

module _ (file : List ℕ) (k : ℕ) (stands : Stands file (bytes_from file k) k) where
  one_more : k < length file
      → bytes_from file k ≡ record { place = k; value = get_or file k 0 } ∷ bytes_from file (suc k)
  unfolding bytes_from uncommented
  one_more h = rw (drop-cons file k 0 h, stands.plain h)

  none_more : length file ≤ k → bytes_from file k ≡ []
  unfolding bytes_from
  none_more h = rw (drop_of_length-le file h) (none_left false k)

  first_here : k ≡ first_place file (bytes_from file k)
  unfolding first_place
  first_here =
      by_cases (dec_lt k (length file)) (λ h. rw (one_more h))
      (λ h. let e : k ≡ length file = omega (arith, stands.within) in rw (none_more (omega arith)) e)

  module _ (kind : ℕ → Bool) where
    pub starts_some : k < length file → starts_with kind (bytes_from file k) ≡ kind (get_or file k 0)
    unfolding starts_with
    starts_some h = rw (one_more h)

    pub starts_none : length file ≤ k → starts_with kind (bytes_from file k) ≡ false
    unfolding starts_with
    starts_none h = rw (none_more h)

    pub run_on : k < length file → kind (get_or file k 0) ≡ true
        → behind kind (bytes_from file k) ≡ behind kind (bytes_from file (k + 1))
    unfolding behind
    run_on h is = rw (add-one k, one_more h, is)

    pub run_over : k < length file → kind (get_or file k 0) ≡ false
        → behind kind (bytes_from file k) ≡ bytes_from file k
    unfolding behind
    run_over h is = rw (one_more h, is)

    pub run_ended : length file ≤ k → behind kind (bytes_from file k) ≡ bytes_from file k
    unfolding behind
    run_ended h = rw (none_more h)

  pub number_on : (n : ℕ) → k < length file → is_digit (get_or file k 0) ≡ true
      → numeral n (bytes_from file k) ≡ numeral (n * 10 + (get_or file k 0 - 48)) (bytes_from file (k + 1))
  unfolding numeral
  number_on n h is = rw (add-one k, one_more h, is)

  pub number_over : (n : ℕ) → k < length file → is_digit (get_or file k 0) ≡ false → numeral n (bytes_from file k) ≡ n
  unfolding numeral
  number_over n h is = rw (one_more h, is)

  pub number_ended : (n : ℕ) → length file ≤ k → numeral n (bytes_from file k) ≡ n
  unfolding numeral
  number_ended n h = rw (none_more h)

-- a function that is passed on as a test computes what its contract says
pub itself : (test : ℕ → Bool) → Computes (λ b r. r ≡ test b) test
itself test = record { is = λ b r h e. e }

pub stands_first : {file : List ℕ} {bytes : List Byte} {k : ℕ} → Stands file bytes k → k ≡ first_place file bytes
stands_first {file} {bytes} {k} s = first_here file k (here s) ∙ ap (first_place file) s.rest
