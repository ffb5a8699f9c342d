-- Laws of a number's decimal digits: the last stands behind the digits of the tenth, and how many there are.
-- Assumes nothing.
use Rattle.std.specs.Prelude.{◌≡◌, List, [], ◌∷◌, ◌++◌, ℕ, zero, suc, ◌+◌, ◌*◌, ◌/◌, ◌%◌, ◌<◌, ◌≤◌, length}
use Rattle.std.proofs.Common.{sym, ap, ◌∙◌, arith, lt-ltb, le-ltb, length-append}
use Rattle.std.proofs.Math.Logic.{by_cases}
use Rattle.std.proofs.Math.Decide.{dec_lt}
use Rattle.heading.specs.Writing.{decimal_in, decimal, line, header_of}

-- ---- the last digit

in_small : (most n : ℕ) → n < 10 → decimal_in (suc most) n ≡ (48 + n) ∷ []
unfolding decimal_in
in_small most n small = rw (lt-ltb n 10 small)

in_more : (most n : ℕ) → 10 ≤ n → decimal_in (suc most) n ≡ decimal_in most (n / 10) ++ ((48 + n % 10) ∷ [])
unfolding decimal_in
in_more most n large = rw (le-ltb n 10 large)

-- for how many digits there is room does not matter, where there is enough
enough : (most other n : ℕ) → n ≤ most → n ≤ other → decimal_in (suc most) n ≡ decimal_in (suc other) n
enough zero other n h k = in_small zero n (omega arith) ∙ sym (in_small other n (omega arith))
enough (suc most) zero n h k = in_small (suc most) n (omega arith) ∙ sym (in_small zero n (omega arith))
enough (suc most) (suc other) n h k =
    by_cases (dec_lt n 10)
    (λ small. in_small (suc most) n small ∙ sym (in_small (suc other) n small))
    (λ large.
    in_more (suc most) n (omega arith)
    ∙ ap (λ (ds : List ℕ). ds ++ ((48 + n % 10) ∷ [])) (enough most other (n / 10) (omega arith) (omega arith))
    ∙ sym (in_more (suc other) n (omega arith)))

pub decimal_small : (n : ℕ) → n < 10 → decimal n ≡ (48 + n) ∷ []
unfolding decimal
decimal_small n small = in_small n n small

pub decimal_more : (n : ℕ) → 10 ≤ n → decimal n ≡ decimal (n / 10) ++ ((48 + n % 10) ∷ [])
unfolding decimal
decimal_more zero large = absurd (omega arith)
decimal_more (suc n) large =
    in_more (suc n) (suc n) large
    ∙ rw (enough n (suc n / 10) (suc n / 10) (omega arith) (omega arith))

-- so what holds of one digit, and of a number if of its tenth, holds of every number
pub by_digits : (P : ℕ → Type 0) → ((n : ℕ) → n < 10 → P n) → ((n : ℕ) → 10 ≤ n → P (n / 10) → P n) → (n : ℕ) → P n
by_digits P one more n = up_to n n (omega arith)
  where
    up_to : (most n : ℕ) → n ≤ most → P n
    up_to zero n h = one n (omega arith)
    up_to (suc most) n h =
        by_cases (dec_lt n 10) (one n) (λ large. more n (omega arith) (up_to most (n / 10) (omega arith)))

-- ---- how many there are

pub length_small : (n : ℕ) → n < 10 → length (decimal n) ≡ 1
length_small n small = ap length (decimal_small n small)

pub length_more : (n : ℕ) → 10 ≤ n → length (decimal n) ≡ length (decimal (n / 10)) + 1
length_more n large = ap length (decimal_more n large) ∙ length-append (decimal (n / 10)) ((48 + n % 10) ∷ [])

pub some_digit : (n : ℕ) → 1 ≤ length (decimal n)
some_digit n =
    by_cases (dec_lt n 10)
    (λ small. omega (arith, length_small n small))
    (λ large. omega (arith, length_more n (omega arith)))

-- one and k zeros
tens : ℕ → ℕ
tens zero = 1
tens (suc k) = 10 * tens k

below_tens : (k n : ℕ) → n < tens (suc k) → length (decimal n) ≤ suc k
unfolding tens
below_tens zero n h = omega (arith, length_small n (omega arith))
below_tens (suc k) n h =
    by_cases (dec_lt n 10)
    (λ small. omega (arith, length_small n small))
    (λ large. omega (arith, length_more n (omega arith), below_tens k (n / 10) (omega arith)))

-- a number of 64 bits has at most 20
pub most_digits : (n : ℕ) → n ≤ 18446744073709551615 → length (decimal n) ≤ 20
unfolding tens
most_digits n h = below_tens 19 n (omega arith)

-- ---- how long a line and a header are

pub length_line : (n : ℕ) → length (line (decimal n)) ≡ length (decimal n) + 1
unfolding line
length_line n = length-append (decimal n) (10 ∷ [])

pub length_header : (w h m : ℕ)
    → length (header_of w h m) ≡ length (decimal w) + length (decimal h) + length (decimal m) + 6
unfolding header_of line
length_header w h m = simp length-append (omega arith)
