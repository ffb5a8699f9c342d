-- How many digits a number has, and digits and lines put into a buffer, store by store. Assumes nothing.
use mathlib.Core.Path.{◌≡◌, refl, sym, ap, ◌∙◌}
use mathlib.Core.List.{List, [], ◌∷◌, ◌++◌}
use Prim.Native.Nat.{ℕ, zero, suc, ◌+◌, ◌-◌, ◌*◌, ◌^◌, ◌/◌, ◌%◌, ◌<◌, ◌≤◌, max}
use native.Mathlib.Nat.{add-zero, zero-add, pow-succ', one-le-pow}
use mathlib.Core.Logic.{by_cases}
use native.Mathlib.Decide.{dec_lt}
use native.Mathlib.Omega.{arith}
use lib.ListN.{length, set, drop}
use lib.Seq.{sets, sets-eq, set_comm}
use Rattle.heading.specs.Decimal.{decimal_small, decimal_more, length_small, length_more, some_digit, length_line}
use Rattle.heading.specs.Writing.{decimal, line, header_of}

-- a number from 10 ^ k on and below the next power has k + 1 digits
digits_by_power : (k n : ℕ) → 10 ^ k ≤ n → n < 10 * 10 ^ k → k + 1 ≡ length (decimal n)
digits_by_power zero n h l = omega (arith, length_small n (omega arith))
digits_by_power (suc k) n h l =
    let more = pow-succ' 10 k in
    let some = one-le-pow k 10 (omega arith) in
    let tenth = digits_by_power k (n / 10) (omega (arith, more)) (omega (arith, more)) in
    omega (arith, tenth, length_more n (omega (arith, more, some)))

-- 0 has as many as 1
pub digits_are : (n k : ℕ) → 10 ^ k ≤ max n 1 → max n 1 < 10 * 10 ^ k → k + 1 ≡ length (decimal n)
digits_are zero k h l = digits_by_power k 1 h l ∙ length_small 1 (omega arith) ∙ sym (length_small 0 (omega arith))
digits_are (suc n) k h l =
    let same : max (suc n) 1 ≡ suc n = omega arith in
    digits_by_power k (suc n) (rw same at h) (rw same at l)

-- whether a number has more digits than one
pub only_digit : (n : ℕ) → length (decimal n) ≤ 1 → n < 10
only_digit n h =
    by_cases (dec_lt n 10)
    (λ small. small)
    (λ large. absurd (omega (arith, length_more n (omega arith), some_digit (n / 10))))

pub more_digits : (n : ℕ) → 1 < length (decimal n) → 10 ≤ n
more_digits n h =
    by_cases (dec_lt n 10) (λ small. absurd (omega (arith, length_small n small))) (λ large. omega arith)

-- one run of stores behind the other
sets_append : (xs ys l : List ℕ) (at : ℕ) → sets l at (xs ++ ys) ≡ sets (sets l at xs) (at + length xs) ys
sets_append [] ys l at = ap (λ (i : ℕ). sets l i ys) (sym (add-zero at))
sets_append (x ∷ xs) ys l at =
    let next : suc at + length xs ≡ at + suc (length xs) = omega arith in
    sets_append xs ys (set l at x) (suc at) ∙ ap (λ (i : ℕ). sets (sets (set l at x) (suc at) xs) i ys) next

-- a run whose last element is stored first
last_first : (vs l : List ℕ) (at d : ℕ) → sets (set l (at + length vs) d) at vs ≡ sets l at (vs ++ (d ∷ []))
last_first [] l at d = ap (λ (i : ℕ). set l i d) (add-zero at)
last_first (v ∷ vs) l at d =
    let next : at + suc (length vs) ≡ suc at + length vs = omega arith in
    ap (λ (x : List ℕ). sets x (suc at) vs) (set_comm l (at + suc (length vs)) at d v (λ e. omega arith))
    ∙ ap (λ (i : ℕ). sets (set (set l at v) i d) (suc at) vs) next
    ∙ last_first vs (set l at v) (suc at) d

module _ (l : List ℕ) (at n d : ℕ) where
  -- with the last digit put, those of the tenth are to be put
  pub digit_put : (count : ℕ) → 10 ≤ n → count ≡ length (decimal n) → d ≡ 48 + n % 10
      → sets (set l (at + (count - 1)) d) at (decimal (n / 10)) ≡ sets l at (decimal n)
  digit_put count large e put =
      let place : at + (count - 1) ≡ at + length (decimal (n / 10)) = omega (arith, length_more n large) in
      rw (decimal_more n large, place, put) (last_first (decimal (n / 10)) l at (48 + n % 10))

  pub only_digit_put : n < 10 → d ≡ 48 + n → set l at d ≡ sets l at (decimal n)
  only_digit_put small put = rw (decimal_small n small, put) refl

-- a number, and its newline behind it
pub line_put : (l m : List ℕ) (at n end : ℕ) → end ≡ at + length (decimal n) → m ≡ sets l at (decimal n)
    → (end + 1 ≡ at + length (line (decimal n))) × (set m end 10 ≡ sets l at (line (decimal n)))
unfolding line
line_put l m at n end e put =
    (omega (arith, length_line n), rw (put, e) (sym (sets_append (decimal n) (10 ∷ []) l at)))

-- three lines behind the first
module _ (w h m : ℕ) (l first second third fourth : List ℕ) (at_second at-third : ℕ)
    (one : first ≡ sets l 0 (80 ∷ 53 ∷ 10 ∷ []))
    (two : second ≡ sets first 3 (line (decimal w)))
    (place-two : at_second ≡ 3 + length (line (decimal w)))
    (three : third ≡ sets second at_second (line (decimal h)))
    (place-three : at-third ≡ at_second + length (line (decimal h)))
    (four : fourth ≡ sets third at-third (line (decimal m))) where
  lines_put : sets l 0 (header_of w h m) ≡ fourth
  unfolding header_of line
  lines_put =
      rw (four, place-three, three, place-two, two, one)
      (sets_append (line (decimal w)) (line (decimal h) ++ line (decimal m)) (sets l 0 (80 ∷ 53 ∷ 10 ∷ [])) 3
      ∙ sets_append (line (decimal h)) (line (decimal m)) _ (3 + length (line (decimal w))))

  pub header_put : length (header_of w h m) ≤ length l → fourth ≡ header_of w h m ++ drop (length (header_of w h m)) l
  header_put room =
      sym lines_put
      ∙ sets-eq (header_of w h m) l 0 (omega arith)
      ∙ ap (λ (j : ℕ). header_of w h m ++ drop j l) (zero-add (length (header_of w h m)))
