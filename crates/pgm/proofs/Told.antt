-- A number as it is told in 64 bits. Assumes nothing.
use mathlib.Core.Path.{◌≡◌, sym, ◌∙◌}
use mathlib.Core.Logic.{by_cases}
use Prim.Native.Nat.{ℕ, ◌+◌, ◌-◌, ◌*◌, ◌≤◌, ◌<◌, min}
use native.Mathlib.Decide.{dec_lt}
use native.Mathlib.Omega.{arith}
use borrow.Author.Tests.{le-leb, lt-leb}
use mathlib.Core.Bool.{Bool, true, false, cond}
use mathlib.Core.List.{List, [], ◌∷◌}
use lib.Dec.{leb}
use Rattle.pgm.specs.Bytes.{Byte, is_digit, numeral}
use Rattle.pgm.specs.Reading.{largest, told}

grown_or_not : (digit : Bool) (n more : ℕ) → n ≤ more → n ≤ cond digit more n
grown_or_not true n more h = h
grown_or_not false n more h = omega arith

-- a number never falls as digits follow it
grows : (n : ℕ) (bytes : List Byte) → n ≤ numeral n bytes
unfolding numeral
grows n [] = omega arith
grows n (b ∷ bytes) =
    let next = n * 10 + (b.value - 48) in
    let more = grows next bytes in
    grown_or_not (is_digit b.value) n (numeral next bytes) (omega arith)

-- so it does not matter whether it is told before or behind them
pub told_number : (n : ℕ) (bytes : List Byte) → told (numeral (told n) bytes) ≡ told (numeral n bytes)
unfolding told
told_number n bytes =
    let m = grows n bytes in
    let l = grows largest bytes in
    by_cases (dec_lt largest n)
    (λ h. let e : min n largest ≡ largest = omega arith in rw e (omega arith))
    (λ h. let e : min n largest ≡ n = omega arith in rw e)

pub told_most : (n : ℕ) → told n ≤ largest
unfolding told
told_most n = omega arith

pub told_fits : {n : ℕ} → n ≤ largest → told n ≡ n
unfolding told
told_fits h = omega arith

-- and it is on the same side of what is told whole
pub told_above : (m n : ℕ) → m ≤ largest → leb m (told n) ≡ leb m n
unfolding told
told_above m n h =
    by_cases (dec_lt n m) (λ l. lt-leb m (min n largest) (omega arith) ∙ sym (lt-leb m n l))
    (λ l. le-leb m (min n largest) (omega arith) ∙ sym (le-leb m n (omega arith)))

pub told_below : (n m : ℕ) → m < largest → leb (told n) m ≡ leb n m
unfolding told
told_below n m h =
    by_cases (dec_lt m n) (λ l. lt-leb (min n largest) m (omega arith) ∙ sym (lt-leb n m l))
    (λ l. le-leb (min n largest) m (omega arith) ∙ sym (le-leb n m (omega arith)))
