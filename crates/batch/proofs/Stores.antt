-- The answers put into their buffer, store by store. Assumes nothing.
use mathlib.Core.Path.{◌≡◌, sym, ap, ◌∙◌}
use Rattle.refusal.specs.Answer.{Answer}
use mathlib.Core.List.{List, [], ◌++◌, append_assoc}
use Prim.Native.Nat.{ℕ, suc, ◌+◌, ◌-◌, ◌*◌, ◌≤◌}
use native.Mathlib.Nat.{zero-add}
use native.Mathlib.Numerals.{add-one}
use native.Mathlib.Omega.{arith}
use lib.ListN.{length, drop, replicate, length-replicate, replicate-append-replicate}
use lib.Seq.{sets, sets-eq, length-sets, drop_at}
use Rattle.tray.specs.Written.{cleared}
use Rattle.listing.specs.Numbers.{answers_needed, told}
use Rattle.batch.specs.Batch.{Lent, answer_at}
use Rattle.batch.specs.Call.{told_from, answers_of}
use Rattle.batch.proofs.Laws.{told_count}

-- what is stored and what is still to be stored make all
pub told_more : (l : Lent) (k n : ℕ) (a : Answer) (before after all : List ℕ) → a ≡ answer_at l k
    → after ≡ sets before (3 * k) (told a [])
    → sets before (3 * k) (told_from l k (suc n)) ≡ all
    → (length after ≡ length before) × (sets after (3 * (k + 1)) (told_from l (k + 1) n) ≡ all)
unfolding told_from
told_more l k n a before after all is put rest =
    let next : 3 * (k + 1) ≡ suc (suc (suc (3 * k))) = omega arith in (
      ap length put ∙ length-sets before (3 * k) (told a []),
      rw (put, next, add-one k, is) rest,
    )

-- cleared numbers from the n-th on
drop_cleared : (n m : ℕ) (rest : List ℕ) → n ≤ m → drop n (replicate m 0 ++ rest) ≡ replicate (m - n) 0 ++ rest
drop_cleared n m rest few =
    let parts : n + (m - n) ≡ m = omega arith in
    let first : List ℕ = replicate n 0 in
    let last : List ℕ = replicate (m - n) 0 in
    let none : ℕ = 0 in
    let whole : replicate m none ≡ first ++ last =
    sym (replicate-append-replicate n (m - n) none ∙ ap (λ (k : ℕ). replicate k none) parts) in
    ap (λ (zeros : List ℕ). drop n (zeros ++ rest)) whole
    ∙ ap (drop n) (append_assoc first last rest)
    ∙ drop_at first (last ++ rest) n (length-replicate n none)

-- all answers, stored over a cleared buffer
pub all_told : (l : Lent) (count : ℕ) (answers : List ℕ) → count ≤ 256 → answers_needed ≤ length answers
    → sets (cleared answers_needed answers) 0 (told_from l 0 count) ≡ answers_of l count ++ drop answers_needed answers
unfolding cleared answers_of
all_told l count answers few room =
    let size = told_count l 0 count in
    let zeros : List ℕ = replicate answers_needed 0 in
    let rest : List ℕ = drop answers_needed answers in
    sets-eq (told_from l 0 count) (zeros ++ rest) 0 (omega arith)
    ∙ ap (λ (n : ℕ). told_from l 0 count ++ drop n (zeros ++ rest)) (zero-add (length (told_from l 0 count)) ∙ size)
    ∙ ap (λ (tail : List ℕ). told_from l 0 count ++ tail) (drop_cleared (3 * count) answers_needed rest (omega arith))
    ∙ sym (append_assoc (told_from l 0 count) (replicate (answers_needed - 3 * count) 0) rest)
