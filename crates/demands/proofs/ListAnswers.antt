-- The numbers that a whole tray's call gives back, read off its definition.
-- Assumes nothing.
use mathlib.Core.Path.{◌≡◌, refl, ap, ap₂, ◌∙◌}
use mathlib.Core.List.{List, ◌++◌, append_assoc}
use Prim.Native.Nat.{ℕ, zero, suc, ◌+◌, ◌-◌, ◌*◌, ◌≤◌, ◌<◌}
use native.Mathlib.Nat.{add-zero, zero-add}
use native.Mathlib.Omega.{arith}
use lib.ListN.{length, get_or, drop, replicate, length-append, length-drop, length-replicate, get_or-replicate}
use lib.ListN.{get_or-append}
use lib.Seq.{get_or-append-add, get_or-drop}
use Rattle.refusal.specs.Answer.{number_of, place_of, work_in}
use Rattle.tray.specs.Laws.{cleared_below, cleared_above, length_cleared}
use Rattle.listing.specs.Numbers.{answers_needed, told}
use Rattle.batch.specs.Batch.{Lent, lent, answer_at}
use Rattle.batch.specs.Call.{told_from, answers_of, list_answers_after}
use Rattle.batch.proofs.Laws.{list_runs, told_count, answers_at_18, answers_at_100, answers_run, answers_either}
use Rattle.demands.specs.Lists.{ListRun, ListSame, ListTold, ListZeroPast, ListZeroAt18, ListUntoldAt100}
use Rattle.demands.specs.Lists.{ListAnswersKept, ListAnswersLength}
use Rattle.demands.proofs.Lists.{answer_same}

-- ---- no byte of the trays counts

told_same : (l l' : Lent) → ((k : ℕ) → answer_at l k ≡ answer_at l' k) → (k n : ℕ) → told_from l k n ≡ told_from l' k n
unfolding told_from
told_same l l' same k zero = refl
told_same l l' same k (suc n) = ap₂ told (same k) (told_same l l' same (suc k) n)

pub list_same : ListSame
unfolding list_answers_after answers_of
list_same count jobs tickets source source' out out' scratch scratch' answers same =
    let l : Lent = lent jobs tickets source out scratch in
    let l' : Lent = lent jobs tickets source' out' scratch' in
    rw (told_same l l' (λ k. answer_same jobs tickets source source' out out' scratch scratch' k same) 0 count) refl

-- ---- number by number

pub list_untold_at_100 : ListUntoldAt100
list_untold_at_100 count l answers e = answers_at_100 count l answers e

pub list_zero_at_18 : ListZeroAt18
list_zero_at_18 count l answers i e below =
    ap (λ (numbers : List ℕ). get_or numbers i 0) (answers_at_18 count l answers e)
    ∙ cleared_below answers_needed answers i below

-- the answer to job k + j, behind those to the jobs from k on before it
told_at :
    (l : Lent) (rest : List ℕ) (k n j : ℕ) → j < n
    → (get_or (told_from l k n ++ rest) (3 * j) 0 ≡ number_of (answer_at l (k + j)))
    × (get_or (told_from l k n ++ rest) (3 * j + 1) 0 ≡ place_of (answer_at l (k + j)))
    × (get_or (told_from l k n ++ rest) (3 * j + 2) 0 ≡ work_in (answer_at l (k + j)))
unfolding told_from
told_at l rest k zero j below = absurd (omega arith)
told_at l rest k (suc n) zero below = rw (add-zero k) (refl, refl, refl)
told_at l rest k (suc n) (suc j) below =
    let numbers : List ℕ = told_from l k (suc n) ++ rest in
    let more = told_at l rest (suc k) n j (omega arith) in
    let job : suc k + j ≡ k + suc j = omega arith in
    let at : 3 * suc j ≡ suc (suc (suc (3 * j))) = omega arith in
    let next : 3 * suc j + 1 ≡ suc (suc (suc (3 * j + 1))) = omega arith in
    let last : 3 * suc j + 2 ≡ suc (suc (suc (3 * j + 2))) = omega arith in (
      ap (λ (i : ℕ). get_or numbers i 0) at ∙ more.0 ∙ ap (λ (m : ℕ). number_of (answer_at l m)) job,
      ap (λ (i : ℕ). get_or numbers i 0) next ∙ more.1 ∙ ap (λ (m : ℕ). place_of (answer_at l m)) job,
      ap (λ (i : ℕ). get_or numbers i 0) last ∙ more.2 ∙ ap (λ (m : ℕ). work_in (answer_at l m)) job,
    )

-- the numbers of a list that is run, from the left
parts :
    (count : ℕ) (l : Lent) (answers : List ℕ) → ListRun count l answers
    → list_answers_after count l answers
    ≡ told_from l 0 count ++ (replicate (answers_needed - 3 * count) 0 ++ drop answers_needed answers)
unfolding answers_of
parts count l answers run =
    answers_run count l answers run
    ∙ append_assoc (told_from l 0 count) (replicate (answers_needed - 3 * count) 0) (drop answers_needed answers)

pub list_told : ListTold
list_told count l answers k run below =
    let rest : List ℕ = replicate (answers_needed - 3 * count) 0 ++ drop answers_needed answers in
    let stored = rw (zero-add k) at (told_at l rest 0 count k below) in
    rw (parts count l answers run) stored

pub list_zero_past : ListZeroPast
list_zero_past count l answers i run past below =
    let few = (list_runs count (length l.jobs) (length answers) run).few in
    let size = told_count l 0 count in
    let zeros : List ℕ = replicate (answers_needed - 3 * count) 0 in
    let rest : List ℕ = drop answers_needed answers in
    let at : i ≡ length (told_from l 0 count) + (i - 3 * count) = omega arith in
    let long = length-replicate {A = ℕ} (answers_needed - 3 * count) 0 in
    let here : i - 3 * count < length zeros = rw long (omega arith) in
    ap (λ (numbers : List ℕ). get_or numbers i 0) (parts count l answers run)
    ∙ ap (λ (n : ℕ). get_or (told_from l 0 count ++ (zeros ++ rest)) n 0) at
    ∙ get_or-append-add (told_from l 0 count) (zeros ++ rest) (i - 3 * count) 0
    ∙ get_or-append zeros rest 0 (i - 3 * count) here
    ∙ get_or-replicate (answers_needed - 3 * count) (i - 3 * count) 0 0 (omega arith)

-- ---- numbers past the answers

-- the numbers of a list that is run are as many as its answers need
answers_count : (l : Lent) (count : ℕ) → count ≤ 256 → length (answers_of l count) ≡ answers_needed
unfolding answers_of
answers_count l count few =
    let size = told_count l 0 count in
    let zeros : List ℕ = replicate (answers_needed - 3 * count) 0 in
    let rest : length zeros ≡ answers_needed - 3 * count = length-replicate {A = ℕ} (answers_needed - 3 * count) 0 in
    length-append (told_from l 0 count) zeros ∙ omega arith

pub list_answers_kept : ListAnswersKept
list_answers_kept count l answers i past =
    answers_either (λ (numbers : List ℕ). get_or numbers i 0 ≡ get_or answers i 0) count l answers refl
    (λ room. cleared_above answers_needed answers i past)
    (λ runs.
    let size = answers_count l count runs.few in
    let at : i ≡ length (answers_of l count) + (i - answers_needed) = omega arith in
    let same : answers_needed + (i - answers_needed) ≡ i = omega arith in
    ap (λ (n : ℕ). get_or (answers_of l count ++ drop answers_needed answers) n 0) at
    ∙ get_or-append-add (answers_of l count) (drop answers_needed answers) (i - answers_needed) 0
    ∙ get_or-drop answers_needed answers (i - answers_needed) 0
    ∙ ap (λ (n : ℕ). get_or answers n 0) same)

pub list_answers_length : ListAnswersLength
list_answers_length count l answers =
    answers_either (λ (numbers : List ℕ). length numbers ≡ length answers) count l answers refl
    (λ room. length_cleared answers_needed answers room)
    (λ runs.
    let size = answers_count l count runs.few in
    let rest = length-drop answers_needed answers in
    length-append (answers_of l count) (drop answers_needed answers) ∙ omega (arith, runs.room))
