-- Runs of bytes: one more byte, and that what is still to be read has not been written. Assumes nothing.
use mathlib.Core.Path.{◌≡◌, refl, subst, ap, ◌∙◌}
use mathlib.Core.Bool.{Bool, cond}
use mathlib.Core.List.{List}
use mathlib.Core.Logic.{⊎_elim}
use Prim.Native.Nat.{ℕ, ◌+◌, ◌-◌, ◌≤◌, ◌<◌}
use native.Mathlib.Nat.{zero-add}
use native.Mathlib.Omega.{arith}
use borrow.Author.Count.{below_more}
use lib.ListN.{length, get_or, take, drop, set, length-set}
use Rattle.std.proofs.lemmas.List.{length-take, length-drop, get_or-take, get_or-drop}
use lib.Seq.{get_or-set_same, get_or-set_other}
use Rattle.runs.specs.Scratch.{total}
use Rattle.runs.specs.Runs.{Apart, Filled, ChosenUnless, kept_or, compared_of}
use Rattle.runs.proofs.Totals.{total_more, total_most, total_alike, cond_most}

pub filled_none : (to : ℕ) (value : ℕ → ℕ) (old : List ℕ) → Filled to 0 value old old
filled_none to value old =
    record {
      kept = record { same_length = refl; below = λ k h. refl; above = λ k h. refl };
      made = λ k h. absurd (omega arith);
    }

module _ (to k : ℕ) (value : ℕ → ℕ) (old new : List ℕ) (done : Filled to k value old new) where
  pub unread : (from n : ℕ) → Apart to from n → k < n → get_or new (from + k) 0 ≡ get_or old (from + k) 0
  unread from n apart h =
      ⊎_elim (λ behind. done.kept.above (from + k) (omega arith)) (λ before. done.kept.below (from + k) (omega arith)) apart

  pub filled_more : (v : ℕ) → to + k < length new → v ≡ value k → Filled to (k + 1) value old (set new (to + k) v)
  filled_more v fits is =
      record {
        kept =
            record {
              same_length = length-set new (to + k) v ∙ done.kept.same_length;
              below = λ i h. get_or-set_other new (to + k) i v 0 (λ e. omega arith) ∙ done.kept.below i h;
              above = λ i h. get_or-set_other new (to + k) i v 0 (λ e. omega arith) ∙ done.kept.above i (omega arith);
            };
        made = below_more (λ (i : ℕ). get_or (set new (to + k) v) (to + i) 0 ≡ value i) k
            (λ i h. get_or-set_other new (to + k) (to + i) v 0 (λ e. omega arith) ∙ done.made i h)
            (get_or-set_same new (to + k) v 0 fits ∙ is);
      }

-- the same run under another name
pub filled_as : (to n : ℕ) (value value' : ℕ → ℕ) (old new : List ℕ) → ((k : ℕ) → k < n → value k ≡ value' k) → Filled to n value old new → Filled to n value' old new
filled_as to n value value' old new same filled = record { kept = filled.kept; made = λ k h. filled.made k h ∙ same k h }

-- ---- comparisons counted where a byte is not kept

pub compared_more : (keeps : ℕ → Bool) (k count more : ℕ) → count ≡ total (compared_of keeps) 0 k → more ≡ cond (keeps k) 0 1 → count + more ≡ total (compared_of keeps) 0 (k + 1)
compared_more keeps k count more so_far one = omega (arith, total_more (compared_of keeps) 0 k, ap (compared_of keeps) (zero-add k))

pub compared_few : (keeps : ℕ → Bool) (k : ℕ) → total (compared_of keeps) 0 k ≤ k
compared_few keeps k = total_most (compared_of keeps) (λ i. cond_most (keeps i)) 0 k

pub counted_few : (keeps : ℕ → Bool) (k count : ℕ) → count ≡ total (compared_of keeps) 0 k → count ≤ k
counted_few keeps k count is = omega (arith, is, compared_few keeps k)

-- ---- the marks of a part of the columns, cut out of all

module _ (marks : List ℕ) (at n : ℕ) (fits : at + n ≤ length marks) where
  abbrev own : List ℕ
  own = take (at + n - at) (drop at marks)

  own_length : length own ≡ n
  own_length =
      let whole : at + n - at ≡ n = omega arith in
      length-take (at + n - at) (drop at marks) ∙ omega (arith, length-drop at marks)

  own_read : (k : ℕ) → k < n → get_or own k 0 ≡ get_or marks (at + k) 0
  own_read k h = get_or-take (at + n - at) (drop at marks) k 0 (omega arith) ∙ get_or-drop at marks k 0

  pub chosen_own : (low : Bool) (kept : ℕ → Bool) (to first second : ℕ) (old new : List ℕ) → ChosenUnless low (λ k. kept (get_or own k 0)) to first second (length own) old new
      → ChosenUnless low (λ k. kept (get_or marks (at + k) 0)) to first second n old new
  chosen_own low kept to first second old new chosen =
      let read : ℕ → Bool → ℕ = λ k keep. kept_or low keep (get_or old (first + k) 0) (get_or old (second + k) 0) in
      filled_as to n _ _ old new (λ k h. ap (λ (q : ℕ). read k (kept q)) (own_read k h))
      (subst (λ (m : ℕ). ChosenUnless low (λ k. kept (get_or own k 0)) to first second m old new) own_length chosen)

  pub compared_own : (kept : ℕ → Bool) → total (compared_of (λ k. kept (get_or own k 0))) 0 (length own) ≡ total (compared_of (λ k. kept (get_or marks (at + k) 0))) 0 n
  compared_own kept =
      ap (total (compared_of (λ k. kept (get_or own k 0))) 0) own_length
      ∙ total_alike (compared_of (λ k. kept (get_or own k 0))) (compared_of (λ k. kept (get_or marks (at + k) 0))) 0 n (λ i lo hi. ap (λ (q : ℕ). cond (kept q) 0 1) (own_read i (omega arith)))
