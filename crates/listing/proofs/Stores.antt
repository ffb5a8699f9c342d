-- An answer put into its place, store by store. Assumes nothing.
use Rattle.std.proofs.Common.{◌≡◌, ℕ, suc, ◌+◌, ◌*◌, List, [], ◌∷◌, set, refl, ap, ◌∙◌, ap₂, arith}
use lib.Seq.{sets}
use Rattle.refusal.specs.Answer.{number_of, place_of, work_in, Answer}
use Rattle.listing.specs.Numbers.{told}

three_stores : (l : List ℕ) (at a b c : ℕ) → set (set (set l at a) (at + 1) b) (at + 2) c ≡ sets l at (a ∷ b ∷ c ∷ [])
three_stores l at a b c =
    let one : at + 1 ≡ suc at = omega arith in
    let two : at + 2 ≡ suc (suc at) = omega arith in
    rw (one, two) refl

pub answer_put : (l : List ℕ) (k : ℕ) (a : Answer) (number place work : ℕ) → number ≡ number_of a → place ≡ place_of a
    → work ≡ work_in a
    → set (set (set l (3 * k) number) (3 * k + 1) place) (3 * k + 2) work ≡ sets l (3 * k) (told a [])
answer_put l k a number place work is_number is-place is-work =
    three_stores l (3 * k) number place work
    ∙ ap (λ (n : ℕ). sets l (3 * k) (n ∷ place ∷ work ∷ [])) is_number
    ∙ ap₂ (λ (p w : ℕ). sets l (3 * k) (number_of a ∷ p ∷ w ∷ [])) is-place is-work
