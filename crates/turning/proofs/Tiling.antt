-- Tiles copied and shuffled byte by byte, and what four shuffles make of a tile.
-- Assumes nothing.
use Rattle.std.proofs.Common.{◌≡◌, ℕ, zero, suc, ◌+◌, ◌*◌, ◌/◌, ◌%◌, ◌<◌, Bool, true, ◌&&◌, eqb, List, length, get_or}
use Rattle.std.proofs.Common.{set, refl, ap, ◌∙◌, ⊎_elim, le_of_suc-le-suc, eq-or-lt_of_le, arith, length-set}
use Rattle.std.proofs.Common.{get_or-set_other, get_or-set_same, below_more, eqb-true}
use mathlib.Core.Bool.{and-eq-true_iff}
use mathlib.Core.Logic.{by_cases}
use native.Mathlib.Decide.{dec_lt}
use Rattle.turning.specs.Tiles.{Copied, Shuffled, Transposed}

pub copied_more :
    (n : ℕ) (from : List ℕ) (a b : ℕ) (before after : List ℕ) → b + n < length after → Copied n from a b before after
    → Copied (n + 1) from a b before (set after (b + n) (get_or from (a + n) 0))
copied_more n from a b before after room so_far =
    record {
      size = length-set after (b + n) (get_or from (a + n) 0) ∙ so_far.size;
      each =
          below_more (λ (k : ℕ). get_or (set after (b + n) (get_or from (a + n) 0)) (b + k) 0 ≡ get_or from (a + k) 0) n
          (λ k l. get_or-set_other after (b + n) (b + k) (get_or from (a + n) 0) 0 (λ e. omega arith) ∙ so_far.each k l)
          (get_or-set_same after (b + n) (get_or from (a + n) 0) 0 room);
      below = λ i l. get_or-set_other after (b + n) i (get_or from (a + n) 0) 0 (λ e. omega arith) ∙ so_far.below i l;
      above = λ i l.
          get_or-set_other after (b + n) i (get_or from (a + n) 0) 0 (λ e. omega arith) ∙ so_far.above i (omega arith);
    }

module _ (n : ℕ) (x y : List ℕ) (v w : ℕ) where
  pub shuffled_more :
      n < 128 → v ≡ get_or x n 0 → w ≡ get_or x (128 + n) 0 → Shuffled n x y
      → Shuffled (n + 1) x (set (set y (2 * n) v) (2 * n + 1) w)
  shuffled_more l ev ew so_far =
      let long : length y ≡ 256 = so_far.size in
      let once : length (set y (2 * n) v) ≡ 256 = length-set y (2 * n) v ∙ long in
      record {
        size = length-set (set y (2 * n) v) (2 * n + 1) w ∙ once;
        even =
            below_more (λ (k : ℕ). get_or (set (set y (2 * n) v) (2 * n + 1) w) (2 * k) 0 ≡ get_or x k 0) n
            (λ k k-in. apart (2 * k) (λ e. omega arith) (λ e. omega arith) ∙ so_far.even k k-in)
            (get_or-set_other (set y (2 * n) v) (2 * n + 1) (2 * n) w 0 (λ e. omega arith)
            ∙ get_or-set_same y (2 * n) v 0 (omega arith)
            ∙ ev);
        odd =
            below_more (λ (k : ℕ). get_or (set (set y (2 * n) v) (2 * n + 1) w) (2 * k + 1) 0 ≡ get_or x (128 + k) 0) n
            (λ k k-in. apart (2 * k + 1) (λ e. omega arith) (λ e. omega arith) ∙ so_far.odd k k-in)
            (get_or-set_same (set y (2 * n) v) (2 * n + 1) w 0 (omega arith) ∙ ew);
      }
    where
      apart :
          (k : ℕ) → (k ≡ 2 * n → ⊥) → (k ≡ 2 * n + 1 → ⊥)
          → get_or (set (set y (2 * n) v) (2 * n + 1) w) k 0 ≡ get_or y k 0
      apart k p q = get_or-set_other (set y (2 * n) v) (2 * n + 1) k w 0 q ∙ get_or-set_other y (2 * n) k v 0 p

-- where a shuffle takes the byte of a place from: the place's last bit becomes its first
unfoldable cut : ℕ → ℕ
cut k = k % 2 * 128 + k / 2

cut_in : (k : ℕ) → k < 256 → cut k < 256
unfolding cut
cut_in k l = omega arith

shuffled_at : (x y : List ℕ) → Shuffled 128 x y → (k : ℕ) → k < 256 → get_or y k 0 ≡ get_or x (cut k) 0
unfolding cut
shuffled_at x y s k l =
    by_cases (dec_lt (k % 2) 1)
    (λ z.
    let place : k ≡ 2 * (k / 2) = omega arith in
    let source : k / 2 ≡ k % 2 * 128 + k / 2 = omega arith in
    ap (λ (m : ℕ). get_or y m 0) place ∙ s.even (k / 2) (omega arith) ∙ ap (λ (m : ℕ). get_or x m 0) source)
    (λ z.
    let place : k ≡ 2 * (k / 2) + 1 = omega arith in
    let source : 128 + k / 2 ≡ k % 2 * 128 + k / 2 = omega arith in
    ap (λ (m : ℕ). get_or y m 0) place ∙ s.odd (k / 2) (omega arith) ∙ ap (λ (m : ℕ). get_or x m 0) source)

-- a test that holds of each number below n
every : (ℕ → Bool) → ℕ → Bool
every test zero = true
every test (suc n) = test n && every test n

every_at : (test : ℕ → Bool) (n : ℕ) → every test n ≡ true → (k : ℕ) → k < n → test k ≡ true
unfolding every
every_at test zero h k l = absurd (omega arith)
every_at test (suc n) h k l =
    let both = (and-eq-true_iff (test n) (every test n)).0 h in
    ⊎_elim (λ e. ap test e ∙ both.0) (λ less. every_at test n both.1 k less) (eq-or-lt_of_le (le_of_suc-le-suc l))

-- four of them exchange row and column, tried at each place of a tile
exchanged : ℕ → Bool
exchanged k = eqb (cut (cut (cut (cut k)))) (16 * (k % 16) + k / 16)

everywhere : every exchanged 256 ≡ true
unfolding every exchanged cut
everywhere = refl

cut_four : (a b : ℕ) → a < 16 → b < 16 → cut (cut (cut (cut (16 * a + b)))) ≡ 16 * b + a
unfolding exchanged
cut_four a b a_in b-in =
    let place : 16 * a + b < 256 = omega arith in
    let column : (16 * a + b) % 16 ≡ b = omega arith in
    let row : (16 * a + b) / 16 ≡ a = omega arith in
    let found : cut (cut (cut (cut (16 * a + b)))) ≡ 16 * ((16 * a + b) % 16) + (16 * a + b) / 16 =
    eqb-true _ _ (every_at exchanged 256 everywhere (16 * a + b) place) in
    found ∙ (rw (column, row))

pub four_shuffles :
    (x y z u v : List ℕ) → Shuffled 128 x y → Shuffled 128 y z → Shuffled 128 z u → Shuffled 128 u v → Transposed x v
four_shuffles x y z u v one two three four =
    record {
      size = four.size;
      turned = λ a b a_in b-in.
          let k = 16 * a + b in
          let l : 16 * a + b < 256 = omega arith in
          shuffled_at u v four k l
          ∙ shuffled_at z u three (cut k) (cut_in k l)
          ∙ shuffled_at y z two (cut (cut k)) (cut_in (cut k) (cut_in k l))
          ∙ shuffled_at x y one (cut (cut (cut k))) (cut_in (cut (cut k)) (cut_in (cut k) (cut_in k l)))
          ∙ ap (λ (m : ℕ). get_or x m 0) (cut_four a b a_in b-in);
    }
