-- The laws of the scheme along one line (Block): how a running extreme goes on from the step before or after it,
-- and how a result is made of at most two of them, with its cost.
-- Assumes nothing.
use Rattle.std.specs.Prelude.{◌≡◌, Bool, false, ◌||◌, ◌⊎◌, eqb}
use Rattle.std.proofs.Math.Path.{sym, ap}
use Rattle.std.proofs.Common.{ap₂, ◌∙◌, inl, inr, add-sub_cancel, eq-eqb, ne_eqb}
use Rattle.std.proofs.Math.Bool.{cond, or-true}
use Rattle.std.proofs.Math.Logic.{⊎_elim, by_cases}
use Prim.Native.Nat.{ℕ, suc, ◌+◌, ◌-◌, ◌*◌, ◌/◌, ◌%◌, ◌≤◌, ◌<◌, min}
use Rattle.std.proofs.Math.Nat.{suc-mod, mod_self, mod-eq_of_lt, mod-lt, mod-le, add-mod_right, mod-add-mod, mul-add-div, div-add-mod, div-eq_of_lt, div-eq-sub-div, add_assoc, mul-mod_right}
use Rattle.std.proofs.Math.Decide.{dec_lt}
use native.Mathlib.Omega.{arith}
use Rattle.runs.specs.Span.{chosen, span, span_one, span_join, span_first, span_last}
use Rattle.runs.specs.Block.{block_start, block_end, from_start, to_end, windowed, rightward, leftward, resulting}

-- the next step is one further into its block, or begins one
pub mod_next : (L j : ℕ) → 0 < L → ((suc j % L ≡ suc (j % L)) × (suc (j % L) < L)) ⊎ ((suc j % L ≡ 0) × (suc (j % L) ≡ L))
mod_next L j h =
    by_cases (dec_lt (suc (j % L)) L)
    (λ g. inl (suc-mod j L ∙ mod-eq_of_lt g, g))
    (λ g.
    let e : suc (j % L) ≡ L = omega (arith, mod-lt j h) in
    inr (suc-mod j L ∙ ap (λ (q : ℕ). q % L) e ∙ mod_self L, e))

-- ---- the running extremes

pub from_start_first : (low : Bool) (L : ℕ) (f : ℕ → ℕ) (j : ℕ) → j % L ≡ 0 → from_start low L f j ≡ f j
unfolding from_start block_start
from_start_first low L f j e =
    let s : j - j % L ≡ j = omega arith in
    ap (λ (i : ℕ). span low f i j) s ∙ span_one low f j

pub from_start_next : (low : Bool) (L : ℕ) (f : ℕ → ℕ) (j : ℕ) → 0 < L → 0 < suc j % L → from_start low L f (suc j) ≡ chosen low (from_start low L f j) (f (suc j))
unfolding from_start block_start
from_start_next low L f j h g =
    let m : suc j % L ≡ suc (j % L) = ⊎_elim (λ w. w.0) (λ w. omega arith) (mod_next L j h) in
    let s : suc j - suc j % L ≡ j - j % L = omega arith in
    ap (λ (i : ℕ). span low f i (suc j)) s ∙ span_last low f (j - j % L) j (omega arith)

pub to_end_last : (low : Bool) (L n : ℕ) (f : ℕ → ℕ) (j : ℕ) → 0 < L → j < n → (suc j % L ≡ 0) ⊎ (suc j ≡ n) → to_end low L n f j ≡ f j
unfolding to_end block_end block_start
to_end_last low L n f j h g ends =
    let m : j % L ≤ j = mod-le j L in
    let k : j % L < L = mod-lt j h in
    let full : suc j % L ≡ 0 → suc (j % L) ≡ L = λ z. ⊎_elim (λ w. omega arith) (λ w. w.1) (mod_next L j h) in
    let e : min (j - j % L + (L - 1)) (n - 1) ≡ j = ⊎_elim (λ z. omega (arith, full z)) (λ z. omega arith) ends in
    ap (span low f j) e ∙ span_one low f j

pub to_end_next : (low : Bool) (L n : ℕ) (f : ℕ → ℕ) (j : ℕ) → 0 < L → 0 < suc j % L → suc j < n → to_end low L n f j ≡ chosen low (f j) (to_end low L n f (suc j))
unfolding to_end block_end block_start
to_end_next low L n f j h g on =
    let m : suc j % L ≡ suc (j % L) = ⊎_elim (λ w. w.0) (λ w. omega arith) (mod_next L j h) in
    let k : suc j % L < L = mod-lt (suc j) h in
    let q : j % L ≤ j = mod-le j L in
    let e : min (j - j % L + (L - 1)) (n - 1) ≡ min (suc j - suc j % L + (L - 1)) (n - 1) = ap (λ (s : ℕ). min (s + (L - 1)) (n - 1)) (omega arith) in
    span_first low f j (min (j - j % L + (L - 1)) (n - 1)) (omega arith) ∙ ap (λ (i : ℕ). chosen low (f j) (span low f (suc j) i)) e

-- and what they cost
pub rightward_first : (L j : ℕ) → j % L ≡ 0 → 0 ≡ rightward L j
unfolding rightward
rightward_first L j e = sym (ap (λ (q : Bool). cond q 0 1) (eq-eqb _ _ e))

pub rightward_next : (L j : ℕ) → 0 < j % L → 1 ≡ rightward L j
unfolding rightward
rightward_next L j g = sym (ap (λ (q : Bool). cond q 0 1) (ne_eqb (j % L) 0 (λ e. omega arith)))

pub leftward_last : (L n j : ℕ) → (suc j % L ≡ 0) ⊎ (suc j ≡ n) → 0 ≡ leftward L n j
unfolding leftward
leftward_last L n j ends =
    ⊎_elim
    (λ e. sym (ap (λ (q : Bool). cond (q || eqb (suc j) n) 0 1) (eq-eqb _ _ e)))
    (λ e. sym (ap (λ (q : Bool). cond (eqb (suc j % L) 0 || q) 0 1) (eq-eqb _ _ e) ∙ ap (λ (q : Bool). cond q 0 1) (or-true (eqb (suc j % L) 0))))
    ends

pub leftward_next : (L n j : ℕ) → 0 < suc j % L → suc j < n → 1 ≡ leftward L n j
unfolding leftward
leftward_next L n j g on =
    let blocks : eqb (suc j % L) 0 ≡ false = ne_eqb (suc j % L) 0 (λ e. omega arith) in
    let ends : eqb (suc j) n ≡ false = ne_eqb (suc j) n (λ e. omega arith) in
    sym (ap₂ (λ (p q : Bool). cond (p || q) 0 1) blocks ends)

-- ---- results: the window of step s + a begins at step s

block_same : (L s d : ℕ) → 0 < L → s % L + d < L → (s + d) / L ≡ s / L
block_same L s d h g =
    let e : s + d ≡ L * (s / L) + (s % L + d) = omega (arith, div-add-mod s L) in
    let z : (s % L + d) / L ≡ 0 = div-eq_of_lt g in
    let sum : s / L + (s % L + d) / L ≡ s / L = omega arith in
    ap (λ (q : ℕ). q / L) e ∙ mul-add-div h (s / L) (s % L + d) ∙ sum

block_differs : (L s d : ℕ) → 0 < L → L ≤ s % L + d → s / L ≡ (s + d) / L → ⊥
block_differs L s d h g same =
    let e : s + d ≡ L * (s / L) + (s % L + d) = omega (arith, div-add-mod s L) in
    let z : (s % L + d) / L ≡ (s % L + d - L) / L + 1 = div-eq-sub-div h g in
    let sum : (s + d) / L ≡ s / L + (s % L + d) / L = ap (λ (q : ℕ). q / L) e ∙ mul-add-div h (s / L) (s % L + d) in
    omega arith

-- the first step of the next block begins one
start_mod : (L s e : ℕ) → 0 < L → e + s % L ≡ s + L → e % L ≡ 0
start_mod L s e h begins =
    let x : e ≡ L * (s / L) + L = omega (arith, div-add-mod s L, mod-le s L) in
    ap (λ (i : ℕ). i % L) x ∙ add-mod_right (L * (s / L)) L ∙ mul-mod_right L (s / L)

next_start : (L a b s q before : ℕ) → L ≡ suc (a + b) → q ≤ s → q ≡ suc before → s + a + b - before ≡ suc (s - q + (L - 1))
next_start L a b s q before whole r m = omega arith

in_block : (L s q : ℕ) → q < L → q ≤ s → s ≤ s - q + (L - 1)
in_block L s q h r = omega arith

before_end : (L a b s q : ℕ) → L ≡ suc (a + b) → q ≤ s → 0 < q → s - q + (L - 1) < s + a + b
before_end L a b s q whole r p = omega arith

min_cut : (e q L n : ℕ) → q ≡ 0 → n ≤ e + L → min (e - q + (L - 1)) (n - 1) ≡ n - 1
min_cut e q L n z h = omega arith

-- d steps on from a step, less than a block, the same block or the next
mod_on : (L s d : ℕ) → 0 < L → s % L + d < L → (s + d) % L ≡ s % L + d
mod_on L s d h k = sym (mod-add-mod s L d) ∙ mod-eq_of_lt k

mod_past : (L s d : ℕ) → 0 < L → d < L → L ≤ s % L + d → (s + d) % L + L ≡ s % L + d
mod_past L s d h k past =
    let rest : ℕ = s % L + d - L in
    let is : s % L + d ≡ rest + L = omega arith in
    let low : rest < L = omega (arith, mod-lt s h) in
    let back : (s + d) % L ≡ rest = sym (mod-add-mod s L d) ∙ ap (λ (q : ℕ). q % L) is ∙ add-mod_right rest L ∙ mod-eq_of_lt low in
    omega arith

module _ (L n a b s : ℕ) (whole : L ≡ suc (a + b)) where
  -- the cost, once it is known where the window ends
  cost_none : (d : ℕ) → min (s + a + b) (n - 1) ≡ s + d → s % L + d < L → resulting L n a b (s + a) ≡ 0
  unfolding resulting
  cost_none d e g =
      let h : 0 < L = omega arith in
      let q : (s + a - a) / L ≡ min (s + a + b) (n - 1) / L =
      ap (λ (i : ℕ). i / L) (add-sub_cancel s a) ∙ sym (block_same L s d h g) ∙ ap (λ (i : ℕ). i / L) (sym e) in
      ap (λ (t : Bool). cond t 0 1) (eq-eqb _ _ q)

  cost_one : (d : ℕ) → min (s + a + b) (n - 1) ≡ s + d → L ≤ s % L + d → resulting L n a b (s + a) ≡ 1
  unfolding resulting
  cost_one d e g =
      let h : 0 < L = omega arith in
      ap (λ (t : Bool). cond t 0 1)
      (ne_eqb _ _ (λ q. block_differs L s d h g (ap (λ (i : ℕ). i / L) (sym (add-sub_cancel s a)) ∙ q ∙ ap (λ (i : ℕ). i / L) e)))

  module _ (low : Bool) (f : ℕ → ℕ) (inLine : s + a < n) where
    -- a window that begins with its block ends with it
    pub result_whole : s % L ≡ 0 → (windowed low n a b f (s + a) ≡ to_end low L n f s) × (resulting L n a b (s + a) ≡ 0)
    unfolding windowed to_end block_end block_start
    result_whole z =
        let e : min (s + a + b) (n - 1) ≡ min (s - s % L + (L - 1)) (n - 1) = ap (λ (i : ℕ). min i (n - 1)) (omega arith) in
        let d : min (s + a + b) (n - 1) ≡ s + (min (s + a + b) (n - 1) - s) = omega arith in (
          ap (λ (i : ℕ). span low f i (min (s + a + b) (n - 1))) (add-sub_cancel s a) ∙ ap (span low f s) e,
          cost_none (min (s + a + b) (n - 1) - s) d (omega arith),
        )

    -- and what is from its start is all of it
    pub result_block : s % L ≡ 0 → s + a + b < n → windowed low n a b f (s + a) ≡ from_start low L f (s + a + b)
    unfolding windowed from_start block_start
    result_block z on =
        let h : 0 < L = omega arith in
        let last : min (s + a + b) (n - 1) ≡ s + a + b = omega arith in
        let far : (s + a + b) % L ≡ a + b = ap (λ (i : ℕ). i % L) (add_assoc s a b) ∙ mod_on L s (a + b) h (omega arith) ∙ omega arith in
        let begins : s ≡ s + a + b - (s + a + b) % L = omega arith in
        ap (λ (i : ℕ). span low f i (min (s + a + b) (n - 1))) (add-sub_cancel s a) ∙ ap (span low f s) last ∙ ap (λ (i : ℕ). span low f i (s + a + b)) begins

    -- one that crosses into the next block: the rest of its block, and what the next has up to its end
    pub result_across : 0 < s % L → s + a + b < n
        → (windowed low n a b f (s + a) ≡ chosen low (to_end low L n f s) (from_start low L f (s + a + b)))
        × (resulting L n a b (s + a) ≡ 1)
    unfolding windowed to_end from_start block_end block_start
    result_across p on =
        let last : min (s + a + b) (n - 1) ≡ s + a + b = omega arith in
        let h : 0 < L = omega arith in
        let q : s % L < L = mod-lt s h in
        let r : s % L ≤ s = mod-le s L in
        let prev : s ≡ suc (s - 1) = omega arith in
        let m : s % L ≡ suc ((s - 1) % L) = ⊎_elim (λ w. ap (λ (i : ℕ). i % L) prev ∙ w.0) (λ w. let z : s % L ≡ 0 = ap (λ (i : ℕ). i % L) prev ∙ w.0 in omega arith) (mod_next L (s - 1) h) in
        let e : (s + a + b) % L ≡ (s - 1) % L = ap (λ (i : ℕ). i % L) (omega arith) ∙ add-mod_right (s - 1) L in
        let ends : min (s - s % L + (L - 1)) (n - 1) ≡ s - s % L + (L - 1) = omega arith in
        let begins : s + a + b - (s + a + b) % L ≡ suc (s - s % L + (L - 1)) =
        ap (λ (i : ℕ). s + a + b - i) e ∙ next_start L a b s (s % L) ((s - 1) % L) whole r m in (
          ap (λ (i : ℕ). span low f i (min (s + a + b) (n - 1))) (add-sub_cancel s a)
              ∙ ap (span low f s) last
              ∙ span_join low f s (s - s % L + (L - 1)) (s + a + b) (in_block L s (s % L) q r) (before_end L a b s (s % L) whole r p)
              ∙ ap (λ (i : ℕ). chosen low (span low f s i) (span low f (suc (s - s % L + (L - 1))) (s + a + b))) (sym ends)
              ∙ ap (λ (i : ℕ). chosen low (span low f s (min (s - s % L + (L - 1)) (n - 1))) (span low f i (s + a + b))) (sym begins),
          cost_one (a + b) (last ∙ add_assoc s a b) (omega arith),
        )

    -- one that the line's end cuts in the next block, whose first step is e
    pub result_cut : (e : ℕ) → e + s % L ≡ s + L → 0 < s % L → n ≤ s + a + b → e < n
        → (windowed low n a b f (s + a) ≡ chosen low (to_end low L n f s) (to_end low L n f e)) × (resulting L n a b (s + a) ≡ 1)
    unfolding windowed to_end block_end block_start
    result_cut e begins p off on =
        let h : 0 < L = omega arith in
        let q : s % L < L = mod-lt s h in
        let r : s % L ≤ s = mod-le s L in
        let upto : n - 1 ≡ s + (n - 1 - s) = omega arith in
        let far : L ≤ s % L + (n - 1 - s) = omega arith in
        let before : s - s % L + (L - 1) < n - 1 = omega arith in
        let bound : n ≤ e + L = omega arith in
        let first : e % L ≡ 0 = start_mod L s e h begins in
        let ends : min (s - s % L + (L - 1)) (n - 1) ≡ s - s % L + (L - 1) = omega arith in
        let next : e ≡ suc (s - s % L + (L - 1)) = omega arith in
        let last : min (s + a + b) (n - 1) ≡ n - 1 = omega arith in
        let cut : min (e - e % L + (L - 1)) (n - 1) ≡ n - 1 = min_cut e (e % L) L n first bound in (
          ap (λ (i : ℕ). span low f i (min (s + a + b) (n - 1))) (add-sub_cancel s a)
              ∙ ap (span low f s) last
              ∙ span_join low f s (s - s % L + (L - 1)) (n - 1) (in_block L s (s % L) q r) before
              ∙ ap (λ (i : ℕ). chosen low (span low f s i) (span low f (suc (s - s % L + (L - 1))) (n - 1))) (sym ends)
              ∙ ap (λ (i : ℕ). chosen low (span low f s (min (s - s % L + (L - 1)) (n - 1))) (span low f i (n - 1))) (sym next)
              ∙ ap (λ (i : ℕ). chosen low (span low f s (min (s - s % L + (L - 1)) (n - 1))) (span low f e i)) (sym cut),
          cost_one (n - 1 - s) (last ∙ upto) far,
        )

    -- one whose line ends in its first block
    pub result_short : (e : ℕ) → e + s % L ≡ s + L → 0 < s % L → n ≤ e
        → (windowed low n a b f (s + a) ≡ to_end low L n f s) × (resulting L n a b (s + a) ≡ 0)
    unfolding windowed to_end block_end block_start
    result_short e begins p off =
        let h : 0 < L = omega arith in
        let q : s % L < L = mod-lt s h in
        let r : s % L ≤ s = mod-le s L in
        let last : min (s + a + b) (n - 1) ≡ n - 1 = omega arith in
        let ends : min (s - s % L + (L - 1)) (n - 1) ≡ n - 1 = omega arith in (
          ap (λ (i : ℕ). span low f i (min (s + a + b) (n - 1))) (add-sub_cancel s a) ∙ ap (span low f s) (last ∙ sym ends),
          cost_none (n - 1 - s) (omega arith) (omega arith),
        )

    -- one that the line's last step cuts, d steps after the window's first: in that step's block, if it is that far
    -- into it
    module _ (d : ℕ) (last : n ≡ suc (s + d)) (cut : d ≤ a + b) where
      ends : min (s + a + b) (n - 1) ≡ s + d
      ends = omega arith

      pub result_within : d ≤ (s + d) % L → (windowed low n a b f (s + a) ≡ to_end low L n f s) × (resulting L n a b (s + a) ≡ 0)
      unfolding windowed to_end block_end block_start
      result_within far =
          let h : 0 < L = omega arith in
          let r : s % L ≤ s = mod-le s L in
          let same : s % L + d < L =
          by_cases (dec_lt (s % L + d) L) (λ k. k) (λ k. absurd (omega (arith, mod_past L s d h (omega arith) (omega arith), mod-lt s h))) in
          let upto : min (s - s % L + (L - 1)) (n - 1) ≡ s + d = omega arith in (
            ap (λ (i : ℕ). span low f i (min (s + a + b) (n - 1))) (add-sub_cancel s a) ∙ ap (span low f s) (ends ∙ sym upto),
            cost_none d ends same,
          )

      pub result_last : (s + d) % L < d
          → (windowed low n a b f (s + a) ≡ chosen low (to_end low L n f s) (from_start low L f (s + d))) × (resulting L n a b (s + a) ≡ 1)
      unfolding windowed to_end from_start block_end block_start
      result_last near =
          let h : 0 < L = omega arith in
          let q : s % L < L = mod-lt s h in
          let r : s % L ≤ s = mod-le s L in
          let past : L ≤ s % L + d = by_cases (dec_lt (s % L + d) L) (λ k. absurd (omega (arith, mod_on L s d h k))) (λ k. omega arith) in
          let e : (s + d) % L + L ≡ s % L + d = mod_past L s d h (omega arith) past in
          let upto : min (s - s % L + (L - 1)) (n - 1) ≡ s - s % L + (L - 1) = omega arith in
          let begins : s + d - (s + d) % L ≡ suc (s - s % L + (L - 1)) = omega arith in (
            ap (λ (i : ℕ). span low f i (min (s + a + b) (n - 1))) (add-sub_cancel s a)
                ∙ ap (span low f s) ends
                ∙ span_join low f s (s - s % L + (L - 1)) (s + d) (in_block L s (s % L) q r) (omega arith)
                ∙ ap (λ (i : ℕ). chosen low (span low f s i) (span low f (suc (s - s % L + (L - 1))) (s + d))) (sym upto)
                ∙ ap (λ (i : ℕ). chosen low (span low f s (min (s - s % L + (L - 1)) (n - 1))) (span low f i (s + d))) (sym begins),
            cost_one d ends past,
          )

-- ---- results near the line's first step: the window begins there

module _ (L n a b j : ℕ) (whole : L ≡ suc (a + b)) (early : j < a) (inLine : j < n) (low : Bool) (f : ℕ → ℕ) where
  early_cost : resulting L n a b j ≡ 0
  unfolding resulting
  early_cost =
      let zero_block : (j - a) / L ≡ 0 = div-eq_of_lt (omega arith) in
      let same : min (j + b) (n - 1) / L ≡ 0 = div-eq_of_lt (omega arith) in
      ap (λ (t : Bool). cond t 0 1) (eq-eqb _ _ (zero_block ∙ sym same))

  pub result_early : j + b < n → (windowed low n a b f j ≡ from_start low L f (j + b)) × (resulting L n a b j ≡ 0)
  unfolding windowed from_start block_start
  result_early on =
      let begins : j - a ≡ 0 = omega arith in
      let m : (j + b) % L ≡ j + b = mod-eq_of_lt (omega arith) in
      let start : j + b - (j + b) % L ≡ 0 = omega arith in
      let last : min (j + b) (n - 1) ≡ j + b = omega arith in
      (ap (λ (i : ℕ). span low f i (min (j + b) (n - 1))) (begins ∙ sym start) ∙ ap (span low f (j + b - (j + b) % L)) last, early_cost)

  pub result_all : n ≤ j + b → (windowed low n a b f j ≡ to_end low L n f 0) × (resulting L n a b j ≡ 0)
  unfolding windowed to_end block_end block_start
  result_all off =
      let begins : j - a ≡ 0 = omega arith in
      let m : 0 % L ≡ 0 = mod-eq_of_lt (omega arith) in
      let last : min (j + b) (n - 1) ≡ min (0 - 0 % L + (L - 1)) (n - 1) = omega arith in
      (ap (λ (i : ℕ). span low f i (min (j + b) (n - 1))) begins ∙ ap (span low f 0) last, early_cost)

  -- a line shorter than a block, whose last step is e
  pub result_short_line : (e : ℕ) → n ≡ suc e → e ≤ j + b → (windowed low n a b f j ≡ from_start low L f e) × (resulting L n a b j ≡ 0)
  unfolding windowed from_start block_start
  result_short_line e is near =
      let begins : j - a ≡ 0 = omega arith in
      let m : e % L ≡ e = mod-eq_of_lt (omega arith) in
      let start : e - e % L ≡ 0 = omega arith in
      let last : min (j + b) (n - 1) ≡ e = omega arith in
      (ap (λ (i : ℕ). span low f i (min (j + b) (n - 1))) (begins ∙ sym start) ∙ ap (span low f (e - e % L)) last, early_cost)
