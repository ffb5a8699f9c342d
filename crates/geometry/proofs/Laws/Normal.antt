-- Steps in normal form: proofs of the laws in Laws that say where a step lands and whether it is in the page.
-- Assumes nothing.
use Rattle.std.specs.Prelude.{◌≡◌, Bool, false, ◌⊎◌, leb, ℤ, pos, negsuc, neg_ℤ, ◌+ℤ◌, ◌-ℤ◌}
use Rattle.std.proofs.Math.Path.{refl, ap, ap₂}
use Rattle.std.proofs.Common.{sym, ◌∙◌, inl, inr, arith}
use Rattle.std.proofs.Math.Bool.{true, ◌&&◌, and-eq-true_iff}
use Rattle.std.proofs.lemmas.Bool.{false≢true}
use Rattle.std.proofs.Math.Logic.{by_cases}
use Rattle.std.proofs.Math.Option.{Option, none, some, some-injective, none-ne-some}
use Prim.Native.Nat.{ℕ, suc, ◌+◌, ◌-◌, ◌≤◌, ◌<◌}
use Rattle.std.proofs.Math.Decide.{dec_le, dec_lt}
use borrow.Author.Tests.{ltb-true, leb-true, lt-ltb, le-leb, lt-leb}
use Rattle.std.proofs.Math.Dec.{ltb}
use Rattle.std.proofs.Math.IntN.{sub_ℕ, +ℤ_assoc, +ℤ_comm, +ℤ_invl, +ℤ_invr, +ℤ_idl, +ℤ_idr}
use Rattle.geometry.specs.Line.{profile, place, landing, step_of, major_at}
use Rattle.geometry.specs.Number.{within, in_page}
use Rattle.geometry.specs.Drift.{Sound, Inside, Lands, StepIn, falls, drift, signed, mirrored}
use Rattle.geometry.proofs.Laws.Integers.{below, above, moved_up, moved_down}
use Rattle.geometry.proofs.Laws.Rows.{profile_signed}
use Rattle.geometry.specs.declared.Line.{Line}

-- tests that pass together are equal
pub same_leb : (a b c d : ℕ) → (a ≤ b → c ≤ d) → (c ≤ d → a ≤ b) → leb a b ≡ leb c d
same_leb a b c d f g =
    by_cases
    (dec_le a b)
    (λ h. le-leb a b h ∙ sym (le-leb c d (f h)))
    (λ h. lt-leb a b (omega arith) ∙ sym (lt-leb c d (by_cases (dec_le c d) (λ k. absurd (h (g k))) (λ k. omega arith))))

and_swap : (a b c : Bool) → a && (b && c) ≡ a && c && b
and_swap true true true = refl
and_swap true true false = refl
and_swap true false true = refl
and_swap true false false = refl
and_swap false b c = refl

and_group : (a b c : Bool) → a && (b && c) ≡ a && b && c
and_group true b c = refl
and_group false b c = refl

placed : (a b : ℕ) → b ≤ a → place (sub_ℕ a b) ≡ some (a - b)
unfolding place
placed a b h = ap place (above a b h)

within_placed : (a b W : ℕ) → within (place (sub_ℕ a b)) W ≡ leb b a && ltb a (W + b)
unfolding place within
within_placed a b W =
    by_cases
    (dec_le b a)
    (λ h. ap (λ (o : Option ℕ). within o W) (placed a b h)
    ∙ same_leb (suc (a - b)) W (suc a) (W + b) (λ k. omega arith) (λ k. omega arith)
    ∙ ap (λ (t : Bool). t && ltb a (W + b)) (sym (le-leb b a h)))
    (λ h. ap (λ (z : ℤ). within (place z) W) (below a b (omega arith))
    ∙ ap (λ (t : Bool). t && ltb a (W + b)) (sym (lt-leb b a (omega arith))))

-- where a step lands, by the drifts at the step it comes from and at the step it goes to
landed : Bool → (m before after : ℕ) → Option ℕ
landed falling m before after = place (pos m +ℤ (signed falling after -ℤ signed falling before))

landing_landed : (l : Line) → Sound l → (m t s : ℕ) → landing l m t s ≡ landed (falls l) m (drift l t) (drift l s)
unfolding landing landed
landing_landed l h m t s = ap₂ (λ (x y : ℤ). place (pos m +ℤ (y -ℤ x))) (profile_signed l h t) (profile_signed l h s)

landed_within : (falling : Bool) (long : Bool) (W m before after : ℕ) → m < W
    → long && within (landed falling m before after) W
    ≡ long && leb before (mirrored falling W m + after) && ltb (mirrored falling W m + after) (W + before)
unfolding landed mirrored
landed_within true long W m before after h =
    ap (λ (t : Bool). long && t)
    (ap (λ (z : ℤ). within (place z) W) (moved_down m after before) ∙ within_placed (m + before) after W
    ∙ ap₂ ◌&&◌
    (same_leb after (m + before) (suc (W - 1 - m + after)) (W + before) (λ k. omega arith) (λ k. omega arith))
    (same_leb (suc (m + before)) (W + after) before (W - 1 - m + after) (λ k. omega arith) (λ k. omega arith)))
    ∙ and_swap long (ltb (W - 1 - m + after) (W + before)) (leb before (W - 1 - m + after))
landed_within false long W m before after h =
    ap (λ (t : Bool). long && t)
    (ap (λ (z : ℤ). within (place z) W) (moved_up m after before) ∙ within_placed (m + after) before W)
    ∙ and_group long (leb before (m + after)) (ltb (m + after) (W + before))

-- a place is the integer that it was read from
place_some : (z : ℤ) (n : ℕ) → place z ≡ some n → z ≡ pos n
unfolding place
place_some (pos a) n e = ap pos (some-injective a n e)
place_some (negsuc a) n e = absurd (none-ne-some n e)

-- a way in two parts
two_parts : (a r s t : ℤ) → (a +ℤ (s -ℤ t)) +ℤ (r -ℤ s) ≡ a +ℤ (r -ℤ t)
two_parts a r s t =
    +ℤ_assoc a (s -ℤ t) (r -ℤ s)
    ∙ ap (λ (z : ℤ). a +ℤ z)
    (+ℤ_comm (s -ℤ t) (r -ℤ s)
    ∙ +ℤ_assoc r (neg_ℤ s) (s -ℤ t)
    ∙ ap (λ (z : ℤ). r +ℤ z)
    (sym (+ℤ_assoc (neg_ℤ s) s (neg_ℤ t)) ∙ ap (λ (z : ℤ). z +ℤ neg_ℤ t) (+ℤ_invl s) ∙ +ℤ_idl (neg_ℤ t)))

pub landing_onward : (l : Line) (m t s r m' : ℕ) → landing l m t s ≡ some m' → landing l m' s r ≡ landing l m t r
unfolding landing
landing_onward l m t s r m' e =
    let here : pos m +ℤ (profile l s -ℤ profile l t) ≡ pos m' = place_some _ m' e in
    ap (λ (z : ℤ). place (z +ℤ (profile l r -ℤ profile l s))) (sym here)
    ∙ ap place (two_parts (pos m) (profile l r) (profile l s) (profile l t))

-- a line that has come to m at a step is at m at that step
pub landing_still : (l : Line) (m t : ℕ) → landing l m t t ≡ some m
unfolding landing place
landing_still l m t = ap (λ (z : ℤ). place (pos m +ℤ z)) (+ℤ_invr (profile l t)) ∙ ap place (+ℤ_idr (pos m))

-- a step that is in the page, and one that is not, by where it lands
module _ (l : Line) (H W M m s : ℕ) where
  pub step_in : in_page l H W M m s ≡ true → StepIn l H W M m s
  unfolding in_page within
  step_in e = go (landing l m (step_of l M) s) refl e
    where
      go : (o : Option ℕ) → landing l m (step_of l M) s ≡ o → ltb (major_at l M s) H && within o W ≡ true
          → StepIn l H W M m s
      go none f i = absurd (false≢true ((and-eq-true_iff (ltb (major_at l M s) H) false).0 i).1)
      go (some n) f i =
          let both = (and-eq-true_iff (ltb (major_at l M s) H) (ltb n W)).0 i in
          record { long = ltb-true _ _ both.0; at = n; lands = f; fits = ltb-true _ _ both.1 }

  pub landed_on_page : (m' : ℕ) → in_page l H W M m s ≡ true → landing l m (step_of l M) s ≡ some m'
      → (major_at l M s < H) × (m' < W)
  landed_on_page m' e there =
      let found = step_in e in
      let same : found.at ≡ m' = some-injective found.at m' (sym found.lands ∙ there) in
      (found.long, omega (arith, found.fits))

  pub landed_in_page : (m' : ℕ) → landing l m (step_of l M) s ≡ some m' → major_at l M s < H → m' < W
      → in_page l H W M m s ≡ true
  unfolding in_page within
  landed_in_page m' there long fits =
      ap (λ (o : Option ℕ). ltb (major_at l M s) H && within o W) there ∙ ap₂ ◌&&◌ (lt-ltb _ _ long) (lt-ltb _ _ fits)

  pub out_of_page : in_page l H W M m s ≡ false → (P : Option ℕ → Type 0) → P none
      → ((m' : ℕ) → (H ≤ major_at l M s) ⊎ (W ≤ m') → P (some m')) → P (landing l m (step_of l M) s)
  out_of_page e P nowhere beside = go (landing l m (step_of l M) s) refl
    where
      go : (o : Option ℕ) → landing l m (step_of l M) s ≡ o → P o
      go none f = nowhere
      go (some n) f =
          by_cases
          (dec_lt (major_at l M s) H)
          (λ h.
          by_cases
          (dec_lt n W)
          (λ k. absurd (false≢true (sym e ∙ landed_in_page n f h k)))
          (λ k. beside n (inr (omega arith))))
          (λ h. beside n (inl (omega arith)))

module _ (l : Line) (h : Sound l) (H W M m s : ℕ) (k : m < W) where
  pub in_page_lem : in_page l H W M m s
      ≡ ltb (major_at l M s) H
      && leb (drift l (step_of l M)) (mirrored (falls l) W m + drift l s)
      && ltb (mirrored (falls l) W m + drift l s) (W + drift l (step_of l M))
  unfolding in_page
  in_page_lem =
      ap (λ (o : Option ℕ). ltb (major_at l M s) H && within o W) (landing_landed l h m (step_of l M) s)
      ∙ landed_within (falls l) (ltb (major_at l M s) H) W m (drift l (step_of l M)) (drift l s) k

  pub inside : in_page l H W M m s ≡ true → Inside l H W M (mirrored (falls l) W m) s
  inside e =
      let last = (and-eq-true_iff _ _).0 (sym in_page_lem ∙ e) in
      let two = (and-eq-true_iff _ _).0 last.0 in
      record { long = ltb-true _ _ two.0; low = leb-true _ _ two.1; high = ltb-true _ _ last.1 }

  pub inside_in_page : Inside l H W M (mirrored (falls l) W m) s → in_page l H W M m s ≡ true
  inside_in_page i = in_page_lem ∙ ap₂ ◌&&◌ (ap₂ ◌&&◌ (lt-ltb _ _ i.long) (le-leb _ _ i.low)) (lt-ltb _ _ i.high)

  pub lands : in_page l H W M m s ≡ true → Lands l W m (step_of l M) s
  unfolding landed mirrored
  lands e = go (falls l) refl (inside e)
    where
      t : ℕ
      t = step_of l M

      go : (falling : Bool) → falls l ≡ falling → Inside l H W M (mirrored (falls l) W m) s → Lands l W m t s
      go true f i =
          let low : drift l t ≤ W - 1 - m + drift l s = rw f at i.low in
          let high : W - 1 - m + drift l s < W + drift l t = rw f at i.high in
          record {
            at = m + drift l t - drift l s;
            lands =
                landing_landed l h m t s
                ∙ rw f (ap place (moved_down m (drift l s) (drift l t))
                ∙ placed (m + drift l t) (drift l s) (omega arith));
            fits = omega arith;
            moved = rw f (omega arith);
          }
      go false f i =
          let low : drift l t ≤ m + drift l s = rw f at i.low in
          let high : m + drift l s < W + drift l t = rw f at i.high in
          record {
            at = m + drift l s - drift l t;
            lands =
                landing_landed l h m t s
                ∙ rw f (ap place (moved_up m (drift l s) (drift l t))
                ∙ placed (m + drift l s) (drift l t) (omega arith));
            fits = omega arith;
            moved = rw f (omega arith);
          }
