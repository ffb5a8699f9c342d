-- A line and the flipped one: proofs for the laws of the flip in Laws.
-- Assumes nothing.
use Rattle.std.specs.Prelude.{◌≡◌, Bool, ◌&&◌, ◌||◌, ℤ, pos, negsuc, ◌+ℤ◌, ◌-ℤ◌, ◌*ℤ◌}
use Rattle.std.proofs.Math.Path.{refl, ap, ap₂}
use Rattle.std.proofs.Common.{sym, ◌∙◌, mul-zero, arith, le-ltb, lt-ltb}
use Rattle.std.proofs.Math.Bool.{true, false, cond}
use Rattle.std.proofs.lemmas.Bool.{false≢true}
use Rattle.std.proofs.Math.Logic.{by_cases}
use Rattle.std.proofs.Math.Option.{Option, some, some-injective, none-ne-some}
use Prim.Native.Nat.{ℕ, zero, suc, ◌+◌, ◌*◌, ◌-◌, ◌<◌}
use Rattle.std.proofs.Math.Decide.{dec_le}
use Rattle.std.proofs.Math.Dec.{ltb}
use Rattle.std.proofs.Math.IntN.{neg_ℤ, nat_abs, neg_ℤ-neg_ℤ, neg_ℤ-+ℤ}
use Rattle.std.specs.Int.Signed.{le_z, lt_z}
use Rattle.vectors.specs.Vector.{shallow, steep, major_of, minor_of}
use Rattle.geometry.specs.Line.{shift, period, profile, place, landing, step_of, major_at}
use Rattle.geometry.specs.Number.{within, in_page, count, behind, ahead}
use Rattle.geometry.specs.Drift.{mirrored}
use Rattle.geometry.specs.Flip.{flipped}
use Rattle.geometry.proofs.Laws.Integers.{minus, above, below}
use Rattle.geometry.proofs.Laws.Nearest.{shift_negated}
use Rattle.geometry.proofs.Laws.Numbering.{untrue}
use Rattle.geometry.proofs.Laws.Slope.{shallow_is, steep_is, runs}
use Rattle.geometry.specs.declared.Line.{Line}

size_negated : (z : ℤ) → nat_abs (neg_ℤ z) ≡ nat_abs z
size_negated (pos zero) = refl
size_negated (pos (suc n)) = refl
size_negated (negsuc n) = refl

times_negated : (t : ℕ) (z : ℤ) → pos t *ℤ neg_ℤ z ≡ neg_ℤ (pos t *ℤ z)
times_negated t (pos zero) = rw mul-zero
times_negated t (pos (suc b)) = refl
times_negated t (negsuc b) = sym (neg_ℤ-neg_ℤ (pos (t * suc b)))

-- ---- the vector

either_size : (b : Bool) (z : ℤ) → nat_abs (cond b (neg_ℤ z) z) ≡ nat_abs z
either_size true z = size_negated z
either_size false z = refl

either_other : (b : Bool) (z : ℤ) → nat_abs (cond b z (neg_ℤ z)) ≡ nat_abs z
either_other true z = refl
either_other false z = size_negated z

pub dx_flipped : (l : Line) → nat_abs (flipped l).dx ≡ nat_abs l.dx
unfolding flipped
dx_flipped l = either_size (steep l.dx l.dy) l.dx

pub dy_flipped : (l : Line) → nat_abs (flipped l).dy ≡ nat_abs l.dy
unfolding flipped
dy_flipped l = either_other (steep l.dx l.dy) l.dy

-- of a vector that is steep, and of one that is shallow
steep_negated : (dx dy : ℤ) → steep (neg_ℤ dx) dy ≡ steep dx dy
unfolding steep
steep_negated dx dy = ap (λ (n : ℕ). le_z (pos 1) dy && lt_z (pos n) dy) (size_negated dx)

shallow_negated : (dx dy : ℤ) → shallow dx (neg_ℤ dy) ≡ shallow dx dy
unfolding shallow
shallow_negated dx dy = ap (λ (n : ℕ). le_z (pos 1) dx && le_z (pos n) dx) (size_negated dy)

-- a shallow vector is not steep, flipped or not
never_both : (dx dy : ℤ) → shallow dx dy ≡ true → steep dx dy ≡ false
never_both dx dy e =
    untrue (steep dx dy) (λ f. absurd (omega (arith, (shallow_is dx dy e).slope, (steep_is dx dy f).slope)))

or_then_left : (a b : Bool) → a || b ≡ true → b ≡ false → a ≡ true
or_then_left true b e f = refl
or_then_left false b e f = absurd (false≢true (sym f ∙ e))

or_right : (a b : Bool) → b ≡ true → a || b ≡ true
or_right true b e = refl
or_right false b e = e

or_left : (a b : Bool) → a ≡ true → a || b ≡ true
or_left true b e = refl
or_left false b e = absurd (false≢true e)

module _ (l : Line) (e : shallow l.dx l.dy || steep l.dx l.dy ≡ true) where
  pub steep_flipped : steep (flipped l).dx (flipped l).dy ≡ steep l.dx l.dy
  unfolding flipped
  steep_flipped = go (steep l.dx l.dy) refl
    where
      go : (b : Bool) → steep l.dx l.dy ≡ b
          → steep (cond b (neg_ℤ l.dx) l.dx) (cond b l.dy (neg_ℤ l.dy)) ≡ b
      go true f = steep_negated l.dx l.dy ∙ f
      go false f = never_both _ _ (shallow_negated l.dx l.dy ∙ or_then_left _ _ e f)

  pub runs_flipped : shallow (flipped l).dx (flipped l).dy || steep (flipped l).dx (flipped l).dy ≡ true
  unfolding flipped
  runs_flipped = go (steep l.dx l.dy) refl
    where
      go : (b : Bool) → steep l.dx l.dy ≡ b
          → shallow (cond b (neg_ℤ l.dx) l.dx) (cond b l.dy (neg_ℤ l.dy))
          || steep (cond b (neg_ℤ l.dx) l.dx) (cond b l.dy (neg_ℤ l.dy))
          ≡ true
      go true f = or_right (shallow (neg_ℤ l.dx) l.dy) _ (steep_negated l.dx l.dy ∙ f)
      go false f = or_left _ (steep l.dx (neg_ℤ l.dy)) (shallow_negated l.dx l.dy ∙ or_then_left _ _ e f)

  pub major_flipped : major_of (flipped l).dx (flipped l).dy ≡ major_of l.dx l.dy
  unfolding major_of flipped
  major_flipped =
      ap (λ (b : Bool). cond b (nat_abs (flipped l).dy) (nat_abs (flipped l).dx)) steep_flipped
      ∙ go (steep l.dx l.dy) refl
    where
      go : (b : Bool) → steep l.dx l.dy ≡ b
          → cond b (nat_abs (flipped l).dy) (nat_abs (flipped l).dx) ≡ cond b (nat_abs l.dy) (nat_abs l.dx)
      go true f = ap (λ (b : Bool). nat_abs (cond b l.dy (neg_ℤ l.dy))) f
      go false f = ap (λ (b : Bool). nat_abs (cond b (neg_ℤ l.dx) l.dx)) f

  pub minor_flipped : minor_of (flipped l).dx (flipped l).dy ≡ neg_ℤ (minor_of l.dx l.dy)
  unfolding minor_of flipped
  minor_flipped =
      ap (λ (b : Bool). cond b (flipped l).dx (flipped l).dy) steep_flipped ∙ go (steep l.dx l.dy) refl
    where
      go : (b : Bool) → steep l.dx l.dy ≡ b
          → cond b (flipped l).dx (flipped l).dy ≡ neg_ℤ (cond b l.dx l.dy)
      go true f = ap (λ (b : Bool). cond b (neg_ℤ l.dx) l.dx) f
      go false f = ap (λ (b : Bool). cond b l.dy (neg_ℤ l.dy)) f

  -- ---- its steps

  period_flipped : period (flipped l) ≡ period l
  unfolding period flipped
  period_flipped = ap (λ (n : ℕ). cond l.periodic n 1) major_flipped

  profile_flipped : (t : ℕ) → profile (flipped l) t ≡ neg_ℤ (profile l t)
  unfolding profile flipped
  profile_flipped t =
      ap₂ (λ (a : ℕ) (z : ℤ). cond l.periodic (pos t *ℤ z) (shift a z l.phase t)) major_flipped minor_flipped
      ∙ go l.periodic
    where
      a : ℕ
      a = major_of l.dx l.dy

      z : ℤ
      z = minor_of l.dx l.dy

      go : (b : Bool)
          → cond b (pos t *ℤ neg_ℤ z) (shift a (neg_ℤ z) l.phase t)
          ≡ neg_ℤ (cond b (pos t *ℤ z) (shift a z l.phase t))
      go true = times_negated t z
      go false = shift_negated a z l.phase t (runs l.dx l.dy e).forward

  -- from a mirrored place, the flipped line moves as far, the other way
  landing_flipped : (n t s : ℕ)
      → landing (flipped l) n t s ≡ place (pos n +ℤ neg_ℤ (profile l s -ℤ profile l t))
  unfolding landing
  landing_flipped n t s =
      ap₂ (λ (x y : ℤ). place (pos n +ℤ (x -ℤ y))) (profile_flipped s) (profile_flipped t)
      ∙ ap (λ (z : ℤ). place (pos n +ℤ z)) (sym (neg_ℤ-+ℤ (profile l s) (neg_ℤ (profile l t))))

-- ---- places from both ends of a side

risen_within : (W m k : ℕ) → m < W → within (place (pos (W - 1 - m) -ℤ pos k)) W ≡ within (place (pos (m + k))) W
unfolding place within
risen_within W m k h =
    by_cases
    (dec_le k (W - 1 - m))
    (λ i. ap (λ (z : ℤ). within (place z) W) (minus (W - 1 - m) k ∙ above (W - 1 - m) k i)
    ∙ lt-ltb (W - 1 - m - k) W (omega arith)
    ∙ sym (lt-ltb (m + k) W (omega arith)))
    (λ i. ap (λ (z : ℤ). within (place z) W) (minus (W - 1 - m) k ∙ below (W - 1 - m) k (omega arith))
    ∙ sym (le-ltb (m + k) W (omega arith)))

mirrored_within : (W m : ℕ) (z : ℤ) → m < W
    → within (place (pos (W - 1 - m) +ℤ neg_ℤ z)) W ≡ within (place (pos m +ℤ z)) W
mirrored_within W m (pos k) h = risen_within W m k h
mirrored_within W m (negsuc k) h =
    let back : W - 1 - (W - 1 - m) ≡ m = omega arith in
    sym (risen_within W (W - 1 - m) (suc k) (omega arith))
    ∙ ap (λ (n : ℕ). within (place (pos n +ℤ negsuc k)) W) back

mirrored_some : (W m m' : ℕ) (z : ℤ) → m < W → m' < W → place (pos m +ℤ z) ≡ some m'
    → place (pos (W - 1 - m) +ℤ neg_ℤ z) ≡ some (W - 1 - m')
unfolding place
mirrored_some W m m' (pos k) h h' e =
    let there : m + k ≡ m' = some-injective (m + k) m' e in
    let left : W - 1 - m - k ≡ W - 1 - m' = omega arith in
    ap place (minus (W - 1 - m) k ∙ above (W - 1 - m) k (omega arith)) ∙ ap {B = Option ℕ} some left
mirrored_some W m m' (negsuc k) h h' e =
    by_cases
    (dec_le (suc k) m)
    (λ i.
    let there : m - suc k ≡ m' = some-injective (m - suc k) m' (sym (ap place (above m (suc k) i)) ∙ e) in
    let left : W - 1 - m + suc k ≡ W - 1 - m' = omega arith in
    ap {B = Option ℕ} some left)
    (λ i. absurd (none-ne-some m' (sym (ap place (below m (suc k) (omega arith))) ∙ e)))

-- ---- where the flipped line lands, and its numbers

count_same : (test test' : ℕ → Bool) (k n : ℕ) → ((s : ℕ) → test s ≡ test' s) → count test k n ≡ count test' k n
unfolding count
count_same test test' k zero same = refl
count_same test test' k (suc n) same =
    ap₂ (λ (b : Bool) (q : ℕ). cond b 1 0 + q) (same k) (count_same test test' (suc k) n same)

module _ (l : Line) (e : shallow l.dx l.dy || steep l.dx l.dy ≡ true) where
  pub step_flipped : (M : ℕ) → step_of (flipped l) M ≡ step_of l M
  unfolding step_of
  step_flipped M = rw (period_flipped l e)

  pub major_at_flipped : (M s : ℕ) → major_at (flipped l) M s ≡ major_at l M s
  unfolding major_at
  major_at_flipped M s = rw (period_flipped l e)

  pub lands_flipped : (W m m' t s : ℕ) → m < W → m' < W → landing l m t s ≡ some m'
      → landing (flipped l) (mirrored true W m) t s ≡ some (mirrored true W m')
  unfolding landing mirrored
  lands_flipped W m m' t s h h' f =
      landing_flipped l e (W - 1 - m) t s ∙ mirrored_some W m m' (profile l s -ℤ profile l t) h h' f

  pub in_page_flipped : (H W M m s : ℕ) → m < W
      → in_page (flipped l) H W M (mirrored true W m) s ≡ in_page l H W M m s
  unfolding in_page landing mirrored
  in_page_flipped H W M m s h =
      ap₂ (λ (n t : ℕ). ltb n H && within (landing (flipped l) (W - 1 - m) t s) W)
      (major_at_flipped M s) (step_flipped M)
      ∙ ap (λ (b : Bool). ltb (major_at l M s) H && b)
      (ap (λ (o : Option ℕ). within o W) (landing_flipped l e (W - 1 - m) (step_of l M) s)
      ∙ mirrored_within W m (profile l s -ℤ profile l (step_of l M)) h)

  module _ (H W M m : ℕ) (h : m < W) where
    pub behind_flipped : behind (flipped l) H W M (mirrored true W m) ≡ behind l H W M m
    unfolding behind
    behind_flipped =
        count_same _ _ 0 (step_of (flipped l) M) (λ s. in_page_flipped H W M m s h)
        ∙ ap (count (in_page l H W M m) 0) (step_flipped M)

    pub ahead_flipped : ahead (flipped l) H W M (mirrored true W m) ≡ ahead l H W M m
    unfolding ahead
    ahead_flipped =
        count_same _ _ _ _ (λ s. in_page_flipped H W M m s h)
        ∙ ap (λ (t : ℕ). count (in_page l H W M m) (suc t) (H - suc t)) (step_flipped M)

-- ---- flipped again, and a level line

-- a line of this kind and phase along another vector
along : Line → ℤ → ℤ → Line
along l dx dy = record { periodic = l.periodic; dx = dx; dy = dy; phase = l.phase }

pub flipped_twice : (l : Line) → shallow l.dx l.dy || steep l.dx l.dy ≡ true → flipped (flipped l) ≡ l
unfolding flipped along
flipped_twice l e =
    ap (λ (b : Bool). along l (cond b (neg_ℤ dx') dx') (cond b dy' (neg_ℤ dy'))) (steep_flipped l e)
    ∙ again (steep l.dx l.dy)
  where
    dx' : ℤ
    dx' = (flipped l).dx

    dy' : ℤ
    dy' = (flipped l).dy

    again : (b : Bool)
        → along l (cond b (neg_ℤ (cond b (neg_ℤ l.dx) l.dx)) (cond b (neg_ℤ l.dx) l.dx))
        (cond b (cond b l.dy (neg_ℤ l.dy)) (neg_ℤ (cond b l.dy (neg_ℤ l.dy))))
        ≡ l
    again true = ap (λ (z : ℤ). along l z l.dy) (neg_ℤ-neg_ℤ l.dx)
    again false = ap (along l l.dx) (neg_ℤ-neg_ℤ l.dy)

still : (z : ℤ) → z ≡ pos 0 → neg_ℤ z ≡ z
still z e = rw e

pub flipped_level : (l : Line) → minor_of l.dx l.dy ≡ pos 0 → flipped l ≡ l
unfolding flipped along minor_of
flipped_level l e = level (steep l.dx l.dy) e
  where
    level : (b : Bool) → cond b l.dx l.dy ≡ pos 0
        → along l (cond b (neg_ℤ l.dx) l.dx) (cond b l.dy (neg_ℤ l.dy)) ≡ l
    level true f = ap (λ (z : ℤ). along l z l.dy) (still l.dx f)
    level false f = ap (along l l.dx) (still l.dy f)
