-- The laws of lines: all that a layer above may use, with every definition of Vector, Line, Number, Drift and Flip left
-- shut. Those under 'D' say what D is, and those under 'the running error' how it is drawn, for readers; no crate above
-- cites them. None of the others shows it, or how a number on a line is found, so the rule for ties in D and the way
-- the tables are computed can change below them. Only the statements are to be read; their proofs stand behind them, in
-- Laws/.
-- In each, t = step_of l M is the step at which a pixel (M, m) stands on its line, x = mirrored (falls l) W m its place
-- on the minor axis in normal form, H and W are the page's sides on the major and the minor axis.
-- Assumes nothing.
pub mod Counting
pub mod Error
pub mod Flip
pub mod Integers
pub mod Nearest
pub mod Normal
pub mod Numbering
pub mod Rows
pub mod Slope
use Rattle.std.specs.Prelude.{◌≡◌, refl, Bool, true, false, not, cond, ◌&&◌, ◌||◌, ◌⊎◌, ℕ, suc, ◌+◌, ◌*◌, ◌-◌, ◌/◌, ◌%◌, ◌≤◌, ◌<◌, max, ltb, leb, ℤ, pos, negsuc, neg_ℤ, nat_abs}
use Rattle.std.proofs.Common.{sym, ap, ◌∙◌, arith, leb-true, leb-false, SFits, to_z, of_z}
use Rattle.std.proofs.Math.Option.{Option, none, some}
use Rattle.std.proofs.Math.Logic.{by_cases}
use Rattle.std.proofs.Math.Nat.{mod-add-div'}
use Rattle.std.proofs.Math.Decide.{dec_lt}
use Rattle.std.specs.Int.Signed.{non_neg}
use Rattle.std.specs.Int.{w32}
use Rattle.std.proofs.lemmas.Int.{to_z-of_z}
use Rattle.vectors.specs.Vector.{shallow, steep, Shallow, Steep, major_of, minor_of}
use Rattle.geometry.specs.Line.{nearest, D, period, profile, landing, step_of, major_at}
use Rattle.geometry.specs.Number.{within, in_page, behind, ahead}
use Rattle.geometry.specs.Drift.{Sound, Allowed, Inside, StepIn, Lands, First}
use Rattle.geometry.specs.Drift.{falls, drift, signed, mirrored, first, reach}
use Rattle.geometry.specs.Flip.{flipped}
use Rattle.geometry.specs.Bresenham.{error, pen_at}
use Rattle.geometry.proofs.Laws.Counting as counting
use Rattle.geometry.proofs.Laws.Error as running
use Rattle.geometry.proofs.Laws.Flip as flip
use Rattle.geometry.proofs.Laws.Nearest as nearly
use Rattle.geometry.proofs.Laws.Normal as normal
use Rattle.geometry.proofs.Laws.Numbering as numbering
use Rattle.geometry.proofs.Laws.Rows as rows
use Rattle.geometry.proofs.Laws.Slope as slope
use Rattle.geometry.specs.declared.Line.{Line}

-- ---- vectors

-- what is known of a shallow vector, and of a steep one
pub shallow_is : (dx dy : ℤ) → shallow dx dy ≡ true → Shallow dx dy
shallow_is dx dy e = slope.shallow_is dx dy e

pub steep_is : (dx dy : ℤ) → steep dx dy ≡ true → Steep dx dy
steep_is dx dy e = slope.steep_is dx dy e

-- whether a vector is shallow, or steep, as a test on plain numbers where its component along the major axis is a; with
-- that component below zero, it is not
pub shallow_forward : (a : ℕ) (dy : ℤ) → shallow (pos a) dy ≡ leb 1 a && leb (nat_abs dy) a
unfolding shallow
shallow_forward a dy = refl

pub shallow_backward : (a : ℕ) (dy : ℤ) → shallow (negsuc a) dy ≡ false
unfolding shallow
shallow_backward a dy = refl

pub steep_forward : (dx : ℤ) (a : ℕ) → steep dx (pos a) ≡ leb 1 a && ltb (nat_abs dx) a
unfolding steep
steep_forward dx a = refl

pub steep_backward : (dx : ℤ) (a : ℕ) → steep dx (negsuc a) ≡ false
unfolding steep
steep_backward dx a = refl

-- the major component of a vector that a ticket may have is the larger one
pub major_larger : (dx dy : ℤ) → shallow dx dy || steep dx dy ≡ true → major_of dx dy ≡ max (nat_abs dx) (nat_abs dy)
major_larger dx dy e = (slope.runs dx dy e).larger

-- a phase below "max(abs dx, abs dy)" is below the major component of a vector that a ticket may have
pub phase_allowed_lem : (dx dy : ℤ) (i : ℕ) → shallow dx dy || steep dx dy ≡ true → i < max (nat_abs dx) (nat_abs dy)
    → i < major_of dx dy
phase_allowed_lem dx dy i e h = rw (major_larger dx dy e) h

-- a component is the same number after it was passed on in 32 bits
component_fits : (z : ℤ) → nat_abs z ≤ 255 → SFits w32 z
component_fits (pos n) h = record { sfits = omega arith }
component_fits (negsuc n) h = record { sfits = omega arith }

pub component_back : (z : ℤ) → nat_abs z ≤ 255 → to_z w32 (of_z w32 z) ≡ z
component_back z h = to_z-of_z w32 z (component_fits z h)

-- every vector that a ticket may have is sound
pub sound : (l : Line) → shallow l.dx l.dy || steep l.dx l.dy ≡ true → Sound l
sound l e =
    let runs = slope.runs l.dx l.dy e in
    record { forward = runs.forward; slope = runs.slope }

-- every line that a ticket may order is allowed: a phase of 0 too is below the larger component
pub allowed : (l : Line) → shallow l.dx l.dy || steep l.dx l.dy ≡ true
    → nat_abs l.dx ≤ 255 → nat_abs l.dy ≤ 255 → l.phase < major_of l.dx l.dy → Allowed l
allowed l e h k p =
    let near : major_of l.dx l.dy ≤ 255 = slope.major_near l.dx l.dy 255 h k in
    record { sound = sound l e; dx_near = h; dy_near = k; phase_near = omega arith }

pub major_near : (l : Line) → Allowed l → major_of l.dx l.dy ≤ 255
major_near l h = slope.major_near l.dx l.dy 255 h.dx_near h.dy_near

-- ---- D: its size is the q with q·2a ≤ 2·c·b + a < (q + 1)·2a, so the whole number nearest to c·b / a, and of two that
-- are as near the larger; its sign is that of the minor component

pub nearest_low : (a b c : ℕ) → nearest a b c * (2 * a) ≤ 2 * c * b + a
nearest_low a b c = nearly.nearest_low a b c

pub nearest_high : (a b c : ℕ) → 1 ≤ a → 2 * c * b + a < suc (nearest a b c) * (2 * a)
nearest_high a b c h = nearly.nearest_high a b c h

pub D_signed : (a : ℕ) (z : ℤ) (c : ℕ) → D a z c ≡ signed (not (non_neg z)) (nearest a (nat_abs z) c)
D_signed a z c = nearly.D_signed a z c

pub D_negated : (a : ℕ) (z : ℤ) (c : ℕ) → 1 ≤ a → D a (neg_ℤ z) c ≡ neg_ℤ (D a z c)
D_negated a z c h = nearly.D_negated a z c h

-- ---- the running error: at each column c it is the remainder of the rounded quotient, (2·c·b + a) / 2a, whose whole
-- part is the row. A row and an error that make 2·c·b + a so, the error below 2a, are the pen's there, and no others

pub error_is : (a b c : ℕ) → nearest a b c * (2 * a) + error a b c ≡ 2 * c * b + a
error_is a b c = running.error_is a b c

pub error_below : (a b c : ℕ) → 1 ≤ a → error a b c < 2 * a
error_below a b c h = running.error_below a b c h

pub pen_is : (a b c q e : ℕ) → 1 ≤ a → e < 2 * a → q * (2 * a) + e ≡ 2 * c * b + a
    → pen_at a b c ≡ record { column = c; row = q; error = e }
pen_is a b c q e h small whole = running.pen_is a b c q e h small whole

-- ---- the drift

-- a profile only rises or only falls: it is the drift, counted down where the line falls
pub profile_signed : (l : Line) → Sound l → (t : ℕ) → profile l t ≡ signed (falls l) (drift l t)
profile_signed l h t = rows.profile_signed l h t

-- a line has not drifted at its step 0
pub drift_zero : (l : Line) → Sound l → drift l 0 ≡ 0
drift_zero l h = rows.drift_zero l h

-- a line never drifts back
pub drift_rises : (l : Line) → Sound l → {s t : ℕ} → s ≤ t → drift l s ≤ drift l t
drift_rises l h k = rows.drift_rises l h k

-- a step of a connected line goes to the next place, or stays at its place
pub drift_step : (l : Line) → Sound l → (t : ℕ) → l.periodic ≡ false → drift l (suc t) ≤ suc (drift l t)
drift_step l h t e = rows.drift_step l h t e

-- no line drifts faster than it goes forward
pub drift_bound : (l : Line) → Sound l → (t : ℕ) → drift l t ≤ t * period l
drift_bound l h t = rows.drift_bound l h t

-- ---- steps along the major axis

-- a step goes forward: by one place where the line is connected, by the major component where it is periodic
pub period_forward : (l : Line) → Sound l → 1 ≤ period l
period_forward l h = numbering.period_forward l h

pub period_connected : (l : Line) → l.periodic ≡ false → period l ≡ 1
unfolding period
period_connected l e = ap (λ (b : Bool). cond b (major_of l.dx l.dy) 1) e

pub period_periodic : (l : Line) → l.periodic ≡ true → period l ≡ major_of l.dx l.dy
unfolding period
period_periodic l e = ap (λ (b : Bool). cond b (major_of l.dx l.dy) 1) e

-- the step of a pixel at M, and the place on the major axis of the step s of its line, by the period
pub step_is : (l : Line) (M : ℕ) → step_of l M ≡ M / period l
unfolding step_of
step_is l M = refl

pub major_is : (l : Line) (M s : ℕ) → major_at l M s ≡ M % period l + s * period l
unfolding major_at
major_is l M s = refl

-- a pixel at M is as many periods from its line's start as it has made steps
pub step_split : (l : Line) (M : ℕ) → M % period l + step_of l M * period l ≡ M
unfolding step_of
step_split l M = mod-add-div' M (period l)

-- from a start u below the period, s steps lead to a pixel that stands at step s
pub step_at_lem : (l : Line) → Sound l → (u s : ℕ) → u < period l → step_of l (u + s * period l) ≡ s
step_at_lem l h u s small = numbering.step_at_lem l h u s small

-- a pixel's own step is at the pixel, each step of its line stands at that step, and has the same line
pub major_at_step : (l : Line) → Sound l → (M : ℕ) → major_at l M (step_of l M) ≡ M
major_at_step l h M = numbering.major_at_step l h M

pub step_of_major : (l : Line) → Sound l → (M s : ℕ) → step_of l (major_at l M s) ≡ s
step_of_major l h M s = numbering.step_of_major l h M s

pub major_of_major : (l : Line) → Sound l → (M s r : ℕ) → major_at l (major_at l M s) r ≡ major_at l M r
major_of_major l h M s r = numbering.major_of_major l h M s r

-- k steps on are k periods on, and k steps back are k periods back
pub major_on : (l : Line) → Sound l → (M k : ℕ) → major_at l M (step_of l M + k) ≡ M + k * period l
unfolding major_at
major_on l h M k = omega (arith, major_at_step l h M)

pub major_back : (l : Line) → Sound l → (M k : ℕ) → k ≤ step_of l M → major_at l M (step_of l M - k) + k * period l ≡ M
major_back l h M k i =
    let back : ℕ = step_of l M - k in
    let whole : step_of l M ≡ back + k = omega arith in
    let more : step_of l M * period l ≡ (back + k) * period l = ap (λ (s : ℕ). s * period l) whole in
    omega (arith, major_is l M back, major_is l M (step_of l M), major_at_step l h M)

-- a later step is no nearer on the major axis, and step s is at least at place s
pub major_rises : (l : Line) → Sound l → (M : ℕ) {s r : ℕ} → s ≤ r → major_at l M s ≤ major_at l M r
major_rises l h M k = numbering.major_rises l h M k

pub major_beyond : (l : Line) → Sound l → (M s : ℕ) → s ≤ major_at l M s
major_beyond l h M s = numbering.major_beyond l h M s

-- a pixel's step, and its line's drift there, are no further than the pixel is along the major axis
pub step_low : (l : Line) → Sound l → (M : ℕ) → step_of l M ≤ M
step_low l h M = omega (arith, major_beyond l h M (step_of l M), major_at_step l h M)

pub drift_low : (l : Line) → Sound l → (M : ℕ) → drift l (step_of l M) ≤ M
unfolding major_at
drift_low l h M = omega (arith, drift_bound l h (step_of l M), major_at_step l h M)

-- ---- the normal form

-- where lines fall, places are counted from the side's other end, and else as they are
pub mirrored_falling : (W m : ℕ) → mirrored true W m ≡ W - 1 - m
unfolding mirrored
mirrored_falling W m = refl

pub mirrored_rising : (W m : ℕ) → mirrored false W m ≡ m
unfolding mirrored
mirrored_rising W m = refl

-- a mirrored place is on the side, and mirrored twice it is the place itself
pub mirrored_below : (falling : Bool) (W m : ℕ) → m < W → mirrored falling W m < W
mirrored_below falling W m k = numbering.mirrored_below falling W m k

pub mirrored_twice : (falling : Bool) (W m : ℕ) → m < W → mirrored falling W (mirrored falling W m) ≡ m
unfolding mirrored
mirrored_twice true W m k = omega arith
mirrored_twice false W m k = refl

-- a place and its mirrored place make up the side's last place
pub mirrored_whole : (W m : ℕ) → m < W → suc (mirrored true W m + m) ≡ W
unfolding mirrored
mirrored_whole W m k = omega arith

-- where lines do not fall, all places are as they are: said of the whole function, for sums over a side
pub mirrored_none : (W : ℕ) → mirrored false W ≡ (λ (m : ℕ). m)
unfolding mirrored
mirrored_none W = refl

-- a step is in the page if it is on the major side, and its place in normal form, x + drift s - drift t, on the minor
pub in_page_lem : (l : Line) → Sound l → (H W M m s : ℕ) → m < W
    → in_page l H W M m s
    ≡ ltb (major_at l M s) H
    && leb (drift l (step_of l M)) (mirrored (falls l) W m + drift l s)
    && ltb (mirrored (falls l) W m + drift l s) (W + drift l (step_of l M))
in_page_lem l h H W M m s k = normal.in_page_lem l h H W M m s k

-- a step that is in the page passes these three tests, and one that passes them is in the page
pub inside : (l : Line) → Sound l → (H W M m s : ℕ) → m < W → in_page l H W M m s ≡ true
    → Inside l H W M (mirrored (falls l) W m) s
inside l h H W M m s k e = normal.inside l h H W M m s k e

pub inside_in_page : (l : Line) → Sound l → (H W M m s : ℕ) → m < W → Inside l H W M (mirrored (falls l) W m) s
    → in_page l H W M m s ≡ true
inside_in_page l h H W M m s k i = normal.inside_in_page l h H W M m s k i

-- where a step is in the page, it lands on the place that is x + drift s - drift t in normal form
pub lands : (l : Line) → Sound l → (H W M m s : ℕ) → m < W → in_page l H W M m s ≡ true → Lands l W m (step_of l M) s
lands l h H W M m s k e = normal.lands l h H W M m s k e

-- ---- a page read along a line: where a step lands, for any line and any pixel

-- a line that is at m at its step t is at m at its step t
pub landing_still : (l : Line) (m t : ℕ) → landing l m t t ≡ some m
landing_still l m t = normal.landing_still l m t

-- the line through a pixel lands on that pixel at the pixel's own step
pub own_landing : (l : Line) (M m : ℕ) → landing l m (step_of l M) (step_of l M) ≡ some m
own_landing l M m = landing_still l m (step_of l M)

-- a step is in the page if its place on the major axis is below H, and it lands on a place below W
pub in_page_is : (l : Line) (H W M m s : ℕ)
    → in_page l H W M m s ≡ ltb (major_at l M s) H && within (landing l m (step_of l M) s) W
unfolding in_page
in_page_is l H W M m s = refl

-- no place is not below a side, and a place is if its number is below the side's length
pub within_none : (W : ℕ) → within none W ≡ false
unfolding within
within_none W = refl

pub within_some : (m W : ℕ) → within (some m) W ≡ ltb m W
unfolding within
within_some m W = refl

-- a step that is in the page lands on a pixel of the page
pub in_page_landing : (l : Line) (H W M m s : ℕ) → in_page l H W M m s ≡ true → StepIn l H W M m s
in_page_landing l H W M m s e = normal.step_in l H W M m s e

-- where a step that is in the page is known to land on m', the pixel (major_at l M s, m') is one of the page
pub landed_on_page : (l : Line) (H W M m s m' : ℕ) → in_page l H W M m s ≡ true → landing l m (step_of l M) s ≡ some m'
    → (major_at l M s < H) × (m' < W)
landed_on_page l H W M m s m' e there = normal.landed_on_page l H W M m s m' e there

-- a step that lands on a pixel of the page is in the page
pub landed_in_page : (l : Line) (H W M m s m' : ℕ) → landing l m (step_of l M) s ≡ some m'
    → major_at l M s < H → m' < W → in_page l H W M m s ≡ true
landed_in_page l H W M m s m' there long fits = normal.landed_in_page l H W M m s m' there long fits

-- a step that is not in the page lands on no place, or on a place that is off the page on the major or on the minor
-- axis; what holds of no place and of each such place holds of where it lands
pub out_of_page : (l : Line) (H W M m s : ℕ) → in_page l H W M m s ≡ false → (P : Option ℕ → Type 0)
    → P none → ((m' : ℕ) → (H ≤ major_at l M s) ⊎ (W ≤ m') → P (some m')) → P (landing l m (step_of l M) s)
out_of_page l H W M m s e P nowhere beside = normal.out_of_page l H W M m s e P nowhere beside

-- a step that cannot be in the page is not in it
pub not_in_page : (l : Line) (H W M m s : ℕ) → (in_page l H W M m s ≡ true → ⊥) → in_page l H W M m s ≡ false
not_in_page l H W M m s h = numbering.untrue (in_page l H W M m s) h

-- from where a step has landed, each further step lands where it lands from m
pub landing_onward : (l : Line) (m t s r m' : ℕ) → landing l m t s ≡ some m' → landing l m' s r ≡ landing l m t r
landing_onward l m t s r m' e = normal.landing_onward l m t s r m' e

-- ---- numbers on a line: "Its in_page_lem pixels are consecutive steps; number them 0 to n-1."

module _ (l : Line) (h : Sound l) (H W M m : ℕ) (hM : M < H) (hm : m < W) where
  -- a pixel of the page is a step of its line in the page
  pub own_step : in_page l H W M m (step_of l M) ≡ true
  own_step = numbering.own_step l h H W M m hM hm

  -- no more pixels come before it than it has made steps
  pub behind_low : behind l H W M m ≤ step_of l M
  behind_low = numbering.behind_low l h H W M m hM hm

  -- the steps in the page are those from t - behind to t + ahead
  pub consecutive : (s : ℕ)
      → in_page l H W M m s ≡ leb (step_of l M) (s + behind l H W M m) && leb s (step_of l M + ahead l H W M m)
  consecutive s = numbering.consecutive l h H W M m hM hm s

  -- so k steps back are in the page for k up to behind and not beyond, and k steps on for k up to ahead and not beyond
  pub behind_in : (k : ℕ) → k ≤ behind l H W M m → in_page l H W M m (step_of l M - k) ≡ true
  behind_in k i =
      let low : behind l H W M m ≤ step_of l M = behind_low in
      numbering.within_steps l h H W M m hM hm (step_of l M - k) (omega arith) (omega arith)

  pub behind_out : (k : ℕ) → behind l H W M m < k → k ≤ step_of l M → in_page l H W M m (step_of l M - k) ≡ false
  behind_out k i j = numbering.before_steps l h H W M m hM hm (step_of l M - k) (omega arith)

  pub ahead_in : (k : ℕ) → k ≤ ahead l H W M m → in_page l H W M m (step_of l M + k) ≡ true
  ahead_in k i = numbering.within_steps l h H W M m hM hm (step_of l M + k) (omega arith) (omega arith)

  pub ahead_out : (k : ℕ) → ahead l H W M m < k → in_page l H W M m (step_of l M + k) ≡ false
  ahead_out k i = numbering.after_steps l h H W M m hM hm (step_of l M + k) (omega arith)

  -- the last step in the page is the one that is `ahead` steps on
  pub ahead_is : (s : ℕ) → step_of l M ≤ s → in_page l H W M m s ≡ true → in_page l H W M m (suc s) ≡ false
      → s ≡ step_of l M + ahead l H W M m
  ahead_is s k e f = numbering.ahead_is l h H W M m hM hm s k e f

-- ---- one line, one number: "Each pixel lies on one line." Let the line through (M, m) land on m' at its step s.

module _ (l : Line) (h : Sound l) (H W M m : ℕ) (hM : M < H) (hm : m < W) (s m' : ℕ)
    (e : in_page l H W M m s ≡ true) (there : landing l m (step_of l M) s ≡ some m') where
  -- the same steps are in the page
  pub same_steps : (r : ℕ) → in_page l H W (major_at l M s) m' r ≡ in_page l H W M m r
  same_steps r = numbering.same_steps l h H W M m hM hm s m' e there r

  -- so its number is the other's, shifted by the steps between them
  pub behind_shifted : behind l H W (major_at l M s) m' + step_of l M ≡ behind l H W M m + s
  behind_shifted = (numbering.shifted l h H W M m hM hm s m' e there).0

  pub ahead_shifted : ahead l H W (major_at l M s) m' + s ≡ ahead l H W M m + step_of l M
  ahead_shifted = (numbering.shifted l h H W M m hM hm s m' e there).1

  -- and its line has as many pixels
  pub same_count : behind l H W (major_at l M s) m' + ahead l H W (major_at l M s) m' ≡ behind l H W M m + ahead l H W M m
  same_count = omega (arith, behind_shifted, ahead_shifted)

-- ---- the first number that passes a test

-- the number that `first` finds passes the test unless it is the end, and none before it does
pub first_is : (test : ℕ → Bool) (k n : ℕ) → First test k n (first test k n)
first_is test k n = counting.first_is_first test k n

-- ---- reach: the first step that has drifted v places

-- the reach among n steps is one of them, or n
pub reach_low : (l : Line) (v n : ℕ) → reach l v n ≤ n
reach_low l v n = omega (arith, (numbering.reach_first l v n).to)

-- no step before the reach has drifted so far
pub reach_before : (l : Line) (v n s : ℕ) → s < reach l v n → drift l s < v
reach_before l v n s k = leb-false v (drift l s) ((numbering.reach_first l v n).before s (omega arith) k)

-- the reach has drifted so far itself, unless it is n
pub reach_at : (l : Line) (v n : ℕ) → reach l v n < n → v ≤ drift l (reach l v n)
reach_at l v n k = leb-true v (drift l (reach l v n)) ((numbering.reach_first l v n).passes (omega arith))

-- a step that has drifted so far is not before the reach
pub reach_by : (l : Line) (v n s : ℕ) → v ≤ drift l s → reach l v n ≤ s
reach_by l v n s k = numbering.reach_by l v n s k

-- a number with these properties is the reach
pub reach_is : (l : Line) (v n r : ℕ) → r ≤ n → ((s : ℕ) → s < r → drift l s < v) → (r < n → v ≤ drift l r)
    → reach l v n ≡ r
reach_is l v n r k before at = numbering.reach_is l v n r k before at

-- beyond a step that has drifted so far, more steps change nothing
pub reach_more : (l : Line) (v n k s : ℕ) → v ≤ drift l s → s < n → s < k → reach l v n ≡ reach l v k
reach_more l v n k s far i j =
    let low : reach l v n ≤ s = reach_by l v n s far in
    sym (reach_is l v k (reach l v n) (omega arith) (reach_before l v n) (λ u. reach_at l v n (omega arith)))

-- every line has drifted 0 places at once, and takes no longer for fewer places
pub reach_zero : (l : Line) (n : ℕ) → reach l 0 (suc n) ≡ 0
reach_zero l n = reach_is l 0 (suc n) 0 (omega arith) (λ s k. absurd (omega arith)) (λ k. omega arith)

pub reach_rises : (l : Line) {v u : ℕ} (n : ℕ) → v ≤ u → reach l v n ≤ reach l u n
reach_rises l {v} {u} n k =
    by_cases
    (dec_lt (reach l u n) n)
    (λ i. reach_by l v n (reach l u n) (omega (arith, reach_at l u n i)))
    (λ i. omega (arith, reach_low l v n))

-- the number of a pixel is how many steps it is from the entry of its line, found among the steps up to its own
pub behind_reach : (l : Line) → Sound l → (H W M m : ℕ) → M < H → m < W
    → behind l H W M m ≡ step_of l M - reach l (drift l (step_of l M) - mirrored (falls l) W m) (suc (step_of l M))
behind_reach l h H W M m hM hm = numbering.behind_reach l h H W M m hM hm

-- the entry may be found among more steps
pub behind_reach_of : (l : Line) → Sound l → (H W M m n : ℕ) → M < H → m < W → step_of l M < n
    → behind l H W M m ≡ step_of l M - reach l (drift l (step_of l M) - mirrored (falls l) W m) n
behind_reach_of l h H W M m n hM hm k =
    let t : ℕ = step_of l M in
    let v : ℕ = drift l t - mirrored (falls l) W m in
    behind_reach l h H W M m hM hm
    ∙ ap (λ (r : ℕ). t - r) (reach_more l v (suc t) n t (omega arith) (omega arith) k)

-- ---- the flip: document 02, wish 2. Let l be a line that a ticket may order, and m a place of a side W; mirrored true
-- W m is the place as far from the side's other end.

-- the flipped line is a line that a ticket may order, on the same axes, with its minor component negated
module _ (l : Line) (e : shallow l.dx l.dy || steep l.dx l.dy ≡ true) where
  pub flipped_runs : shallow (flipped l).dx (flipped l).dy || steep (flipped l).dx (flipped l).dy ≡ true
  flipped_runs = flip.runs_flipped l e

  pub flipped_steep : steep (flipped l).dx (flipped l).dy ≡ steep l.dx l.dy
  flipped_steep = flip.steep_flipped l e

  pub flipped_major : major_of (flipped l).dx (flipped l).dy ≡ major_of l.dx l.dy
  flipped_major = flip.major_flipped l e

  pub flipped_minor : minor_of (flipped l).dx (flipped l).dy ≡ neg_ℤ (minor_of l.dx l.dy)
  flipped_minor = flip.minor_flipped l e

  -- flipped again, it is the line itself
  pub flipped_twice : flipped (flipped l) ≡ l
  flipped_twice = flip.flipped_twice l e

  -- it makes the same steps along the major axis
  pub flipped_step : (M : ℕ) → step_of (flipped l) M ≡ step_of l M
  flipped_step M = flip.step_flipped l e M

  pub flipped_major_at : (M s : ℕ) → major_at (flipped l) M s ≡ major_at l M s
  flipped_major_at M s = flip.major_at_flipped l e M s

  -- where the line lands on a place of the side, the flipped one lands on the mirrored place
  pub flipped_landing : (W m m' t s : ℕ) → m < W → m' < W → landing l m t s ≡ some m'
      → landing (flipped l) (mirrored true W m) t s ≡ some (mirrored true W m')
  flipped_landing W m m' t s h h' there = flip.lands_flipped l e W m m' t s h h' there

  -- so the same steps are in the page, and a pixel has the mirrored pixel's number
  pub flipped_in_page : (H W M m s : ℕ) → m < W → in_page (flipped l) H W M (mirrored true W m) s ≡ in_page l H W M m s
  flipped_in_page H W M m s h = flip.in_page_flipped l e H W M m s h

  pub flipped_behind : (H W M m : ℕ) → m < W → behind (flipped l) H W M (mirrored true W m) ≡ behind l H W M m
  flipped_behind H W M m h = flip.behind_flipped l e H W M m h

  pub flipped_ahead : (H W M m : ℕ) → m < W → ahead (flipped l) H W M (mirrored true W m) ≡ ahead l H W M m
  flipped_ahead H W M m h = flip.ahead_flipped l e H W M m h

-- neither component changes its size, nor does the line its kind and its phase
pub flipped_dx : (l : Line) → nat_abs (flipped l).dx ≡ nat_abs l.dx
flipped_dx l = flip.dx_flipped l

pub flipped_dy : (l : Line) → nat_abs (flipped l).dy ≡ nat_abs l.dy
flipped_dy l = flip.dy_flipped l

pub flipped_kind : (l : Line) → (flipped l).periodic ≡ l.periodic
unfolding flipped
flipped_kind l = refl

pub flipped_phase : (l : Line) → (flipped l).phase ≡ l.phase
unfolding flipped
flipped_phase l = refl

-- a level line is its own negation
pub flipped_level : (l : Line) → minor_of l.dx l.dy ≡ pos 0 → flipped l ≡ l
flipped_level l e = flip.flipped_level l e
