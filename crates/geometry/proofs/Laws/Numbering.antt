-- A line's steps in the page are consecutive, and each of its pixels counts the same ones: proofs for the laws in Laws.
-- Assumes nothing.
use Rattle.std.specs.Prelude.{◌≡◌, refl, Bool, ◌&&◌, ltb, leb}
use Rattle.std.proofs.Common.{sym, ap₂, ◌∙◌, mod-lt}
use Rattle.std.proofs.Math.Path.{ap}
use Rattle.std.proofs.Math.Bool.{true, false, not, cond, and-eq-true_iff}
use Rattle.std.proofs.lemmas.Bool.{false≢true}
use Rattle.std.proofs.Math.Logic.{by_cases}
use Rattle.std.proofs.Math.Option.{some}
use Prim.Native.Nat.{ℕ, suc, ◌+◌, ◌*◌, ◌-◌, ◌%◌, ◌≤◌, ◌<◌}
use Rattle.std.proofs.Math.Nat.{mod-add-div', mul-le-mul_left, mul-le-mul_right, add-mul-div_right, add-mul-mod_self_right, div-eq_of_lt, mod-mod, zero-add}
use Rattle.std.proofs.Math.Decide.{dec_le, dec_lt}
use native.Mathlib.Omega.{arith}
use borrow.Author.Tests.{leb-true, leb-false, le-leb, lt-leb, not-true, not-false}
use Rattle.vectors.specs.Vector.{major_of}
use Rattle.geometry.specs.Line.{period, landing, step_of, major_at}
use Rattle.geometry.specs.Number.{in_page, behind, ahead}
use Rattle.geometry.specs.Drift.{Sound, Inside, First, falls, drift, mirrored, first, reach}
use Rattle.geometry.proofs.Laws.Rows.{drift_rises}
use Rattle.geometry.proofs.Laws.Normal.{in_page_lem, inside, inside_in_page, lands, same_leb}
use Rattle.geometry.proofs.Laws.Counting.{first_is_first, first_unique, Run, count_run}
use Rattle.geometry.specs.declared.Line.{Line}

-- what is not true is false
pub untrue : (b : Bool) → (b ≡ true → ⊥) → b ≡ false
untrue true h = absurd (h refl)
untrue false h = refl

pub mirrored_below : (falling : Bool) (W m : ℕ) → m < W → mirrored falling W m < W
unfolding mirrored
mirrored_below true W m h = omega arith
mirrored_below false W m h = h

-- whether a third step is in the page is the same question at either of two places of one line, x at drift a and y at
-- drift b
same_tests : (long : Bool) (W a b c x y : ℕ) → y + a ≡ x + b
    → long && leb b (y + c) && ltb (y + c) (W + b) ≡ long && leb a (x + c) && ltb (x + c) (W + a)
same_tests long W a b c x y e =
    ap₂
    ◌&&◌
    (ap (λ (t : Bool). long && t) (same_leb b (y + c) a (x + c) (λ i. omega arith) (λ i. omega arith)))
    (same_leb (suc (y + c)) (W + b) (suc (x + c)) (W + a) (λ i. omega arith) (λ i. omega arith))

-- steps counted b back from t and a on are those counted back and on from another of them
covers : (t b a s b' a' : ℕ) → ((r : ℕ) → leb t (r + b) && leb r (t + a) ≡ leb s (r + b') && leb r (s + a'))
    → (r : ℕ) → t ≤ r + b → r ≤ t + a → (s ≤ r + b') × (r ≤ s + a')
covers t b a s b' a' same r low high =
    let tests = sym (same r) ∙ ap₂ ◌&&◌ (le-leb t (r + b) low) (le-leb r (t + a) high) in
    let both = (and-eq-true_iff (leb s (r + b')) (leb r (s + a'))).0 tests in
    (leb-true s (r + b') both.0, leb-true r (s + a') both.1)

same_ends : (t b a s b' a' : ℕ) → b ≤ t → b' ≤ s
    → ((r : ℕ) → leb t (r + b) && leb r (t + a) ≡ leb s (r + b') && leb r (s + a'))
    → (b' + t ≡ b + s) × (a' + s ≡ a + t)
same_ends t b a s b' a' h k same =
    let there = covers t b a s b' a' same in
    let here = covers s b' a' t b a (λ r. sym (same r)) in
    let p = there (t - b) (omega arith) (omega arith) in
    let q = here (s - b') (omega arith) (omega arith) in
    let u = there (t + a) (omega arith) (omega arith) in
    let v = here (s + a') (omega arith) (omega arith) in
    (omega (arith, p.0, q.0), omega (arith, u.1, v.1))

pub reach_first : (l : Line) (v n : ℕ) → First (λ s. leb v (drift l s)) 0 n (reach l v n)
unfolding reach
reach_first l v n = first_is_first (λ s. leb v (drift l s)) 0 n

-- a step that has drifted far enough is not before the reach
pub reach_by : (l : Line) (v n s : ℕ) → v ≤ drift l s → reach l v n ≤ s
reach_by l v n s k =
    by_cases
    (dec_le (reach l v n) s)
    (λ i. i)
    (λ i.
    let short : leb v (drift l s) ≡ false = (reach_first l v n).before s (omega arith) (omega arith) in
    absurd (false≢true (sym short ∙ le-leb v (drift l s) k)))

pub reach_is : (l : Line) (v n r : ℕ) → r ≤ n → ((s : ℕ) → s < r → drift l s < v) → (r < n → v ≤ drift l r)
    → reach l v n ≡ r
reach_is l v n r k before at =
    first_unique (λ s. leb v (drift l s)) 0 n (reach l v n) r (reach_first l v n)
    (record {
      from = omega arith;
      to = omega arith;
      before = λ s i j. lt-leb v (drift l s) (before s j);
      passes = λ i. le-leb v (drift l r) (at (omega arith));
    })

module _ (l : Line) (h : Sound l) where
  pub period_forward : 1 ≤ period l
  unfolding period
  period_forward = go l.periodic
    where
      go : (b : Bool) → 1 ≤ cond b (major_of l.dx l.dy) 1
      go true = h.forward
      go false = omega arith

  pub major_at_step : (M : ℕ) → major_at l M (step_of l M) ≡ M
  unfolding major_at step_of
  major_at_step M = mod-add-div' M (period l)

  pub step_at_lem : (u s : ℕ) → u < period l → step_of l (u + s * period l) ≡ s
  unfolding step_of
  step_at_lem u s small = add-mul-div_right u s period_forward ∙ ap (λ (n : ℕ). n + s) (div-eq_of_lt small) ∙ zero-add s

  pub step_of_major : (M s : ℕ) → step_of l (major_at l M s) ≡ s
  unfolding major_at
  step_of_major M s = step_at_lem (M % period l) s (mod-lt M period_forward)

  pub major_of_major : (M s r : ℕ) → major_at l (major_at l M s) r ≡ major_at l M r
  unfolding major_at
  major_of_major M s r =
      ap (λ (n : ℕ). n + r * period l) (add-mul-mod_self_right (M % period l) s (period l) ∙ mod-mod M (period l))

  pub major_rises : (M : ℕ) {s r : ℕ} → s ≤ r → major_at l M s ≤ major_at l M r
  unfolding major_at
  major_rises M k = omega (arith, mul-le-mul_right (period l) k)

  pub major_beyond : (M s : ℕ) → s ≤ major_at l M s
  unfolding major_at
  major_beyond M s = omega (arith, mul-le-mul_left s period_forward)

  module _ (H W M m : ℕ) (hM : M < H) (hm : m < W) where
    -- up to its own step, a line's steps are in the page once they have drifted far enough
    back : (s : ℕ) → s ≤ step_of l M → drift l (step_of l M) ≤ mirrored (falls l) W m + drift l s
        → in_page l H W M m s ≡ true
    back s k i =
        let x_fits : mirrored (falls l) W m < W = mirrored_below (falls l) W m hm in
        let rises : drift l s ≤ drift l (step_of l M) = drift_rises l h k in
        let here : major_at l M (step_of l M) ≡ M = major_at_step M in
        let up : major_at l M s ≤ major_at l M (step_of l M) = major_rises M k in
        inside_in_page l h H W M m s hm (record { long = omega arith; low = i; high = omega arith })

    -- from its own step on, a line that is in the page at a later step has not left it before
    on : (r s : ℕ) → step_of l M ≤ r → r ≤ s → in_page l H W M m s ≡ true → in_page l H W M m r ≡ true
    on r s k i e =
        let there : Inside l H W M (mirrored (falls l) W m) s = inside l h H W M m s hm e in
        let far : major_at l M r ≤ major_at l M s = major_rises M i in
        let before : drift l (step_of l M) ≤ drift l r = drift_rises l h k in
        let after : drift l r ≤ drift l s = drift_rises l h i in
        inside_in_page l h H W M m r hm (record { long = omega arith; low = omega arith; high = omega arith })

    entry : ℕ
    entry = reach l (drift l (step_of l M) - mirrored (falls l) W m) (suc (step_of l M))

    exit : ℕ
    exit = first (λ s. not (in_page l H W M m s)) (suc (step_of l M)) (H - suc (step_of l M))

    back_run : Run (in_page l H W M m) 0 (step_of l M) entry (step_of l M)
    unfolding entry
    back_run =
        record {
          from = omega arith;
          up = r_low;
          to = omega arith;
          before = outside;
          passes = λ s i j. back s (omega arith) (enough s i);
          after = λ s i j. absurd (omega arith);
        }
      where
        x : ℕ
        x = mirrored (falls l) W m

        t : ℕ
        t = step_of l M

        r : ℕ
        r = reach l (drift l t - x) (suc t)

        r_low : r ≤ t
        r_low = reach_by l (drift l t - x) (suc t) t (omega arith)

        reached : drift l t - x ≤ drift l r
        reached = leb-true _ _ ((reach_first l (drift l t - x) (suc t)).passes (omega (arith, r_low)))

        enough : (s : ℕ) → r ≤ s → drift l t ≤ x + drift l s
        enough s i = omega (arith, reached, drift_rises l h i)

        outside : (s : ℕ) → 0 ≤ s → s < r → in_page l H W M m s ≡ false
        outside s i j =
            let short : drift l s < drift l t - x =
            leb-false _ _ ((reach_first l (drift l t - x) (suc t)).before s i j) in
            untrue _ (λ e. absurd (omega (arith, (inside l h H W M m s hm e).low)))

    on_run : Run (in_page l H W M m) (suc (step_of l M)) (H - suc (step_of l M)) (suc (step_of l M)) exit
    unfolding exit
    on_run =
        let f = first_is_first (λ s. not (in_page l H W M m s)) (suc (step_of l M)) (H - suc (step_of l M)) in
        record {
          from = omega arith;
          up = f.from;
          to = f.to;
          before = λ s i j. absurd (omega arith);
          passes = λ s i j. not-false _ (f.before s i j);
          after = λ s i j. untrue _ (λ e.
              let left : in_page l H W M m exit ≡ false = not-true _ (f.passes (omega (arith, f.to))) in
              absurd (false≢true (sym left ∙ on exit s (omega (arith, f.from)) i e)));
        }

    step_below : step_of l M < H
    step_below = omega (arith, major_beyond M (step_of l M), major_at_step M)

    entry_behind : behind l H W M m + entry ≡ step_of l M
    unfolding behind
    entry_behind = count_run (in_page l H W M m) 0 (step_of l M) entry (step_of l M) back_run

    exit_ahead : ahead l H W M m + suc (step_of l M) ≡ exit
    unfolding ahead
    exit_ahead = count_run (in_page l H W M m) (suc (step_of l M)) (H - suc (step_of l M)) (suc (step_of l M)) exit on_run

    pub behind_reach : behind l H W M m
        ≡ step_of l M - reach l (drift l (step_of l M) - mirrored (falls l) W m) (suc (step_of l M))
    unfolding entry
    behind_reach = omega (arith, entry_behind)

    pub own_step : in_page l H W M m (step_of l M) ≡ true
    own_step = back (step_of l M) (omega arith) (omega arith)

    pub consecutive : (s : ℕ)
        → in_page l H W M m s ≡ leb (step_of l M) (s + behind l H W M m) && leb s (step_of l M + ahead l H W M m)
    consecutive s =
        by_cases
        (dec_le s (step_of l M))
        (λ i.
        let last : leb s (step_of l M + ahead l H W M m) ≡ true =
        le-leb s (step_of l M + ahead l H W M m) (omega arith) in
        by_cases
        (dec_le entry s)
        (λ j. back_true i j
        ∙ sym (ap₂ ◌&&◌ (le-leb (step_of l M) (s + behind l H W M m) (omega (arith, entry_behind))) last))
        (λ j. back_run.before s (omega arith) (omega arith)
        ∙ sym (ap₂ ◌&&◌ (lt-leb (step_of l M) (s + behind l H W M m) (omega (arith, entry_behind))) last)))
        (λ i.
        let soon : leb (step_of l M) (s + behind l H W M m) ≡ true =
        le-leb (step_of l M) (s + behind l H W M m) (omega arith) in
        by_cases
        (dec_lt s exit)
        (λ j. on_run.passes s (omega arith) j
        ∙ sym (ap₂ ◌&&◌ soon (le-leb s (step_of l M + ahead l H W M m) (omega (arith, exit_ahead)))))
        (λ j. gone i j ∙ sym (ap₂ ◌&&◌ soon (lt-leb s (step_of l M + ahead l H W M m) (omega (arith, exit_ahead))))))
      where
        back_true : s ≤ step_of l M → entry ≤ s → in_page l H W M m s ≡ true
        back_true i j =
            by_cases (dec_lt s (step_of l M)) (λ k. back_run.passes s j k)
            (λ k. ap (in_page l H W M m) (same k) ∙ own_step)
          where
            same : ¬ (s < step_of l M) → s ≡ step_of l M
            same k = omega arith

        gone : ¬ (s ≤ step_of l M) → ¬ (s < exit) → in_page l H W M m s ≡ false
        gone i j =
            by_cases
            (dec_lt s H)
            (λ k. on_run.after s (omega arith) (omega (arith, step_below)))
            (λ k. untrue _ (λ e. absurd (omega (arith, (inside l h H W M m s hm e).long, major_beyond M s))))

    pub within_steps : (s : ℕ) → step_of l M ≤ s + behind l H W M m → s ≤ step_of l M + ahead l H W M m
        → in_page l H W M m s ≡ true
    within_steps s i j =
        consecutive s
        ∙ ap₂ ◌&&◌ (le-leb (step_of l M) (s + behind l H W M m) i) (le-leb s (step_of l M + ahead l H W M m) j)

    pub before_steps : (s : ℕ) → s + behind l H W M m < step_of l M → in_page l H W M m s ≡ false
    before_steps s i =
        let gone : leb (step_of l M) (s + behind l H W M m) ≡ false = lt-leb (step_of l M) (s + behind l H W M m) i in
        consecutive s ∙ ap (λ (b : Bool). b && leb s (step_of l M + ahead l H W M m)) gone

    pub after_steps : (s : ℕ) → step_of l M + ahead l H W M m < s → in_page l H W M m s ≡ false
    after_steps s i =
        let on : leb (step_of l M) (s + behind l H W M m) ≡ true =
        le-leb (step_of l M) (s + behind l H W M m) (omega arith) in
        consecutive s ∙ ap₂ ◌&&◌ on (lt-leb s (step_of l M + ahead l H W M m) i)

    pub ahead_is : (s : ℕ) → step_of l M ≤ s → in_page l H W M m s ≡ true → in_page l H W M m (suc s) ≡ false
        → s ≡ step_of l M + ahead l H W M m
    ahead_is s k e f =
        let both = (and-eq-true_iff (leb (step_of l M) (s + behind l H W M m)) _).0 (sym (consecutive s) ∙ e) in
        let here : s ≤ step_of l M + ahead l H W M m = leb-true _ _ both.1 in
        by_cases
        (dec_le (suc s) (step_of l M + ahead l H W M m))
        (λ i. absurd (false≢true (sym f ∙ within_steps (suc s) (omega arith) i)))
        (λ i. omega arith)

    pub behind_low : behind l H W M m ≤ step_of l M
    behind_low = omega (arith, entry_behind)

  -- a pixel that the line through (M, m) comes to at its step s
  module _ (H W M m : ℕ) (hM : M < H) (hm : m < W) (s m' : ℕ) (e : in_page l H W M m s ≡ true)
      (there : landing l m (step_of l M) s ≡ some m') where
    pub landed_fits : m' < W
    landed_fits =
        let found = lands l h H W M m s hm e in
        let same : found.at ≡ m' = cc in
        omega (arith, found.fits)

    landed_moved : mirrored (falls l) W m' + drift l (step_of l M) ≡ mirrored (falls l) W m + drift l s
    landed_moved =
        let found = lands l h H W M m s hm e in
        let same : found.at ≡ m' = cc in
        rw same at found.moved

    pub same_steps : (r : ℕ) → in_page l H W (major_at l M s) m' r ≡ in_page l H W M m r
    same_steps r =
        in_page_lem l h H W (major_at l M s) m' r landed_fits
        ∙ rw (step_of_major M s, major_of_major M s r)
        (same_tests (ltb (major_at l M r) H) W (drift l (step_of l M)) (drift l s) (drift l r)
        (mirrored (falls l) W m) (mirrored (falls l) W m') landed_moved)
        ∙ sym (in_page_lem l h H W M m r hm)

    pub shifted : (behind l H W (major_at l M s) m' + step_of l M ≡ behind l H W M m + s)
        × (ahead l H W (major_at l M s) m' + s ≡ ahead l H W M m + step_of l M)
    shifted =
        same_ends (step_of l M) (behind l H W M m) (ahead l H W M m) s (behind l H W (major_at l M s) m')
        (ahead l H W (major_at l M s) m') (behind_low H W M m hM hm) low
        (λ r. sym (consecutive H W M m hM hm r) ∙ sym (same_steps r) ∙ others r)
      where
        long : major_at l M s < H
        long = (inside l h H W M m s hm e).long

        low : behind l H W (major_at l M s) m' ≤ s
        low = rw (step_of_major M s) at (behind_low H W (major_at l M s) m' long landed_fits)

        others : (r : ℕ)
            → in_page l H W (major_at l M s) m' r
            ≡ leb s (r + behind l H W (major_at l M s) m') && leb r (s + ahead l H W (major_at l M s) m')
        others r = rw (step_of_major M s) at (consecutive H W (major_at l M s) m' long landed_fits r)
