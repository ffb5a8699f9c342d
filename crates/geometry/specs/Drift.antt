-- Document 01, 'Lines', as the layers above read it: which way a line drifts, how far it has drifted at each step, and
-- the page in normal form, where every line drifts to larger places. The laws of these numbers stand in proofs/.
-- Assumes nothing.
use Rattle.std.specs.Prelude.{ℕ, zero, suc, ◌+◌, ◌-◌, ◌≤◌, ◌<◌, Bool, true, false, not, cond, ◌≡◌, leb, ℤ, pos, neg_ℤ, nat_abs}
use Rattle.std.proofs.Math.Option.{some}
use Rattle.std.specs.Int.Signed.{non_neg}
use Rattle.vectors.specs.Vector.{major_of, minor_of}
use Rattle.geometry.specs.Line.{profile, landing, step_of, major_at}
use Rattle.geometry.specs.declared.Line.{Line}

-- what the laws assume of a line's vector: "shallow (dx at least 1, abs dy at most dx) or steep (dy at least 1, abs dx
-- below dy)"
pub record Sound (l : Line) : Type 0 where
  pub forward : 1 ≤ major_of l.dx l.dy
  pub slope : nat_abs (minor_of l.dx l.dy) ≤ major_of l.dx l.dy

-- a line that a ticket may order: "each component within -255 to 255", the phase below the larger of them, or 0
pub record Allowed (l : Line) : Type 0 where
  pub sound : Sound l
  pub dx_near : nat_abs l.dx ≤ 255
  pub dy_near : nat_abs l.dy ≤ 255
  pub phase_near : l.phase < 255

-- a line whose minor component is negative comes to smaller places as it goes on
unfoldable pub falls : Line → Bool
falls l = not (non_neg (minor_of l.dx l.dy))

-- how far a line has moved along the minor axis at its step t, whichever way it goes
unfoldable pub drift : Line → ℕ → ℕ
drift l t = nat_abs (profile l t)

-- a number of places, counted down where the line falls
unfoldable pub signed : Bool → ℕ → ℤ
signed true n = neg_ℤ (pos n)
signed false n = pos n

-- the place m of a side W in normal form: where lines fall, the side is counted from its other end
unfoldable pub mirrored : Bool → ℕ → ℕ → ℕ
mirrored falling W m = cond falling (W - 1 - m) m

-- the first of the n numbers from k on that passes a test, and k + n where none does
unfoldable pub first : (ℕ → Bool) → ℕ → ℕ → ℕ
first test k zero = k
first test k (suc n) =
    let later = first test (suc k) n in
    cond (test k) k later

-- what the first number is: none before it passes, and it passes itself unless it is the end
pub record First (test : ℕ → Bool) (k n r : ℕ) : Type 0 where
  pub from : k ≤ r
  pub to : r ≤ k + n
  pub before : (s : ℕ) → k ≤ s → s < r → test s ≡ false
  pub passes : r < k + n → test r ≡ true

-- the first of a line's steps 0 to n - 1 that has drifted v places, and n where none has
unfoldable pub reach : Line → ℕ → ℕ → ℕ
reach l v n = first (λ s. leb v (drift l s)) 0 n

-- step s of the line through (M, m) is in a page of sides H and W, with x for m in normal form
pub record Inside (l : Line) (H W M x s : ℕ) : Type 0 where
  pub long : major_at l M s < H
  pub low : drift l (step_of l M) ≤ x + drift l s
  pub high : x + drift l s < W + drift l (step_of l M)

-- step s of the line through (M, m) is in a page of sides H and W: it lands on a place, and that place is on the page
pub record StepIn (l : Line) (H W M m s : ℕ) : Type 0 where
  pub long : major_at l M s < H
  pub at : ℕ
  pub lands : landing l m (step_of l M) s ≡ some at
  pub fits : at < W

-- where the line that is at m at its step t lands at its step s, in normal form
pub record Lands (l : Line) (W m t s : ℕ) : Type 0 where
  pub at : ℕ
  pub lands : landing l m t s ≡ some at
  pub fits : at < W
  pub moved : mirrored (falls l) W at + drift l t ≡ mirrored (falls l) W m + drift l s
