-- The passes of an operation, by whether it begins low and whether a second pass follows.
-- Assumes nothing.
use mathlib.Core.Path.{◌≡◌, refl, sym, ap}
use mathlib.Core.Bool.{Bool, true, false, cond, not, true≢false}
use Prim.Native.Nat.{ℕ, suc, ◌+◌, ◌<◌}
use native.Mathlib.Omega.{arith}
use Rattle.ticket.specs.declared.Operation.{Operation}
use Rattle.ticket.specs.declared.Operation.TheVariants.{Erode, Dilate, Open, Close}
use Rattle.filter.specs.Seen.{View}
use Rattle.filter.specs.Engine.{back_of}
use Rattle.filter.specs.Filters.{pass, eroded, dilated, opened, closed, operated, dilation_back}
use Rattle.filter.specs.declared.Segment.{Segment}
use Rattle.why.specs.Named.{first_pass_lem}
use Rattle.why.specs.Reason.{starts_low, passes_twice, first_pass_of}

-- what an `if` of the code chooses
pub then_is : (b : Bool) (x y : ℕ) → b ≡ true → x ≡ cond b x y
then_is b x y e = sym (ap (λ (v : Bool). cond v x y) e)

pub else_is : (b : Bool) (x y : ℕ) → b ≡ false → y ≡ cond b x y
else_is b x y e = sym (ap (λ (v : Bool). cond v x y) e)

module _ (s : Segment) (page : View) where
  -- the first pass
  pub first_is :
      (n : Operation) → first_pass_of n s page ≡ pass (starts_low n) s.line (back_of s (starts_low n)) s.length page
  unfolding first_pass_of
  first_is n = first_pass_lem (starts_low n) s page

  -- one pass is all of erosion and dilation
  pub once_is : (n : Operation) → passes_twice n ≡ false → operated n s page ≡ first_pass_of n s page
  unfolding operated first_pass_of passes_twice starts_low
  once_is Erode e = refl
  once_is Dilate e = refl
  once_is Open e = absurd (true≢false e)
  once_is Close e = absurd (true≢false e)

  -- opening and closing take the other end of what the first pass makes
  pub twice_is :
      (n : Operation) → passes_twice n ≡ true
      → operated n s page
      ≡ pass (not (starts_low n)) s.line (back_of s (not (starts_low n))) s.length (first_pass_of n s page)
  unfolding operated opened closed eroded dilated back_of first_pass_of passes_twice starts_low
  twice_is Erode e = absurd (true≢false (sym e))
  twice_is Dilate e = absurd (true≢false (sym e))
  twice_is Open e = refl
  twice_is Close e = refl

-- the two windows are end to end: L - 1 steps of theirs lie before their pixels
pub backs_whole : (s : Segment) (b : Bool) → s.origin < s.length → suc (back_of s b + back_of s (not b)) ≡ s.length
unfolding back_of dilation_back
backs_whole s true below = omega arith
backs_whole s false below = omega arith
