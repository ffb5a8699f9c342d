-- The work is at most 3·w·h a pass: each of a pixel's three charges is at most one.
-- Assumes nothing.
use mathlib.Core.Path.{◌≡◌, refl, sym, ap}
use mathlib.Core.Bool.{Bool, true, false, ◌||◌, cond}
use mathlib.Core.Logic.{inl, inr}
use Prim.Native.Nat.{ℕ, zero, suc, ◌+◌, ◌-◌, ◌*◌, ◌/◌, ◌%◌, ◌≤◌, min}
use native.Mathlib.Nat.{mul_comm}
use native.Mathlib.Omega.{arith}
use lib.Dec.{eqb}
use Rattle.geometry.specs.Number.{behind, ahead}
use Rattle.runs.specs.Block.{rightward, leftward, resulting}
use Rattle.runs.specs.Scratch.{total}
use Rattle.ticket.specs.Reading.{shown}
use Rattle.ticket.specs.declared.Operation.{Operation}
use Rattle.ticket.specs.declared.Operation.TheVariants.{Erode, Dilate, Open, Close}
use Rattle.filter.specs.Seen.{runs_steep}
use Rattle.filter.specs.Filters.{dilation_back}
use Rattle.filter.specs.Work.{charged, charged_at, pass_work, erosion_work, dilation_work, work_of}
use Rattle.filter.specs.declared.Segment.{Segment}
use Rattle.job.specs.Order.{segment_of}
use Rattle.job.specs.Job.{job_work}
use Rattle.job.specs.Laws.{finished_job}
use Rattle.demands.specs.Work.{PassWork, OnePassWork, TwoPassWork, FinishedWork, FinishedOnePass}
use Rattle.demands.specs.Work.{FinishedTwoPasses}

one_or_none : (b : Bool) → cond b 0 1 ≤ 1
one_or_none true = omega arith
one_or_none false = omega arith

-- a pixel is charged three at most
charged_most : (L a x n : ℕ) → charged L a x n ≤ 3
unfolding charged rightward leftward resulting
charged_most L a x n =
    omega (
      arith,
      one_or_none (eqb (suc x % L) 0 || eqb (suc x) n),
      one_or_none (eqb (x % L) 0),
      one_or_none (eqb ((x - a) / L) (min (x + (L - 1 - a)) (n - 1) / L)),
    )

-- n numbers that are at most v each
total_most : (cost : ℕ → ℕ) (v : ℕ) → ((k : ℕ) → cost k ≤ v) → (k n : ℕ) → total cost k n ≤ n * v
unfolding total
total_most cost v most k zero = omega arith
total_most cost v most k (suc n) = omega (arith, most k, total_most cost v most (suc k) n)

pub pass_work_lem : PassWork
unfolding pass_work charged_at
pass_work_lem l H W L a =
    omega (
      arith,
      total_most _ (W * 3)
          (λ M.
          total_most _ 3 (λ m. charged_most L a (behind l H W M m) (suc (behind l H W M m + ahead l H W M m))) 0 W)
          0 H,
    )

-- columns and rows exchanged or not, the page has the same size
turned_size : (steep : Bool) (w h : ℕ) → cond steep h w * cond steep w h ≡ w * h
turned_size true w h = mul_comm h w
turned_size false w h = refl

module _ (segment : Segment) (w h : ℕ) where
  pass_most :
      (a : ℕ)
      → pass_work segment.line (cond (runs_steep segment.line) h w) (cond (runs_steep segment.line) w h)
      segment.length a ≤ 3 * (w * h)
  pass_most a =
      let steep : Bool = runs_steep segment.line in
      omega (
        arith,
        pass_work_lem segment.line (cond steep h w) (cond steep w h) segment.length a,
        turned_size steep w h,
      )

  erosion_most : erosion_work segment w h ≤ 3 * (w * h)
  unfolding erosion_work
  erosion_most = pass_most segment.origin

  dilation_most : dilation_work segment w h ≤ 3 * (w * h)
  unfolding dilation_work
  dilation_most = pass_most (dilation_back segment)

pub one_pass_work : OnePassWork
unfolding job_work work_of
one_pass_work t w h (inl e) =
    rw (ap (λ (n : Operation). work_of n (segment_of t) w h) e) (erosion_most (segment_of t) w h)
one_pass_work t w h (inr e) =
    rw (ap (λ (n : Operation). work_of n (segment_of t) w h) e) (dilation_most (segment_of t) w h)

of_two : (n : Operation) (segment : Segment) (w h : ℕ) → work_of n segment w h ≤ 6 * (w * h)
unfolding work_of
of_two Erode segment w h = omega (arith, erosion_most segment w h)
of_two Dilate segment w h = omega (arith, dilation_most segment w h)
of_two Open segment w h = omega (arith, erosion_most segment w h, dilation_most segment w h)
of_two Close segment w h = omega (arith, erosion_most segment w h, dilation_most segment w h)

pub two_pass_work : TwoPassWork
unfolding job_work
two_pass_work t w h = of_two t.operation (segment_of t) w h

pub finished_work : FinishedWork
finished_work ticket p n work done = sym (finished_job ticket p n work done).worked

pub finished_one_pass : FinishedOnePass
finished_one_pass ticket p n work done one =
    omega (arith, finished_work ticket p n work done, one_pass_work (shown ticket) p.width p.height one)

pub finished_two_passes : FinishedTwoPasses
finished_two_passes ticket p n work done =
    omega (arith, finished_work ticket p n work done, two_pass_work (shown ticket) p.width p.height)
