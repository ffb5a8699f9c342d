-- The comparisons of a pass as the filter charges them are those that its three sweeps count.
-- Assumes nothing.
use mathlib.Core.Path.{◌≡◌, refl, ap, ◌∙◌}
use Prim.Native.Nat.{ℕ, suc, ◌+◌, ◌-◌, ◌<◌}
use native.Mathlib.Omega.{arith}
use Rattle.geometry.specs.Drift.{falls, mirrored}
use Rattle.runs.specs.Grid.{Sized, rightward_at, leftward_at, resulting_at}
use Rattle.runs.specs.Scratch.{total}
use Rattle.sweep.specs.Sweeps.{cost_at, row_cost, sweep_cost}
use Rattle.runs.specs.declared.Grid.{Grid}
use Rattle.sweep.specs.declared.Sweep.TheVariants.{Backward, Forward, Result}
use Rattle.filter.specs.Sums.{total_same, total_plus, total_mirrored}
use Rattle.filter.specs.Work.{charged, charged_at, pass_work}
use Rattle.filter.proofs.Steps.{number_behind, steps_counted}

on_is : (L a b : ℕ) → L ≡ suc (a + b) → L - 1 - a ≡ b
on_is L a b e = omega arith

module _ (g : Grid) (sized : Sized g) where
  -- what a pixel is charged
  pub charged_at_lem : (M m : ℕ) → M < g.height → m < g.width
      → charged_at g.line g.height g.width g.length g.back M m
      ≡ cost_at Backward g M (mirrored (falls g.line) g.width m)
      + cost_at Forward g M (mirrored (falls g.line) g.width m)
      + cost_at Result g M (mirrored (falls g.line) g.width m)
  unfolding charged_at charged cost_at leftward_at rightward_at resulting_at
  charged_at_lem M m rows columns =
      rw (
        number_behind g sized M m rows columns,
        steps_counted g sized M m rows columns,
        on_is g.length g.back
            g.on sized.length_is,
      ) refl

  -- a row
  charged_row : (M : ℕ) → M < g.height
      → total (λ (m : ℕ). charged_at g.line g.height g.width g.length g.back M m) 0 g.width
      ≡ row_cost Backward g M + row_cost Forward g M + row_cost Result g M
  charged_row M rows =
      total_same (λ (m : ℕ). charged_at g.line g.height g.width g.length g.back M m)
      (λ (m : ℕ). all (mirrored (falls g.line) g.width m)) 0 g.width
      (λ m a b. charged_at_lem M m rows (omega arith))
      ∙ total_mirrored (falls g.line) all g.width
      ∙ total_plus (λ (x : ℕ). cost_at Backward g M x + cost_at Forward g M x) (cost_at Result g M) 0 g.width
      ∙ ap (λ (q : ℕ). q + row_cost Result g M) (total_plus (cost_at Backward g M) (cost_at Forward g M) 0 g.width)
    where
      all : ℕ → ℕ
      all x = cost_at Backward g M x + cost_at Forward g M x + cost_at Result g M x

  pub work : pass_work g.line g.height g.width g.length g.back
      ≡ sweep_cost Backward g + sweep_cost Forward g + sweep_cost Result g
  unfolding pass_work
  work =
      total_same
      (λ (M : ℕ). total (λ (m : ℕ). charged_at g.line g.height g.width g.length g.back M m) 0 g.width)
      (λ (M : ℕ). row_cost Backward g M + row_cost Forward g M + row_cost Result g M) 0 g.height
      (λ M a b. charged_row M (omega arith))
      ∙ total_plus (λ (M : ℕ). row_cost Backward g M + row_cost Forward g M) (row_cost Result g) 0 g.height
      ∙ ap (λ (q : ℕ). q + sweep_cost Result g) (total_plus (row_cost Backward g) (row_cost Forward g) 0 g.height)
