-- Near says what it should: the proofs of what Near states.
-- Assumes nothing.
use mathlib.Core.Path.{◌≡◌, sym, ap, ◌∙◌}
use mathlib.Core.Bool.{Bool}
use Prim.Native.Nat.{ℕ, ◌<◌}
use native.Mathlib.Omega.{arith}
use Rattle.geometry.specs.Line.{landing, step_of, major_at}
use Rattle.geometry.specs.Number.{in_page}
use Rattle.geometry.specs.Drift.{Sound}
use Rattle.geometry.proofs.Laws.{own_landing, own_step, major_at_step, major_of_major, step_of_major, landing_onward}
use Rattle.geometry.proofs.Laws.{same_steps, landed_on_page}
use Rattle.geometry.specs.declared.Line.{Line}
use Rattle.tray.specs.Laws.{down_in, across_in}
use Rattle.filter.specs.Seen.{runs_steep}
use Rattle.filter.specs.Axes.{turned_in}
use Rattle.job.specs.Order.{line_of}
use Rattle.job.specs.Laws.{line_sound}
use Rattle.demands.specs.Near.{major_place, minor_place, NearIn, NearSelf, NearStep, NearBack}

pub near_in : NearIn
near_in t p c r c' r' n =
    let l : Line = line_of t in
    let there =
    landed_on_page l _ _ (major_place l c r) (minor_place l c r) n.step _ n.on_page_lem n.is_step.across in
    turned_in (runs_steep l) p.width p.height c' r' (omega (arith, there.0, n.is_step.along)) there.1

pub near_step : NearStep
near_step t p c r c' r' ok n =
    let l : Line = line_of t in
    ap (step_of l) (sym n.is_step.along) ∙ step_of_major l (line_sound t ok) (major_place l c r) n.step

pub near_self : NearSelf
near_self t p c r ok c_in r_in =
    let l : Line = line_of t in
    let steep : Bool = runs_steep l in
    let whole : Sound l = line_sound t ok in
    record {
      step = step_of l (major_place l c r);
      fewer = record { back = omega (arith, ok.origin_below); on = omega (arith, ok.origin_below) };
      on_page_lem = own_step l whole _ _ _ _ (down_in steep c r p.width p.height c_in r_in)
          (across_in steep c r p.width p.height c_in r_in);
      is_step = record { along = major_at_step l whole (major_place l c r); across = own_landing l _ _ };
    }

pub near_back : NearBack
near_back t p c r c' r' ok c_in r_in n =
    let l : Line = line_of t in
    let steep : Bool = runs_steep l in
    let whole : Sound l = line_sound t ok in
    let M : ℕ = major_place l c r in
    let m : ℕ = minor_place l c r in
    let m' : ℕ = minor_place l c' r' in
    let H : ℕ = major_place l p.width p.height in
    let W : ℕ = minor_place l p.width p.height in
    let M_in : M < H = down_in steep c r p.width p.height c_in r_in in
    let m_in : m < W = across_in steep c r p.width p.height c_in r_in in
    let there : step_of l (major_place l c' r') ≡ n.step = near_step t p c r c' r' ok n in
    record {
      step = step_of l M;
      fewer = record { back = omega (arith, n.fewer.on, there); on = omega (arith, n.fewer.back, there) };
      on_page_lem = ap (λ (R : ℕ). in_page l H W R m' (step_of l M)) (sym n.is_step.along)
          ∙ same_steps l whole H W M m M_in m_in n.step m' n.on_page_lem n.is_step.across (step_of l M)
          ∙ own_step l whole H W M m M_in m_in;
      is_step = record {
        along = ap (λ (R : ℕ). major_at l R (step_of l M)) (sym n.is_step.along)
            ∙ major_of_major l whole M n.step (step_of l M)
            ∙ major_at_step l whole M;
        across = ap (λ (q : ℕ). landing l m' q (step_of l M)) there
            ∙ landing_onward l m (step_of l M) n.step (step_of l M) m' n.is_step.across
            ∙ own_landing l M m;
      };
    }
