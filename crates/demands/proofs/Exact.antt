-- The reach of operations 3 and 4 is exact: a run of L steps that holds both the pixel and the near one comes through
-- an opening, or a closing, and is wiped out when the near one is changed.
-- Assumes nothing.
use mathlib.Core.Path.{◌≡◌, sym, ◌∙◌}
use mathlib.Core.Bool.{not}
use mathlib.Core.List.{List}
use Prim.Native.Nat.{ℕ, ◌+◌, ◌≤◌, min}
use native.Mathlib.Omega.{arith}
use Rattle.geometry.specs.declared.Line.{Line}
use Rattle.ticket.specs.Laws.{Allowed}
use Rattle.ticket.specs.declared.Ticket.{Ticket}
use Rattle.placement.specs.Placement.{Placed}
use Rattle.placement.specs.declared.Placement.{Placement}
use Rattle.job.specs.Order.{line_of}
use Rattle.job.specs.Job.{finished_with}
use Rattle.demands.specs.Near.{step_at, Near}
use Rattle.demands.specs.Exact.{Clear, Matters, ExactReach}
use Rattle.demands.proofs.Near.{near_in}
use Rattle.demands.proofs.ExactNumbers.{winner, winners_differ, twice_run, twice_changed}
use Rattle.demands.proofs.ExactTrays.{Passes, passes, result, run_tray, changed_tray, run_length, run_bytes}
use Rattle.demands.proofs.ExactTrays.{changed_length, changed_bytes, changed_elsewhere, run_on, changed_on}

module _ (t : Ticket) (p : Placement) (n c r : ℕ) (ok : Allowed t) (placed : Placed p n) (clear : Clear t p c r)
    (w : Passes t) (c' r' : ℕ) (near : Near t p c r c' r') where
  abbrev l : Line
  l = line_of t

  abbrev here : ℕ
  here = step_at l c r

  -- the run begins at the pixel or at the near one, whichever is first
  abbrev from : ℕ
  from = min near.step here

  abbrev reach : ℕ
  reach = w.a + w.b

  abbrev one : List ℕ
  one = run_tray l p n w.low from reach

  abbrev two : List ℕ
  two = changed_tray l p n w.low from reach c' r'

  room : reach ≤ here
  room = omega (arith, clear.steps_before, w.sizes)

  here_in : here ≤ from + reach
  here_in = omega (arith, near.fewer.back, near.fewer.on, w.sizes)

  near_to : near.step ≤ from + reach
  near_to = omega (arith, near.fewer.back, near.fewer.on, w.sizes)

  first : (white : ℕ) → finished_with white t p one c r ≡ winner (not w.low)
  first white =
      result t p c r ok clear white one w _ (run_on t p c r ok clear n placed w.low from reach)
      ∙ twice_run w.low w.a w.b here from room (omega arith) here_in

  second : (white : ℕ) → finished_with white t p two c r ≡ winner w.low
  second white =
      result t p c r ok clear white two w _ (changed_on t p c r ok clear n placed w.low from reach c' r' near)
      ∙ twice_changed w.low w.a w.b here from near.step room (omega arith) here_in (omega arith) near_to

  matters : Matters t p n c r c' r'
  matters =
      let there = near_in t p c r c' r' near in
      record {
        one = one;
        two = two;
        one_length = run_length l p n placed w.low from reach;
        two_length = changed_length l p n placed w.low from reach c' r' there.0 there.1;
        one_small = run_bytes l p n placed w.low from reach;
        two_small = changed_bytes l p n placed w.low from reach c' r' there.0 there.1;
        same_elsewhere =
            λ i h. sym (changed_elsewhere l p n placed w.low from reach c' r' there.0 there.1 i h);
        results_differ = λ white e. winners_differ w.low (sym (second white) ∙ sym e ∙ first white);
      }

pub exact_reach : ExactReach
exact_reach t p n c r ok operation placed clear c' r' near =
    matters t p n c r ok placed clear (passes t ok operation) c' r' near
