-- `boxes::side_fits` meets its contract. Assumes nothing.
use mathlib.Core.Path.{◌≡◌, sym, ◌∙◌}
use mathlib.Core.Logic.{by_cases}
use Prim.Native.Nat.{ℕ, ◌+◌, ◌-◌, ◌≤◌, ◌<◌}
use native.Mathlib.Decide.{dec_le}
use native.Mathlib.Omega.{arith}
use borrow.Author.Tests.{le-leb, lt-leb}
use lib.Dec.{leb}
use Rattle.boxes.proofs.side_fits.Goals as goal

-- a sum below a side, as a difference
moved : (a b s : ℕ) → b ≤ s → leb a (s - b) ≡ leb (a + b) s
moved a b s h =
    by_cases (dec_le (a + b) s)
    (λ k. rw (le-leb a (s - b) (omega arith)) (sym (le-leb (a + b) s k)))
    (λ k. rw (lt-leb a (s - b) (omega arith)) (sym (lt-leb (a + b) s (omega arith))))

pub returns-then-length-side : goal.returns-then-length-side
returns-then-length-side c = let a = c.args in moved a.from a.length a.side (omega arith)

over : (a b s : ℕ) → s < b → leb b s ≡ leb (a + b) s
over a b s h = lt-leb b s h ∙ sym (lt-leb (a + b) s (omega arith))

pub returns-else-length-side : goal.returns-else-length-side
returns-else-length-side c = let a = c.args in over a.from a.length a.side (omega arith)
