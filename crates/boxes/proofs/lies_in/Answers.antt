-- `boxes::lies_in` meets its contract. Assumes nothing.
use mathlib.Core.Path.{◌≡◌, sym, ap, ◌∙◌}
use mathlib.Core.Bool.{Bool, ◌&&◌}
use mathlib.Core.Logic.{by_cases}
use Prim.Native.Nat.{ℕ, ◌+◌, ◌-◌, ◌≤◌, ◌<◌}
use native.Mathlib.Decide.{dec_lt}
use native.Mathlib.Omega.{arith}
use lib.Dec.{leb, ltb}
use borrow.Author.Tests.{le-leb, lt-leb, lt-ltb, le-ltb}
use Rattle.boxes.proofs.lies_in.Goals as goal

-- a place before an end, as a difference
before : (start size c : ℕ) → start ≤ c → ltb (c - start) size ≡ ltb c (start + size)
before start size c h =
    by_cases (dec_lt c (start + size))
    (λ k. rw (lt-ltb (c - start) size (omega arith)) (sym (lt-ltb c (start + size) k)))
    (λ k. rw (le-ltb (c - start) size (omega arith)) (sym (le-ltb c (start + size) (omega arith))))

inside : (start size c : ℕ) → start ≤ c → ltb (c - start) size ≡ leb start c && ltb c (start + size)
inside start size c h = before start size c h ∙ sym (ap (λ (b : Bool). b && ltb c (start + size)) (le-leb start c h))

outside : (start size c : ℕ) → c < start → leb start c ≡ leb start c && ltb c (start + size)
outside start size c h = lt-leb start c h ∙ sym (ap (λ (b : Bool). b && ltb c (start + size)) (lt-leb start c h))

pub returns-then-start-c : goal.returns-then-start-c
returns-then-start-c c = let a = c.args in inside a.start a.size a.c (omega arith)

pub returns-else-start-c : goal.returns-else-start-c
returns-else-start-c c = let a = c.args in outside a.start a.size a.c (omega arith)
