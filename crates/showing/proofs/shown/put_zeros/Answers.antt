-- `showing::shown::put_zeros` meets its contract. Assumes nothing.
use mathlib.Core.Path.{◌≡◌, ap, ◌∙◌}
use mathlib.Core.List.{List, ◌++◌}
use Prim.Native.Nat.{ℕ}
use lib.ListN.{length, take, drop, replicate}
use lib.Seq.{length-take-le}
use Rattle.showing.proofs.shown.put_zeros.Goals as goal

pub returns : goal.returns
returns c =
    let numbers = c.args.numbers.now in
    let zeros = c.fill.ensures.after (λ y same. same) in
    let many : length (take 264 numbers) ≡ 264 = length-take-le 264 numbers c.requires in
    ap (λ (x : List ℕ). x ++ drop 264 numbers) (zeros ∙ ap (λ (n : ℕ). replicate n 0) many)
