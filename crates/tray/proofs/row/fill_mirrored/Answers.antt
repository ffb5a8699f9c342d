-- `tray::row::fill_mirrored` meets its contract. The invariant: the last k bytes are filled. Assumes nothing.
use borrow.Author.Rules.{rules}
use Prim.Native.Nat.{ℕ, ◌-◌}
use mathlib.Core.Path.{◌≡◌, sym, ◌∙◌, ap}
use native.Mathlib.Omega.{arith}
use lib.ListN.{length, get_or}
use Rattle.geometry.proofs.Laws.{mirrored_falling}
use Rattle.tray.proofs.row.fill_mirrored.Goals as goal

pub returns : goal.returns
returns c =
    let a = c.args in
    let l = c.loop-k in
    record {
      size = search rules;
      each = λ k k-in.
          let other = length a.from.now - 1 - k in
          let place : k ≡ length a.to.now - 1 - (length a.from.now - 1 - k) = omega arith in
          ap (λ (m : ℕ). get_or l.to m 0) place
          ∙ l.invariant other (omega arith)
          ∙ ap (λ (m : ℕ). get_or a.from.now m 0) (sym (mirrored_falling (length a.from.now) k));
    }
