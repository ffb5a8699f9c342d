-- `tray::row::fill_same` meets its contract. Assumes nothing.
use Rattle.std.proofs.Common.{ℕ, ◌∙◌, ap, arith, get_or, length, sym}
use Rattle.geometry.proofs.Laws.{mirrored_rising}
use Rattle.tray.proofs.row.fill_same.Goals as goal

pub returns : goal.returns
returns c =
    let from = c.args.from.now in
    record {
      size = omega arith;
      each = λ k k-in.
          c.loop-k.invariant k (omega arith) ∙ ap (λ (m : ℕ). get_or from m 0) (sym (mirrored_rising (length from) k));
    }
