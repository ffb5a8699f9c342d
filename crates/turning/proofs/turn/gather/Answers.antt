-- `turning::turn::gather` meets its contract. Assumes nothing.
use Rattle.std.proofs.Common.{◌≡◌, ℕ, ◌<◌, Bool, length, sym, subst, arith}
use Rattle.geometry.specs.Drift.{mirrored}
use Rattle.geometry.proofs.Laws.{mirrored_below}
use Rattle.turning.specs.Pieces.{Stored, source_pixel}
use Rattle.turning.proofs.Pieces.{stored_more}
use Rattle.turning.proofs.Lines.{line_length, line_source}
use Rattle.turning.proofs.turn.gather.Goals as goal

-- a row that is taken mirrored is one of the page's
row_in : (up : Bool) (h k r : ℕ) → k < h → r ≡ mirrored up h k → r < h
row_in up h k r k-in is = subst (λ (m : ℕ). m < h) (sym is) (mirrored_below up h k k-in)

pub row-line-requires : goal.row-line-requires
row-line-requires c =
    let t = c.args.t in
    let k-in : c.loop-k.k < t.source.height = omega (arith, c.loop-k-test.true, c.requires.a_lt_width.2) in
    record { placed = c.requires.placed; r_lt_height = row_in t.readup _ _ _ k-in c.mirrored.ensures }

pub bounds-line-a : goal.bounds-line-a
bounds-line-a c =
    let t = c.args.t in
    let k-in : c.loop-k.k < t.source.height = omega (arith, c.loop-k-test.true, c.requires.a_lt_width.2) in
    let r_in = row_in t.readup _ _ _ k-in c.mirrored.ensures in
    let long = line_length c.args.from.now _ t.source _ c.row-line.ensures c.requires.placed r_in in
    omega (arith, long, c.requires.a_lt_width.0)

pub loop-k-preserved : goal.loop-k-preserved
loop-k-preserved c =
    let l = c.loop-k in
    let a = c.args in
    let row = c.row-line in
    let k-in : l.k < length l.part = omega (arith, c.loop-k-test.true, l.auto.part, c.requires.a_lt_width.3) in
    let pixel =
    line_source a.from.now a.t row.result.now _ l.k row.ensures c.mirrored.ensures a.a c.requires.a_lt_width.0 in
    stored_more (source_pixel a.from.now a.t a.a) a.b l.k _ a.part.now l.part k-in pixel l.invariant l.auto.k

pub returns : goal.returns
returns c =
    let a = c.args in
    let l = c.loop-k in
    let done : l.k ≡ a.e = omega (arith, c.loop-k-test.false, l.auto.k-end, c.requires.a_lt_width.1) in
    subst (λ (k : ℕ). Stored (source_pixel a.from.now a.t a.a) a.b k a.part.now l.part) done l.invariant
