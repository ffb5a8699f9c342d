-- `sweep::rows::backward` meets its contract: the bands from band on are swept. Assumes nothing.
use mathlib.Core.Path.{◌≡◌, refl}
use Prim.Native.Nat.{◌-◌, ◌*◌, min}
use native.Mathlib.Omega.{arith}
use Rattle.sweep.specs.declared.Sweep.TheVariants.{Backward}
use Rattle.sweep.proofs.Paging.{raised_none, raised_as, bands_join, total_small}
use Rattle.sweep.proofs.rows.backward.Goals as goal

pub loop-band-init : goal.loop-band-init
loop-band-init c =
    let height = c.args.page.now.tables.grid.height in
    let all : min height (c.div_ceil-band.result * 32) ≡ height = omega (arith, c.div_ceil-band.ensures) in
    raised_none all

pub overflow_add-count : goal.overflow_add-count
overflow_add-count c =
    let tables = c.args.page.now.tables in
    let g = tables.grid in
    let sized = tables.sized in
    let l = c.loop-band in
    let mid = min g.height (l.band * 32) in
    let from = (l.band - 1) * 32 in
    let below = total_small Backward g mid (g.height - mid) sized.width_most (omega (arith, sized.height_most)) in
    let own = total_small Backward g from (c.min-to.result - from) sized.width_most (omega (arith, c.min-to.ensures)) in
    record { fits = omega (arith, l.invariant.counted, c.backward_band-count.ensures.counted, below, own) }

pub loop-band-preserved : goal.loop-band-preserved
loop-band-preserved c =
    let g = c.args.page.now.tables.grid in
    let l = c.loop-band in
    let from = (l.band - 1) * 32 in
    let mid = min g.height (l.band * 32) in
    let to : c.min-to.result ≡ mid = omega (arith, c.min-to.ensures) in
    let own : from ≡ min g.height from = omega (arith, c.div_ceil-band.ensures) in
    let band = raised_as refl to c.backward_band-count.ensures in
    raised_as own refl (bands_join g from mid g.height _ _ _ _ _ (omega arith) (omega arith) refl l.invariant band)
