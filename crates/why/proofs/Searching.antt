-- A search that finds something in its row: what its functions are handed, and the reason that its hit names.
-- Assumes nothing.
use mathlib.Core.Path.{◌≡◌, ap, ◌∙◌}
use mathlib.Core.Bool.{Bool, cond}
use mathlib.Core.List.{List}
use Rattle.std.specs.Prelude.{Option, IsSome}
use Prim.Native.Nat.{ℕ, ◌<◌}
use native.Mathlib.Omega.{arith}
use lib.ListN.{length}
use Rattle.ticket.specs.declared.Ticket.{Ticket}
use Rattle.finding.specs.Row.{result_of, hit_of}
use Rattle.finding.specs.Promises.{Fits}
use Rattle.finding.proofs.Laws.{IsHit, found_hit, fits_lies}
use Rattle.finding.specs.declared.Hit.{Hit}
use Rattle.finding.specs.declared.Search.{Search}
use Rattle.nearby.specs.Stand.{pixel_in}
use Rattle.nearby.specs.declared.Pixel.{Pixel}
use Rattle.nearby.specs.declared.Standing.{Standing}
use Rattle.why.specs.Reason.{passes_twice, one_pass, two_passes}
use Rattle.why.specs.Promises.{Searched, search_of, reason_in}
use Rattle.why.specs.declared.Reason.{Reason}

module _ (t : Ticket) (s : Standing) (profile : List ℕ) (row : List (Option ℕ)) (searched : Searched t s profile row)
    (q : Search) (q-is : q ≡ search_of t) where
  pub fits : Fits q (length row)
  fits = rw q-is searched.fits

  pub result_there : IsSome (result_of q row)
  result_there = rw q-is searched.result

  module _ (h : Hit) (h-is : h ≡ hit_of q row) where
    -- both places of the hit are places of the row
    is_hit : IsHit q row (result_of q row) h
    unfolding hit_of
    is_hit = rw h-is (found_hit q row result_there)

    pub through_near : h.through < 16383
    through_near =
        let lies = fits_lies q (length row) h.through fits is_hit.through_from is_hit.through_to in
        omega (arith, lies.ends, lies.inside, searched.short)

    pub from_near : h.from < 16383
    from_near =
        let lies = fits_lies q (length row) h.through fits is_hit.through_from is_hit.through_to in
        omega (arith, lies.begins, lies.ends, is_hit.from_to, searched.short)

    pub named_as :
        (twice : Bool) (kind : ℕ) (through from : Pixel) → twice ≡ passes_twice t.operation
        → kind ≡ cond twice two_passes one_pass → through ≡ pixel_in s h.through → from ≡ pixel_in s h.from
        → ◌≡◌ {A = Reason}
        (record { kind = kind; number = 0; phase = t.phase; through = through; from = from })
        (reason_in t s row)
    unfolding reason_in
    named_as twice kind through from twice_is kind-is through-is from_is =
        let same : h ≡ hit_of (search_of t) row = h-is ∙ ap (λ (x : Search). hit_of x row) q-is in
        let k : kind ≡ cond (passes_twice t.operation) two_passes one_pass =
        kind-is ∙ ap (λ (b : Bool). cond b two_passes one_pass) twice_is in
        let a : through ≡ pixel_in s (hit_of (search_of t) row).through =
        through-is ∙ ap (λ (x : Hit). pixel_in s x.through) same in
        let b : from ≡ pixel_in s (hit_of (search_of t) row).from =
        from_is ∙ ap (λ (x : Hit). pixel_in s x.from) same in
        cc
