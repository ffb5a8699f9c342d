-- A pixel and its line, and the pixel of a place, as the code makes them of their parts.
-- Assumes nothing.
use mathlib.Core.Path.{◌≡◌, ap₂}
use mathlib.Core.Bool.{Bool}
use Prim.Native.Nat.{ℕ}
use Rattle.geometry.specs.declared.Line.{Line}
use Rattle.tray.specs.Turned.{down_of, across_of}
use Rattle.filter.specs.Seen.{runs_steep}
use Rattle.nearby.specs.Stand.{standing_of, pixel_by}
use Rattle.nearby.specs.declared.Pixel.{Pixel}
use Rattle.nearby.specs.declared.Standing.{Standing}

pub pixel_of :
    (s : Standing) (M m c r : ℕ) → c ≡ down_of s.steep M m → r ≡ across_of s.steep M m
    → ◌≡◌ {A = Pixel} (record { column = c; row = r }) (pixel_by s M m)
unfolding pixel_by
pixel_of s M m c r c-is r-is = ap₂ {C = Pixel} (λ (x y : ℕ). record { column = x; row = y }) c-is r-is

pub standing_of_lem :
    (l : Line) (reach width height : ℕ) (at : Pixel) (steep : Bool) (high wide major minor : ℕ)
    → steep ≡ runs_steep l → high ≡ down_of steep width height → wide ≡ across_of steep width height
    → major ≡ down_of steep at.column at.row → minor ≡ across_of steep at.column at.row
    → ◌≡◌ {A = Standing}
    (record {
      line = l;
      steep = steep;
      reach = reach;
      high = high;
      wide = wide;
      major = major;
      minor = minor;
    })
    (standing_of l reach width height at)
unfolding standing_of
standing_of_lem l reach width height at steep high wide major minor runs h w M m = rw (h, w, M, m, runs)
