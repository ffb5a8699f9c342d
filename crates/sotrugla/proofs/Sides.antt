-- What the tests of two sides say of the scratch. Assumes nothing.
use mathlib.Core.Path.{◌≡◌, refl, sym, ap}
use mathlib.Core.Bool.{Bool, true, false, ◌&&◌, cond}
use Prim.Native.Nat.{ℕ}

module _ (wide high : Bool) (needed : ℕ) where
  pub none_wide : wide ≡ false → 0 ≡ cond (wide && high) needed 0
  none_wide e = ap (λ (z : Bool). cond (z && high) needed 0) (sym e)

  pub none_high : wide ≡ true → high ≡ false → 0 ≡ cond (wide && high) needed 0
  none_high e f = rw (e, f) refl

  pub needed_both : wide ≡ true → high ≡ true → needed ≡ cond (wide && high) needed 0
  needed_both e f = rw (e, f) refl
