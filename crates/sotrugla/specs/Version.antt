-- The version of the library that runs, for a host that was built with the header of another.
-- Assumes nothing.
use Rattle.std.specs.Prelude.{◌≡◌, refl, ℕ, ◌+◌, ◌*◌}

-- one number, in which later versions are larger
abbrev pub version_number : ℕ → ℕ → ℕ → ℕ
version_number major minor patch = 1000000 * major + 1000 * minor + patch

-- 0.6.0
abbrev pub version : ℕ
version = version_number 0 6 0

pub version_is : version ≡ 6000
version_is = refl
