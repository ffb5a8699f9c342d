-- What the code's contracts speak of: a pixel of a page, the tables of a line.
-- Assumes nothing.
use Rattle.std.specs.Prelude.{◌≡◌, List, ℕ, suc, ◌+◌, ◌*◌, ◌≤◌, ◌<◌, length, get_or}
use Rattle.geometry.specs.Drift.{Allowed, drift, reach}
use Rattle.geometry.specs.declared.Line.{Line}

-- a table whose entry t is the drift at step t
pub record ProfileTable (l : Line) (table : List ℕ) : Type 0 where
  pub entry : (t : ℕ) → t < length table → get_or table t 0 ≡ drift l t

-- a table whose entry t is t times a number: "Periodic: one step adds (dx, dy)."
pub record Multiples (minor : ℕ) (table : List ℕ) : Type 0 where
  pub entry : (t : ℕ) → t < length table → get_or table t 0 ≡ t * minor

-- a table whose entry v is the first of n steps that has drifted v places
pub record ReachTable (l : Line) (n : ℕ) (table : List ℕ) : Type 0 where
  pub entry : (v : ℕ) → v < length table → get_or table v 0 ≡ reach l v n

-- r is the first entry of a table, from k on, that is at least v, and the table's length where none is
pub record Reaches (table : List ℕ) (v k r : ℕ) : Type 0 where
  pub from : k ≤ r
  pub to : r ≤ length table
  pub before : (s : ℕ) → k ≤ s → s < r → get_or table s 0 < v
  pub at : r < length table → v ≤ get_or table r 0

-- a table whose entry v is the first entry of a profile that is at least v
pub record FirstEntries (profile table : List ℕ) : Type 0 where
  pub entry : (v : ℕ) → v < length table → Reaches profile v 0 (get_or table v 0)

-- a table that has the reaches of whichever line the profile is of
abbrev pub ReachTables : List ℕ → List ℕ → Type 0
ReachTables profile table = (l : Line) → ProfileTable l profile → ReachTable l (length profile) table

-- a pixel of a page: "w and h 1 to 8192"
pub record OnPage (H W M m : ℕ) : Type 0 where
  pub H_near : H ≤ 8192
  pub W_near : W ≤ 8192
  pub M_below : M < H
  pub m_below : m < W

-- a pixel of a page, and its line's drift tabled for the whole page
pub record OnLine (l : Line) (H W M m : ℕ) (profile : List ℕ) : Type 0 where
  pub allowed : Allowed l
  pub on_page_lem : OnPage H W M m
  pub tabled : ProfileTable l profile
  pub room : H ≤ length profile

-- the line's reaches tabled for the whole page, over a profile of n steps
pub record Entries (l : Line) (H n : ℕ) (table : List ℕ) : Type 0 where
  pub reaches : ReachTable l n table
  pub room : H ≤ length table

-- a walk along a line that stands at step t of its profile: step s is at place u + s * p of a side H
pub record Walks (profile : List ℕ) (limit u p t H : ℕ) : Type 0 where
  pub H_near : H ≤ 8192
  pub p_near : p ≤ 255
  pub tabled : H ≤ length profile
  pub forward : 1 ≤ p
  pub long : u + t * p < H
  pub low : get_or profile t 0 < limit

-- s is the last step on its way that is on the side and below the limit
pub record LastStep (profile : List ℕ) (limit u p t H s : ℕ) : Type 0 where
  pub on : t ≤ s
  pub long : u + s * p < H
  pub low : get_or profile s 0 < limit
  pub leaves : u + suc s * p < H → limit ≤ get_or profile (suc s) 0
