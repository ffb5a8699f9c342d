-- A pixel by column and row, and by its places on the two axes: laws that others may use, with the exchange of the axes
-- left shut.
-- Assumes nothing.
use Rattle.std.specs.Prelude.{◌≡◌, refl, Bool, true, false, ℕ, ◌<◌}
use Rattle.tray.specs.Turned.{down_of, across_of}
use Rattle.filter.specs.Seen.{View, turned}

-- a page by its axes is the page by columns and rows
pub turned_is :
    (steep : Bool) (page : View) (c r : ℕ) → turned steep page c r ≡ page (down_of steep c r) (across_of steep c r)
unfolding turned down_of across_of
turned_is true page c r = refl
turned_is false page c r = refl

pub turned_back :
    (steep : Bool) (page : View) (c r : ℕ) → turned steep page (down_of steep c r) (across_of steep c r) ≡ page c r
unfolding turned down_of across_of
turned_back true page c r = refl
turned_back false page c r = refl

-- the column and the row of a place on the axes are that place
pub down_back : (steep : Bool) (M m : ℕ) → down_of steep (down_of steep M m) (across_of steep M m) ≡ M
unfolding down_of across_of
down_back true M m = refl
down_back false M m = refl

pub across_back : (steep : Bool) (M m : ℕ) → across_of steep (down_of steep M m) (across_of steep M m) ≡ m
unfolding down_of across_of
across_back true M m = refl
across_back false M m = refl

-- a pixel whose places are on the page's sides is on the page
pub turned_in :
    (steep : Bool) (width height c r : ℕ) → down_of steep c r < down_of steep width height
    → across_of steep c r < across_of steep width height → (c < width) × (r < height)
unfolding down_of across_of
turned_in true width height c r h k = (k, h)
turned_in false width height c r h k = (h, k)
