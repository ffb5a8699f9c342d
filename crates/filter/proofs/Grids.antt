-- The grid of a recipe: its line is sound, its sides and window are within their limits. Assumes nothing.
use mathlib.Core.Path.{◌≡◌, refl, ap, ap₂, ◌∙◌}
use mathlib.Core.Bool.{Bool, true, false}
use Prim.Native.Nat.{ℕ, ◌-◌, ◌≤◌, ◌<◌}
use native.Mathlib.Omega.{arith}
use mir.Syntax.{w32}
use mir.Val.{to_z, of_z}
use Rattle.vectors.specs.Vector.{steep}
use Rattle.geometry.specs.Line.{period}
use Rattle.geometry.specs.Drift as Drift
use Rattle.geometry.proofs.Laws as Lines
use Rattle.geometry.specs.declared.Line.{Line}
use Rattle.runs.specs.Grid.{Sized}
use Rattle.runs.specs.declared.Grid.{Grid}
use Rattle.tray.specs.Turned.{across_of, down_of}
use Rattle.filter.specs.Seen.{runs_steep}
use Rattle.filter.specs.Filters.{dilation_back}
use Rattle.filter.specs.Engine.{steep_of, back_of, grid_of, Fair}
use Rattle.filter.specs.declared.Recipe.{Recipe}
use Rattle.filter.specs.declared.Segment.{Segment}

-- whether a line runs steep, asked of the components as they are passed on
pub steep_as :
    (given line : Line) → given ≡ line → Drift.Allowed line
    → steep (to_z w32 (of_z w32 given.dx)) (to_z w32 (of_z w32 given.dy)) ≡ runs_steep line
unfolding runs_steep
steep_as given line e ok =
    ap₂ steep (ap (λ (l : Line). to_z w32 (of_z w32 l.dx)) e ∙ Lines.component_back line.dx ok.dx_near)
    (ap (λ (l : Line). to_z w32 (of_z w32 l.dy)) e ∙ Lines.component_back line.dy ok.dy_near)

-- ---- the window

pub back_below : (s : Segment) → Fair s → (low : Bool) → back_of s low < s.length
unfolding back_of dilation_back
back_below s ok true = ok.origin_below
back_below s ok false = omega (arith, ok.length_from)

-- ---- the grid

module _ (how : Recipe) (ok : Fair how.segment) where
  period_near : period how.segment.line ≤ 255
  period_near = by_kind how.segment.line.periodic refl
    where
      by_kind : (b : Bool) → how.segment.line.periodic ≡ b → period how.segment.line ≤ 255
      by_kind true e =
          omega (arith, Lines.period_periodic how.segment.line e, Lines.major_near how.segment.line ok.line)
      by_kind false e = omega (arith, Lines.period_connected how.segment.line e)

  module _ (width height : ℕ) (wide : 1 ≤ width) (high : 1 ≤ height) (width_most : width ≤ 8192)
      (height_most : height ≤ 8192) (low : Bool) where
    across_sides : (steep : Bool) → (1 ≤ across_of steep width height) × (across_of steep width height ≤ 8192)
    unfolding across_of
    across_sides true = (wide, width_most)
    across_sides false = (high, height_most)

    down_sides : (steep : Bool) → down_of steep width height ≤ 8192
    unfolding down_of
    down_sides true = height_most
    down_sides false = width_most

    pub grid_sized : Sized (grid_of how width height low)
    unfolding grid_of
    grid_sized =
        record {
          sound = ok.line.sound;
          wide = (across_sides (steep_of how)).0;
          width_most = (across_sides (steep_of how)).1;
          height_most = down_sides (steep_of how);
          period_is = refl;
          period_most = period_near;
          length_is = omega (arith, back_below how.segment ok low);
          length_most = ok.length_to;
        }

-- a grid whose fields are those of the ticket's
pub grid_of_lem : (how : Recipe) (width height : ℕ) (low : Bool) (line : Line) (w h p b : ℕ)
    → line ≡ how.segment.line → w ≡ across_of (steep_of how) width height → h ≡ down_of (steep_of how) width height
    → p ≡ period how.segment.line → b ≡ back_of how.segment low
    → ◌≡◌ {A = Grid}
    (record {
      line = line;
      width = w;
      height = h;
      period = p;
      back = b;
      on = how.segment.length - 1 - b;
      length =
          how.segment.length;
      low = low;
    }) (grid_of how width height low)
unfolding grid_of
grid_of_lem how width height low line w h p b el ew eh ep eb =
    λ i.
    record {
      line =
          el i;
      width =
          ew i;
      height =
          eh i;
      period =
          ep i;
      back = eb i;
      on = how.segment.length - 1 - eb i;
      length = how.segment.length;
      low = low;
    }
