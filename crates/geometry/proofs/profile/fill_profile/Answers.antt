-- `profile::fill_profile` meets its contract: the two arms are the two kinds of line.
-- Assumes nothing.
use Rattle.std.proofs.Common.{◌≡◌, ◌∙◌, sym, ap, ap₂, subst₂, ℕ, ◌*◌, ◌+◌, ◌-◌, ◌≤◌}
use Rattle.std.specs.Prelude.{nat_abs}
use Rattle.vectors.specs.Vector.{major_of, minor_of}
use Rattle.geometry.specs.Line.{nearest}
use Rattle.geometry.specs.Bresenham.{Drawable}
use Rattle.geometry.proofs.Laws.Rows.{drift_periodic, drift_connected}
use Rattle.geometry.proofs.Components.{along, minor_size, drawable}
use Rattle.geometry.proofs.profile.fill_profile.Goals as goal
use Rattle.geometry.proofs.profile.fill_profile.Goals.{After-size-minor, After-major_of}

-- the size of the minor component, and of the major one, is the line's
minor_is :
    (c : After-size-minor)
    → (c.size-minor.result ≡ nat_abs (minor_of c.args.line.dx c.args.line.dy)) × (c.size-minor.result ≤ 255)
minor_is c =
    minor_size c.args.line c.requires.allowed c.minor_of.result c.size-minor.result c.minor_of.ensures
    c.size-minor.ensures

major_is : (c : After-major_of) → c.major_of.result ≡ major_of c.args.line.dx c.args.line.dy
major_is c = c.major_of.ensures ∙ along c.args.line c.requires.allowed major_of

pub add_up-requires : goal.add_up-requires
add_up-requires c =
    record {
      minor_bound = (minor_is (goal.at.add_up-requires c).After-size-minor).1;
      table_len_bound = c.requires.table_len_bound;
    }

pub draw-requires : goal.draw-requires
draw-requires c =
    let at = goal.at.draw-requires c in
    record {
      drawable = subst₂ Drawable (sym (major_is at.After-major_of)) (sym (minor_is at.After-size-minor).0)
          (drawable c.args.line c.requires.allowed);
      phase_bound = c.requires.allowed.phase_near;
      table_len_bound = c.requires.table_len_bound;
    }

pub returns-then-line : goal.returns-then-line
returns-then-line c =
    let at = goal.at.returns-then-line c in
    let minor = (minor_is at.After-size-minor).0 in
    record {
      same_length = c.add_up.ensures.same_length;
      tabled = record {
        entry = λ t h.
            c.add_up.ensures.multiples.entry t h
            ∙ ap (λ (b : ℕ). t * b) minor
            ∙ sym (drift_periodic c.args.line c.requires.allowed.sound t c.if-line.true);
      };
    }

pub returns-else-line : goal.returns-else-line
returns-else-line c =
    let at = goal.at.returns-else-line c in
    let i = c.args.line.phase in
    record {
      same_length = c.draw.ensures.same_length;
      tabled = record {
        entry = λ t h.
            c.draw.ensures.shifts.entry t h
            ∙ ap₂ (λ (a b : ℕ). nearest a b (t + i) - nearest a b i) (major_is at.After-major_of)
            (minor_is at.After-size-minor).0
            ∙ sym (drift_connected c.args.line c.requires.allowed.sound t c.if-line.false);
      };
    }
