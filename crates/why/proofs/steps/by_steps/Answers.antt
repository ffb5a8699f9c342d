-- `steps::by_steps` meets its contract. Assumes nothing.
use mathlib.Core.Path.{ap, ◌∙◌}
use Prim.Native.Nat.{suc}
use native.Mathlib.Omega.{arith}
use Rattle.boxes.specs.Boxes.{boxes_of}
use Rattle.why.proofs.Gathering as gathering
use Rattle.why.proofs.steps.by_steps.Goals as goal

pub standing_of-s-requires : goal.standing_of-s-requires
standing_of-s-requires c =
    gathering.line_near _ _ c.args.source.now _ c.requires.asked _ c.line_of-line.ensures

pub fill_profile-requires : goal.fill_profile-requires
fill_profile-requires c =
    record {
      allowed = gathering.line_near _ _ c.args.source.now _ c.requires.asked _ c.line_of-line.ensures;
      table_len_bound = omega (arith, c.requires.profile_len.0);
    }

pub fill_row-requires : goal.fill_row-requires
fill_row-requires c =
    let asked = c.requires.asked in
    let tray = c.args.source.now in
    let row = c.args.row.now in
    let line-is = c.line_of-line.ensures in
    let s-is = c.standing_of-s.ensures in
    let long = c.fill_profile.ensures.same_length ∙ c.requires.profile_len.0 in
    record {
      stands = gathering.stands _ _ tray _ asked _ line-is _ s-is;
      tabled = gathering.tabled _ _ tray _ asked _ line-is _ s-is _ long c.fill_profile.ensures.tabled;
      of_page = (gathering.of_page _ _ tray _ asked _ line-is _ s-is).page;
      row_len_bound = gathering.short _ _ tray _ asked _ line-is _ s-is row c.requires.profile_len.1;
    }

pub named_in-requires : goal.named_in-requires
unfolding boxes_of
named_in-requires c =
    gathering.searched _ _ c.args.source.now _ c.requires.asked _ c.line_of-line.ensures _
    c.standing_of-s.ensures _ (ap suc c.fill_row.ensures.same_length ∙ c.requires.profile_len.1)
    c.requires.row_value c.fill_row.ensures.filled _
    (c.fill_profile.ensures.same_length ∙ c.requires.profile_len.0) c.fill_profile.ensures.tabled

pub returns : goal.returns
unfolding boxes_of
returns c =
    gathering.tells _ _ c.args.source.now _ c.requires.asked _ c.line_of-line.ensures _
    c.standing_of-s.ensures _ (ap suc c.fill_row.ensures.same_length ∙ c.requires.profile_len.1)
    c.requires.row_value c.fill_row.ensures.filled _ c.named_in.ensures
