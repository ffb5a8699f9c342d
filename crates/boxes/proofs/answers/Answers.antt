-- `boxes::answers` meets its contract, question by question. Assumes nothing.
use mathlib.Core.Path.{◌≡◌, sym, ap, ◌∙◌}
use mathlib.Core.Bool.{Bool, not}
use Rattle.ticket.specs.declared.HiddenBox.{HiddenBox}
use Rattle.boxes.specs.declared.Question.{Question}
use Rattle.boxes.specs.declared.Question.TheVariants.{Holds, NotAllowed}
use Rattle.boxes.specs.Boxes.{answers}
use Rattle.boxes.proofs.answers.Goals as goal

-- an answer by the question's case is an answer
by_case : (q known : Question) (b : HiddenBox) (x : Bool) → q ≡ known → x ≡ answers known b → x ≡ answers q b
by_case q known b x same e = e ∙ sym (ap (λ (p : Question). answers p b) same)

pub returns-in-Holds : goal.returns-in-Holds
unfolding answers
returns-in-Holds c =
    let asked = c.in-Holds in
    by_case c.args.q (Holds asked.column asked.row) c.args.b c.covers_numbers.result asked.is c.covers_numbers.ensures

pub returns-in-NotAllowed : goal.returns-in-NotAllowed
unfolding answers
returns-in-NotAllowed c =
    let asked = c.in-NotAllowed in
    by_case c.args.q (NotAllowed asked.width asked.height) c.args.b (not c.box_allowed.result) asked.is
    (ap not c.box_allowed.ensures)
