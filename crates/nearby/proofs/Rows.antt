-- A row that a loop fills from the front with what a filter sees.
-- Assumes nothing.
use Rattle.std.proofs.Common.{◌≡◌, sym, ap, ◌∙◌, arith, List, Option, Some, None, ℕ, ◌+◌, ◌<◌, length, get_or, set}
use Rattle.std.specs.Prelude.{is_some, position}
use Rattle.std.proofs.Math.Option as maybe
use Rattle.std.proofs.Math.Option.{none, some}
use Rattle.std.proofs.lemmas.List.{get_or-set_same, get_or-set_other}
use borrow.Author.Count.{below_more}
use Rattle.ticket.specs.declared.HiddenBox.{HiddenBox}
use Rattle.boxes.specs.Boxes.{answers, hidden}
use Rattle.boxes.specs.First.{hidden_found}
use Rattle.boxes.specs.declared.Question.TheVariants.{Holds}
use Rattle.placement.specs.Placement as placed
use Rattle.placement.specs.declared.Placement.{Placement}
use Rattle.filter.specs.Seen.{seen, turned}
use Rattle.finding.specs.Row.{absent, value_of}
use Rattle.nearby.specs.Stand.{pixel_in, near_at}
use Rattle.nearby.specs.Promises.{OnPage}
use Rattle.nearby.specs.Laws.{seen_near}
use Rattle.nearby.specs.declared.Pixel.{Pixel}
use Rattle.nearby.specs.declared.Standing.{Standing}

-- ---- a value

pub value_none : (o : maybe.Option ℕ) → o ≡ none → None ≡ value_of o
unfolding value_of
value_none o e = sym (ap value_of e)

pub value_some : (o : maybe.Option ℕ) (v : ℕ) → o ≡ some v → Some v ≡ value_of o
unfolding value_of
value_some o v e = sym (ap value_of e)

-- a box that answers is one that hides
pub found_hides : (boxes : List HiddenBox) (c r : ℕ) {found : Option ℕ} → found ≡ position (answers (Holds c r)) boxes
    → is_some found ≡ hidden boxes c r
unfolding answers
found_hides boxes c r is = ap is_some is ∙ hidden_found boxes c r

-- ---- the row

-- the value that belongs at place i of the row
abbrev pub belongs : List HiddenBox → Standing → Placement → List ℕ → ℕ → Option ℕ
belongs boxes s p tray i =
    value_of (near_at s (turned s.steep (seen boxes p.width p.height (placed.pixel_in tray p))) i)

-- what is seen at the pixel of place i belongs there
pub value_near :
    (boxes : List HiddenBox) (s : Standing) (p : Placement) (tray : List ℕ) (n i : ℕ) → OnPage s p n
    → (at : Pixel) → at ≡ pixel_in s i
    → (v : Option ℕ)
    → v ≡ value_of (seen boxes p.width p.height (placed.pixel_in tray p) at.column at.row)
    → v ≡ belongs boxes s p tray i
value_near boxes s p tray n i page at at-is v v-is =
    v-is
    ∙ ap
    (λ (x : Pixel). value_of (seen boxes p.width p.height (placed.pixel_in tray p) x.column x.row))
    at-is
    ∙ ap value_of
    (seen_near boxes p.width p.height (placed.pixel_in tray p) s i page.high_is page.wide_is)

-- one more entry is right
pub store_more :
    (f : ℕ → Option ℕ) (xs : List (Option ℕ)) (i : ℕ) (v : Option ℕ) → i < length xs → v ≡ f i
    → ((k : ℕ) → k < i → get_or xs k absent ≡ f k) → (k : ℕ) → k < i + 1 → get_or (set xs i v) k absent ≡ f k
store_more f xs i v h here before =
    below_more
    (λ (k : ℕ). get_or (set xs i v) k absent ≡ f k)
    i
    (λ k j. get_or-set_other xs i k v absent (omega arith) ∙ before k j)
    (get_or-set_same xs i v absent h ∙ here)
