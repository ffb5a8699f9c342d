-- Bytes copied through parts of trays: read through one that is handed out, stored in one that is lent.
-- Assumes nothing.
use Rattle.std.proofs.Common.{◌≡◌, ℕ, ◌+◌, ◌-◌, ◌<◌, ◌≤◌, List, length, get_or, take, drop, sym, ap, ◌∙◌, arith}
use Rattle.std.proofs.Common.{get_or-drop, get_or-take}
use mathlib.Core.Logic.{by_cases}
use native.Mathlib.Decide.{dec_lt}
use borrow.Rule.Slice.PartMut.{put_mid}
use Rattle.tray.proofs.Lent.{part_length, lent_length, lent_below, lent_within, lent_above}
use Rattle.turning.specs.Tiles.{Copied}

-- bytes read through a part that a tray hands out are the tray's
pub copied_from :
    (n a b at w : ℕ) (tray line before after : List ℕ) → line ≡ take w (drop at tray) → a + n ≤ w
    → Copied n line a b before after → Copied n tray (at + a) b before after
copied_from n a b at w tray line before after is fits copied =
    record {
      size = copied.size;
      each = λ i h.
          let place : at + (a + i) ≡ at + a + i = omega arith in
          copied.each i h
          ∙ ap (λ (q : List ℕ). get_or q (a + i) 0) is
          ∙ get_or-take w (drop at tray) (a + i) 0 (omega arith)
          ∙ get_or-drop at tray (a + i) 0
          ∙ ap (λ (m : ℕ). get_or tray m 0) place;
      below = copied.below;
      above = copied.above;
    }

-- bytes stored in a part that is lent are stored in its tray
module _
    (n a b at w : ℕ) (from tray ys : List ℕ) (fits : at + w ≤ length tray) (inside : b + n ≤ w)
    (copied : Copied n from a b (take w (drop at tray)) ys)
  where
    lent_long : length ys ≡ w
    lent_long = copied.size ∙ part_length at w tray fits

    within :
        (i : ℕ) → at ≤ i → i < at + w → get_or ys (i - at) 0 ≡ get_or (take w (drop at tray)) (i - at) 0
        → get_or (put_mid at w tray ys) i 0 ≡ get_or tray i 0
    within i from to same =
        let place : i ≡ at + (i - at) = omega arith in
        ap (λ (m : ℕ). get_or (put_mid at w tray ys) m 0) place
        ∙ lent_within at w tray ys fits lent_long (i - at) (omega arith)
        ∙ same
        ∙ get_or-take w (drop at tray) (i - at) 0 (omega arith)
        ∙ get_or-drop at tray (i - at) 0
        ∙ ap (λ (m : ℕ). get_or tray m 0) (sym place)

    pub copied_into : Copied n from a (at + b) tray (put_mid at w tray ys)
    copied_into =
        record {
          size = lent_length at w tray ys fits lent_long;
          each = λ i h.
              let place : at + b + i ≡ at + (b + i) = omega arith in
              ap (λ (m : ℕ). get_or (put_mid at w tray ys) m 0) place
              ∙ lent_within at w tray ys fits lent_long (b + i) (omega arith)
              ∙ copied.each i h;
          below = λ i h. by_cases (dec_lt i at)
              (λ l. lent_below at w tray ys fits lent_long i l)
              (λ l. within i (omega arith) (omega arith) (copied.below (i - at) (omega arith)));
          above = λ i h. by_cases (dec_lt i (at + w))
              (λ l. within i (omega arith) l (copied.above (i - at) (omega arith)))
              (λ l. lent_above at w tray ys fits lent_long i (omega arith));
        }
