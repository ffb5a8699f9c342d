-- What follows of a row's values, a pass along it and its first hit: who uses a search unfolds none of them.
-- Assumes nothing.
use Rattle.std.specs.Prelude.{◌≡◌, refl, Bool, true, false, not, cond, ℕ, zero, suc, ◌+◌, ◌-◌, ◌≤◌, ◌<◌, eqb}
use Rattle.std.specs.Prelude.{List, [], ◌∷◌, reverse, get_or, length, take, drop, Option, Some, None, IsSome}
use Rattle.std.specs.Option.{option_eq}
use Rattle.std.specs.List.{fold}
use Rattle.std.proofs.Common.{sym, ◌∙◌, add-suc, add-zero, arith, eqb-true, eq-eqb}
use Rattle.std.proofs.Math.Path.{ap, ap₂}
use Rattle.std.proofs.Math.Logic.{by_cases}
use Rattle.std.proofs.Math.Option as maybe
use Rattle.std.proofs.Math.Option.{none, some, none-ne-some}
use Rattle.std.proofs.Math.Decide.{dec_lt}
use Rattle.std.proofs.Math.Nat.{sub_self}
use Rattle.std.proofs.lemmas.Bool.{false≢true}
use Rattle.std.proofs.lemmas.List.{reverse-append, get_or-take, get_or-drop, length-take-le, length-drop}
use Rattle.std.proofs.lemmas.List.Sums.{fold-append}
use Rattle.geometry.specs.Drift.{first}
use Rattle.geometry.proofs.Laws.{first_is}
use Rattle.geometry.proofs.Laws.Counting.{first_unique}
use Rattle.filter.specs.Filters.{joined, extreme}
use Rattle.filter.proofs.Laws.{extreme_attained, extreme_shifted}
use Rattle.finding.specs.Row.{absent, grey_in, value_of, in_row, pass_at_place, pass_in, first_pass, result_of}
use Rattle.finding.specs.Row.{through_of, from_of, hit_with}
use Rattle.finding.specs.Promises.{Lies, Fits}
use Rattle.finding.specs.declared.Hit.{Hit}
use Rattle.finding.specs.declared.Search.{Search}

-- ---- values

-- a value comes back from what it says, and what it says from it
pub value_grey : (v : Option ℕ) → value_of (grey_in v) ≡ v
unfolding value_of grey_in
value_grey None = refl
value_grey (Some v) = refl

pub grey_value : (o : maybe.Option ℕ) → grey_in (value_of o) ≡ o
unfolding value_of grey_in
grey_value none = refl
grey_value (some v) = refl

-- what a grey says
pub grey_some : (v : ℕ) → grey_in (Some v) ≡ some v
unfolding grey_in
grey_some v = refl

pub value_some : (o : maybe.Option ℕ) (w : ℕ) → value_of o ≡ Some w → o ≡ some w
unfolding value_of
value_some none w e = absurd cc
value_some (some v) w e = cc

-- two values are one, where the test of them says so
pub same_value : (x y : Option ℕ) → option_eq eqb x y ≡ true → x ≡ y
same_value None None e = refl
same_value None (Some y) e = absurd (false≢true e)
same_value (Some x) None e = absurd (false≢true e)
same_value (Some x) (Some y) e = ap {B = Option ℕ} Some (eqb-true x y e)

pub value_same : (x y : Option ℕ) → x ≡ y → option_eq eqb x y ≡ true
value_same None None e = refl
value_same None (Some y) e = absurd cc
value_same (Some x) None e = absurd cc
value_same (Some x) (Some y) e = eq-eqb x y cc

-- ---- the extreme of a window

-- of two values, as the code has them
abbrev pub joined_of : Bool → Option ℕ → Option ℕ → Option ℕ
joined_of low most x = value_of (joined low (grey_in x) (grey_in most))

-- one value more before an extreme
pub extreme_more :
    (low : Bool) (value : ℕ → maybe.Option ℕ) (k n : ℕ)
    → joined_of low (value_of (extreme low value (suc k) n)) (value_of (value k))
    ≡ value_of (extreme low value k (suc n))
unfolding extreme
extreme_more low value k n =
    ap₂ (λ (p q : maybe.Option ℕ). value_of (joined low p q)) (grey_value (value k))
    (grey_value (extreme low value (suc k) n))

-- a loop that comes down to place i: nothing at its end, one value more with each place, and all at its start
pub extreme_none :
    (low : Bool) (value : ℕ → maybe.Option ℕ) (from n : ℕ) → absent ≡ value_of (extreme low value from (n - n))
unfolding extreme value_of
extreme_none low value from n = simp sub_self

pub extreme_down :
    (low : Bool) (value : ℕ → maybe.Option ℕ) (i end : ℕ) (x most : Option ℕ) → 0 < i → i ≤ end
    → x ≡ value_of (value (i - 1)) → most ≡ value_of (extreme low value i (end - i))
    → joined_of low most x ≡ value_of (extreme low value (i - 1) (end - (i - 1)))
extreme_down low value i end x most some_left within here rest =
    let next : i ≡ suc (i - 1) = omega arith in
    let more : suc (end - i) ≡ end - (i - 1) = omega arith in
    ap₂ (joined_of low) (rest ∙ ap (λ (q : ℕ). value_of (extreme low value q (end - i))) next) here
    ∙ extreme_more low value (i - 1) (end - i)
    ∙ ap (λ (q : ℕ). value_of (extreme low value (i - 1) q)) more

pub extreme_whole :
    (low : Bool) (value : ℕ → maybe.Option ℕ) (i from n : ℕ) → i ≡ from
    → value_of (extreme low value i (from + n - i)) ≡ value_of (extreme low value from n)
extreme_whole low value i from n here =
    let whole : from + n - i ≡ n = omega arith in
    ap₂ (λ (q m : ℕ). value_of (extreme low value q m)) here whole

one_more : (q : ℕ) → suc q ≡ 1 + q
one_more q = omega arith

-- the values of a window, joined from its last to its first
pub extreme_folded :
    (low : Bool) (xs : List (Option ℕ))
    → fold (joined_of low) absent (reverse xs) ≡ value_of (extreme low (in_row xs) 0 (length xs))
unfolding extreme value_of in_row
extreme_folded low [] = refl
extreme_folded low (x ∷ xs) =
    let n : ℕ = length xs in
    let value : ℕ → maybe.Option ℕ = in_row (x ∷ xs) in
    let rest : extreme low (in_row xs) 0 n ≡ extreme low value 1 n =
    extreme_shifted low (in_row xs) value 1 0 n (λ q from to. ap value (one_more q)) in
    ap (fold (joined_of low) absent) (reverse-append (x ∷ []) xs)
    ∙ fold-append (joined_of low) absent (reverse xs) (x ∷ [])
    ∙ ap₂ (joined_of low) (extreme_folded low xs ∙ ap value_of rest) (sym (value_grey x))
    ∙ extreme_more low value 0 n

-- what stands in a window
pub window_value :
    (row : List (Option ℕ)) (k n q : ℕ) → q < n → in_row (take n (drop k row)) q ≡ in_row row (k + q)
unfolding in_row
window_value row k n q h =
    ap grey_in (get_or-take n (drop k row) q absent h ∙ get_or-drop k row q absent)

-- ---- the first pass of a search

-- an absent pixel stays absent
pub first_absent : (s : Search) (row : List (Option ℕ)) (i : ℕ) → get_or row i absent ≡ None → None ≡ first_pass s row i
unfolding first_pass pass_in pass_at_place in_row grey_in value_of
first_absent s row i e =
    sym
    (ap (λ (v : Option ℕ). value_of (pass_at_place s.low s.back s.length (in_row row) i (grey_in v))) e)

-- any other becomes its window's extreme
pub first_there :
    (s : Search) (row : List (Option ℕ)) (i : ℕ) → (get_or row i absent ≡ absent → ⊥)
    → value_of (extreme s.low (in_row row) (i - s.back) s.length) ≡ first_pass s row i
unfolding first_pass pass_in pass_at_place in_row grey_in
first_there s row i other = by_value (get_or row i absent) refl
  where
    by_value : (v : Option ℕ) → get_or row i absent ≡ v
        → value_of (extreme s.low (in_row row) (i - s.back) s.length) ≡ first_pass s row i
    by_value None e = absurd (other e)
    by_value (Some v) e =
        sym (ap (λ (w : Option ℕ). value_of (pass_at_place s.low s.back s.length (in_row row) i (grey_in w))) e)

-- the same of the window alone, where it lies in the row
pub first_window :
    (s : Search) (row : List (Option ℕ)) (i v : ℕ) → Lies s (length row) i → get_or row i absent ≡ Some v
    → (window : List (Option ℕ)) → window ≡ take s.length (drop (i - s.back) row)
    → value_of (extreme s.low (in_row window) 0 (length window)) ≡ first_pass s row i
first_window s row i v lies there window is =
    let begin : ℕ = i - s.back in
    let room : s.length ≤ length (drop begin row) = simp length-drop (omega (arith, lies.begins, lies.ends)) in
    let long : length window ≡ s.length = ap length is ∙ length-take-le s.length (drop begin row) room in
    let part : extreme s.low (in_row (take s.length (drop begin row))) 0 s.length
    ≡ extreme s.low (in_row row) begin s.length =
    extreme_shifted s.low _ (in_row row) begin 0 s.length (λ q from to. window_value row begin s.length q (omega arith))
    ∙ ap (λ (q : ℕ). extreme s.low (in_row row) q s.length) (add-zero begin) in
    ap₂ (λ (xs : List (Option ℕ)) (n : ℕ). value_of (extreme s.low (in_row xs) 0 n)) is long
    ∙ ap value_of part
    ∙ first_there s row i (λ none_there. cc)

-- the window of each place that is looked over lies in the row
pub fits_lies :
    (s : Search) (n i : ℕ) → Fits s n → s.from ≤ i → i < s.from + s.steps → Lies s n i
fits_lies s n i fits from to =
    record {
      begins = omega (arith, fits.begins);
      ends = omega (arith, fits.ends);
      inside = fits.inside;
    }

-- ---- the first hit

-- what makes a number the first that passes a test, or the end where none does
pub first_at :
    (test : ℕ → Bool) (k n r : ℕ) → k ≤ r → r ≤ k + n → ((q : ℕ) → k ≤ q → q < r → test q ≡ false)
    → (r < k + n → test r ≡ true) → r ≡ first test k n
first_at test k n r from to before passes =
    first_unique test k n r (first test k n) (record { from = from; to = to; before = before; passes = passes })
    (first_is test k n)

-- tests that agree find the same, also where the places stand d further on
pub first_same :
    (test test' : ℕ → Bool) (k n : ℕ) → ((q : ℕ) → k ≤ q → q < k + n → test q ≡ test' q)
    → first test k n ≡ first test' k n
unfolding first
first_same test test' k zero same = refl
first_same test test' k (suc n) same =
    ap₂ (λ (b : Bool) (r : ℕ). cond b k r) (same k (omega arith) (omega arith))
    (first_same test test' (suc k) n (λ q h b. same q (omega arith) (omega arith)))

further : (d k r : ℕ) (b : Bool) → d + cond b k r ≡ cond b (d + k) (d + r)
further d k r true = refl
further d k r false = refl

pub first_shifted :
    (test test' : ℕ → Bool) (d k n : ℕ) → ((q : ℕ) → k ≤ q → q < k + n → test q ≡ test' (d + q))
    → d + first test k n ≡ first test' (d + k) n
unfolding first
first_shifted test test' d k zero same = refl
first_shifted test test' d k (suc n) same =
    further d k (first test (suc k) n) (test k)
    ∙ ap₂ (λ (b : Bool) (r : ℕ). cond b (d + k) r) (same k (omega arith) (omega arith))
    (first_shifted test test' d (suc k) n (λ q h b. same q (omega arith) (omega arith))
    ∙ ap (λ (q : ℕ). first test' q n) (add-suc d k))

-- what the row has at a place whose value is w
pub row_has : (row : List (Option ℕ)) (j w : ℕ) → in_row row j ≡ some w → get_or row j absent ≡ Some w
unfolding in_row value_of
row_has row j w e = sym (value_grey (get_or row j absent)) ∙ ap value_of e

-- the place j of n from k on has the value w
pub record HasAt (value : ℕ → Option ℕ) (k n : ℕ) (w : Option ℕ) : Type 0 where
  pub at : ℕ
  pub from : k ≤ at
  pub to : at < k + n
  pub there : value at ≡ w

module _ (s : Search) (row : List (Option ℕ)) (w : ℕ) where
  pass_has :
      (i : ℕ) (o : maybe.Option ℕ) → pass_at_place s.low s.back s.length (in_row row) i o ≡ some w
      → HasAt (λ j. get_or row j absent) (i - s.back) s.length (Some w)
  unfolding pass_at_place
  pass_has i none e = absurd (none-ne-some w e)
  pass_has i (some v) e =
      let one = extreme_attained s.low (in_row row) (i - s.back) s.length w e in
      record { at = one.at; from = one.from; to = one.to; there = row_has row one.at w one.there }

  -- where the first pass gives w, a place of the window has it
  pub window_has : (i : ℕ) → first_pass s row i ≡ Some w
      → HasAt (λ j. get_or row j absent) (i - s.back) s.length (Some w)
  unfolding first_pass pass_in
  window_has i e = pass_has i (in_row row i) (value_some _ w e)

  -- where w is the result, the first pass gives it at a place that is looked over
  pub result_has : result_of s row ≡ Some w → HasAt (first_pass s row) s.from s.steps (Some w)
  unfolding result_of first_pass value_of
  result_has e =
      let one = extreme_attained (not s.low) _ s.from s.steps w (value_some _ w e) in
      record { at = one.at; from = one.from; to = one.to; there = ap value_of one.there }

-- the first place that has w, of places of which one has it
first_has :
    (value : ℕ → Option ℕ) (k n : ℕ) (w : Option ℕ) → HasAt value k n w → (r : ℕ)
    → r ≡ first (λ i. option_eq eqb (value i) w) k n → (k ≤ r) × (r < k + n) × (value r ≡ w)
first_has value k n w one r is =
    let f = first_is (λ i. option_eq eqb (value i) w) k n in
    let has : option_eq eqb (value one.at) w ≡ true = value_same _ w one.there in
    let low : r < k + n =
    by_cases (dec_lt r (k + n)) (λ h. h)
    (λ h. absurd (false≢true (sym (f.before one.at one.from (omega (arith, one.to))) ∙ has)))
    in
    let there : value (first (λ i. option_eq eqb (value i) w) k n) ≡ w =
    same_value _ w (f.passes (omega arith)) in
    (omega (arith, f.from), low, ap value is ∙ there)

-- a hit of w: a place that gives it after the first pass, and a place of its window that has it
pub record IsHit (s : Search) (row : List (Option ℕ)) (w : Option ℕ) (h : Hit) : Type 0 where
  pub through_from : s.from ≤ h.through
  pub through_to : h.through < s.from + s.steps
  pub gives : first_pass s row h.through ≡ w
  pub from_from : h.through - s.back ≤ h.from
  pub from_to : h.from < h.through - s.back + s.length
  pub there : get_or row h.from absent ≡ w

-- where w is the result, its first hit is a hit
pub hit_is : (s : Search) (row : List (Option ℕ)) (w : ℕ) → result_of s row ≡ Some w
    → IsHit s row (Some w) (hit_with s row (Some w))
unfolding hit_with through_of from_of
hit_is s row w result =
    let outer = first_has (first_pass s row) s.from s.steps (Some w) (result_has s row w result) _ refl in
    let i : ℕ = through_of s row (Some w) in
    let inner =
    first_has (λ j. get_or row j absent) (i - s.back) s.length (Some w) (window_has s row w i outer.2) _ refl in
    record {
      through_from = outer.0;
      through_to = outer.1;
      gives = outer.2;
      from_from = inner.0;
      from_to = inner.1;
      there = inner.2;
    }

-- a search that finds some grey has a hit of it
pub found_hit : (s : Search) (row : List (Option ℕ)) → IsSome (result_of s row)
    → IsHit s row (result_of s row) (hit_with s row (result_of s row))
found_hit s row found = by_result (result_of s row) refl found
  where
    by_result : (o : Option ℕ) → result_of s row ≡ o → IsSome o → IsHit s row o (hit_with s row o)
    by_result None e there = absurd (false≢true there)
    by_result (Some w) e there = hit_is s row w e
