-- The laws of a ticket that was read, as callers cite them, with their proofs: its fields are allowed (Allowed), and
-- what is read at each answer. Assumes nothing.
pub use Rattle.ticket.specs.Allowed.{TwoBytes, Allowed, Bytes}
use Rattle.std.specs.Prelude.{◌≡◌, refl, ℕ, zero, suc, ◌+◌, ◌-◌, ◌<◌, ◌≤◌, max, Bool, true, false, ◌||◌}
use Rattle.std.specs.Prelude.{List, [], ◌∷◌, ◌++◌, length, get_or, take, replicate, ltb, eqb, ℤ, nat_abs, Ok, Err}
use Rattle.std.proofs.Common.{ap, ◌∙◌, sym, subst, arith, ltb-true, leb-true, eqb-true, le-leb, lt-ltb, length-append}
use Rattle.std.proofs.Math.Path.{ap₂}
use Rattle.std.proofs.Math.Bool.{not, ◌&&◌, cond}
use Rattle.std.proofs.lemmas.Bool.{eqb-false}
use Rattle.std.proofs.lemmas.List.{length-replicate}
use Rattle.std.proofs.Math.Seq.{take-append_seam}
use Rattle.std.proofs.Math.Dec.{leb}
use Rattle.vectors.specs.Vector.{shallow, steep}
use Rattle.refusal.specs.Answer.{is_done, Answer, done_with, giving}
use Rattle.refusal.specs.Chain.{unless, ◌then◌, then_on, then_done, unless_done, given}
use Rattle.refusal.specs.Chain.{not_given, giving_on, giving_err}
use Rattle.refusal.specs.declared.Refusal.{Refusal}
use Rattle.refusal.specs.declared.Refused.{Refused}
use Rattle.refusal.specs.declared.Refusal.TheVariants.{Unknown, BadVector, BadLength, BadOrigin, BadPhase}
use Rattle.fields.specs.Fields.{byte_at, number_at, first_box, field_end, operation_in, line_in, dx_in, dy_in}
use Rattle.fields.specs.Fields.{length_in, origin_in, phase_in}
use Rattle.ticket.specs.Boxes.{box_at, boxes_from, boxes_in}
use Rattle.fields.specs.Vectors.{divided, coprime, vector_allowed, phase_allowed}
use Rattle.ticket.specs.Judging.{operation_known, line_known, is_periodic, length_allowed, origin_allowed, judge_field}
use Rattle.ticket.specs.Judging.{judge_operation, judge_line, judge_vector, judge_length, judge_origin, judge_phase}
use Rattle.ticket.specs.Judging.{judge_box, judge_boxes, judged}
use Rattle.ticket.specs.Reading.{no_box, operation_of, kind_of, operation_number, line_number, periodic_kind, box_places}
use Rattle.ticket.specs.Reading.{shown, reading}
use Rattle.ticket.specs.declared.HiddenBox.{HiddenBox}
use Rattle.ticket.specs.declared.LineKind.{LineKind}
use Rattle.ticket.specs.declared.LineKind.TheVariants.{Connected, Periodic}
use Rattle.ticket.specs.declared.Operation.TheVariants.{Erode, Dilate, Open, Close}
use Rattle.ticket.specs.declared.Ticket.{Ticket}

both : (a b : Bool) → (a && b) ≡ true → (a ≡ true) × (b ≡ true)
both true b h = (refl, h)
both false b h = (h, cc)

between : (lo n hi : ℕ) → (leb lo n && leb n hi) ≡ true → (lo ≤ n) × (n ≤ hi)
between lo n hi h =
    let p = both (leb lo n) (leb n hi) h in
    (leb-true lo n p.0, leb-true n hi p.1)

-- a field that is good has a value that is allowed
value : (field : Answer) (test : Bool) (refusal : Refusal) (at : ℕ)
    → is_done (field then unless test refusal at) ≡ true → test ≡ true
value field test refusal at h = unless_done test refusal at (then_done field (unless test refusal at) h).1

number_small : (s : List ℕ) (at : ℕ) → Bytes s → number_at s at < 65536
unfolding number_at byte_at
number_small s at bytes = omega (arith, bytes at, bytes (at + 1))

-- the numbers of a box, of no box, and of every box place
box_small : (s : List ℕ) (head : ℕ) → Bytes s → TwoBytes (box_at s head)
unfolding box_at
box_small s head bytes =
    let at = head + 3 in
    record {
      left = number_small s at bytes;
      top = number_small s (at + 2) bytes;
      width = number_small s (at + 4) bytes;
      height = number_small s (at + 6) bytes;
    }

zero_small : TwoBytes no_box
zero_small = record { left = omega arith; top = omega arith; width = omega arith; height = omega arith }

none_small : (n j : ℕ) → TwoBytes (get_or (replicate n no_box) j no_box)
none_small zero j = zero_small
none_small (suc n) zero = zero_small
none_small (suc n) (suc j) = none_small n j

-- one box more, where the ticket has not ended, or none
one_small : (s : List ℕ) (head m j : ℕ) (boxes : List HiddenBox) (there : Bool) → Bytes s
    → ((i : ℕ) → TwoBytes (get_or (boxes ++ replicate m no_box) i no_box))
    → TwoBytes (get_or (cond there (box_at s head ∷ boxes) [] ++ replicate m no_box) j no_box)
one_small s head m zero boxes true bytes more = box_small s head bytes
one_small s head m (suc j) boxes true bytes more = more j
one_small s head m j boxes false bytes more = none_small m j

boxes_small : (s : List ℕ) (head n m j : ℕ) → Bytes s
    → TwoBytes (get_or (boxes_from s head n ++ replicate m no_box) j no_box)
unfolding boxes_from
boxes_small s head zero m j bytes = none_small m j
boxes_small s head (suc n) m j bytes =
    let next = field_end s head in
    one_small s head m j (boxes_from s next n) (ltb head (length s)) bytes (λ i. boxes_small s next n m i bytes)

one_few : (n : ℕ) (b : HiddenBox) (boxes : List HiddenBox) (there : Bool) → length boxes ≤ n
    → length (cond there (b ∷ boxes) []) ≤ suc n
one_few n b boxes true h = omega arith
one_few n b boxes false h = omega arith

few : (s : List ℕ) (head n : ℕ) → length (boxes_from s head n) ≤ n
unfolding boxes_from
few s head zero = omega arith
few s head (suc n) =
    let next = field_end s head in
    one_few n (box_at s head) (boxes_from s next n) (ltb head (length s)) (few s next n)

pub boxes_few : (s : List ℕ) → length (boxes_in s) ≤ 64
unfolding boxes_in
boxes_few s = few s first_box 64

places_small : (s : List ℕ) (j : ℕ) → Bytes s → TwoBytes (get_or (box_places (boxes_in s)) j no_box)
unfolding box_places boxes_in
places_small s j bytes = boxes_small s first_box 64 (64 - length (boxes_in s)) j bytes

places_length : (boxes : List HiddenBox) → length boxes ≤ 64 → length (box_places boxes) ≡ 64
unfolding box_places
places_length boxes h =
    let n = 64 - length boxes in
    omega (arith, length-append boxes (replicate n no_box), length-replicate n no_box)

-- the first places, as many as are counted, are the ticket's boxes
pub shown_boxes : (s : List ℕ) → take (shown s).count (shown s).boxes ≡ boxes_in s
unfolding shown box_places
shown_boxes s = take-append_seam (boxes_in s) (replicate (64 - length (boxes_in s)) no_box)

-- each field of a good ticket is good
record AllGood (s : List ℕ) : Type 0 where
  operation : is_done (judge_operation s) ≡ true
  line : is_done (judge_line s) ≡ true
  vector : is_done (judge_vector s) ≡ true
  length : is_done (judge_length s) ≡ true
  origin : is_done (judge_origin s) ≡ true
  phase : is_done (judge_phase s) ≡ true
  boxes : is_done (judge_boxes s first_box 0 65) ≡ true

all_good : (s : List ℕ) → is_done (judged s) ≡ true → AllGood s
unfolding judged
all_good s good =
    let from-phase = judge_phase s then judge_boxes s first_box 0 65 in
    let from-origin = judge_origin s then from-phase in
    let from-length = judge_length s then from-origin in
    let from_vector = judge_vector s then from-length in
    let operation = then_done (judge_operation s) (judge_line s then from_vector) good in
    let line = then_done (judge_line s) from_vector operation.1 in
    let vector = then_done (judge_vector s) from-length line.1 in
    let length = then_done (judge_length s) from-origin vector.1 in
    let origin = then_done (judge_origin s) from-phase length.1 in
    let phase = then_done (judge_phase s) (judge_boxes s first_box 0 65) origin.1 in
    record {
      operation = operation.0;
      line = line.0;
      vector = vector.0;
      length = length.0;
      origin = origin.0;
      phase = phase.0;
      boxes = phase.1;
    }

-- a good ticket is judged without any work
then_no_work : (a b : Answer) → (is_done b ≡ true → b ≡ done_with 0) → is_done (a then b) ≡ true
    → (a then b) ≡ done_with 0
then_no_work a b more h =
    let both_done = then_done a b h in
    then_on a b both_done.0 ∙ more both_done.1

one_no_work : (over : Bool) (a b : Answer) → (is_done b ≡ true → b ≡ done_with 0)
    → is_done (cond over (done_with 0) (a then b)) ≡ true
    → cond over (done_with 0) (a then b) ≡ done_with 0
one_no_work true a b more h = refl
one_no_work false a b more h = then_no_work a b more h

boxes_no_work : (s : List ℕ) (head k n : ℕ) → is_done (judge_boxes s head k n) ≡ true
    → judge_boxes s head k n ≡ done_with 0
unfolding judge_boxes
boxes_no_work s head k zero h = refl
boxes_no_work s head k (suc n) h =
    let next = field_end s head in
    let more = boxes_no_work s next (suc k) n in
    one_no_work (eqb (length s) head) (judge_box s head k) (judge_boxes s next (suc k) n) more h

pub good_no_work : (s : List ℕ) → is_done (judged s) ≡ true → judged s ≡ done_with 0
unfolding judged
good_no_work s good =
    then_no_work (judge_operation s) _
    (then_no_work (judge_line s) _
    (then_no_work (judge_vector s) _
    (then_no_work (judge_length s) _
    (then_no_work (judge_origin s) _
    (then_no_work (judge_phase s) _ (boxes_no_work s first_box 0 65))))))
    good

-- a connected line's vector and phase, and a periodic line's phase
pub kind_periodic : (n : ℕ) → periodic_kind (kind_of n) ≡ is_periodic n
unfolding periodic_kind kind_of is_periodic
kind_periodic n = kind_by (eqb n 2)
  where
    kind_by : (b : Bool) → periodic_kind (cond b Periodic Connected) ≡ b
    kind_by true = refl
    kind_by false = refl

connected : (n : ℕ) → kind_of n ≡ Connected → is_periodic n ≡ false
unfolding periodic_kind
connected n e = sym (kind_periodic n) ∙ ap periodic_kind e

periodic : (n : ℕ) → kind_of n ≡ Periodic → is_periodic n ≡ true
unfolding periodic_kind
periodic n e = sym (kind_periodic n) ∙ ap periodic_kind e

-- the number of what a known number is, is the number
pub operation_back : (n : ℕ) → operation_known n ≡ true → operation_number (operation_of n) ≡ n
unfolding operation_known operation_number operation_of
operation_back n known = by (eqb n 1) (eqb n 2) (eqb n 3) refl refl refl
  where
    by : (one two three : Bool) → eqb n 1 ≡ one → eqb n 2 ≡ two → eqb n 3 ≡ three
        → operation_number (cond one Erode (cond two Dilate (cond three Open Close))) ≡ n
    by true two three a b c = sym (eqb-true n 1 a)
    by false true three a b c = sym (eqb-true n 2 b)
    by false false true a b c = sym (eqb-true n 3 c)
    by false false false a b c =
        let limits = between 1 n 4 known in
        omega (arith, limits.0, limits.1, eqb-false n 1 a, eqb-false n 2 b, eqb-false n 3 c)

pub line_back : (n : ℕ) → line_known n ≡ true → line_number (kind_of n) ≡ n
unfolding line_known line_number kind_of
line_back n known = by (eqb n 2) refl
  where
    by : (two : Bool) → eqb n 2 ≡ two → line_number (cond two Periodic Connected) ≡ n
    by true a = sym (eqb-true n 2 a)
    by false a = let limits = between 1 n 2 known in omega (arith, limits.0, limits.1, eqb-false n 2 a)

second : (a b : Bool) → (a || b) ≡ true → a ≡ false → b ≡ true
second a b h e = rw e at h

connected_below : (p : Bool) (dx dy : ℤ) (i : ℕ) → phase_allowed p dx dy i ≡ true → p ≡ false
    → i < max (nat_abs dx) (nat_abs dy)
unfolding phase_allowed
connected_below p dx dy i h e = ltb-true i (max (nat_abs dx) (nat_abs dy)) (rw e at h)

periodic_zero : (p : Bool) (dx dy : ℤ) (i : ℕ) → phase_allowed p dx dy i ≡ true → p ≡ true → i ≡ 0
unfolding phase_allowed
periodic_zero p dx dy i h e = eqb-true i 0 (rw e at h)

-- THE LAW: a ticket of bytes that is good shows allowed fields
pub good_allowed : (s : List ℕ) → Bytes s → is_done (judged s) ≡ true → Allowed (shown s)
unfolding judge_vector judge_length judge_origin judge_phase vector_allowed length_allowed origin_allowed shown
good_allowed s bytes good =
    let g = all_good s good in
    let p = is_periodic (line_in s) in
    let runs = shallow (dx_in s) (dy_in s) || steep (dx_in s) (dy_in s) in
    let small = leb (nat_abs (dx_in s)) 255 && leb (nat_abs (dy_in s)) 255 in
    let apart = p || coprime (dx_in s) (dy_in s) in
    let vector = both (runs && small) apart (value (judge_field s 8 3 4) _ BadVector 8 g.vector) in
    let slope = both runs small vector.0 in
    let sizes = both (leb (nat_abs (dx_in s)) 255) (leb (nat_abs (dy_in s)) 255) slope.1 in
    let reach = between 1 (length_in s) 8192 (value (judge_field s 15 4 2) _ BadLength 15 g.length) in
    let phase = value (judge_field s 25 6 2) (phase_allowed p (dx_in s) (dy_in s) (phase_in s)) BadPhase 25 g.phase in
    record {
      runs = slope.0;
      dx_to = leb-true (nat_abs (dx_in s)) 255 sizes.0;
      dy_to = leb-true (nat_abs (dy_in s)) 255 sizes.1;
      connected_coprime = λ e. second p (coprime (dx_in s) (dy_in s)) vector.1 (connected (line_in s) e);
      length_from = reach.0;
      length_to = reach.1;
      origin_below = ltb-true (origin_in s) (length_in s) (value (judge_field s 20 5 2) _ BadOrigin 20 g.origin);
      connected_phase = λ e. connected_below p (dx_in s) (dy_in s) (phase_in s) phase (connected (line_in s) e);
      periodic_phase = λ e. periodic_zero p (dx_in s) (dy_in s) (phase_in s) phase (periodic (line_in s) e);
      count_to = boxes_few s;
      places = places_length (boxes_in s) (boxes_few s);
      box_numbers_lem = λ k. places_small s k bytes;
    }

-- the numbers of a good ticket's operation and kind of line are those that stand in it
pub shown_numbers : (s : List ℕ) → is_done (judged s) ≡ true
    → (operation_number (shown s).operation ≡ operation_in s) × (line_number (shown s).line ≡ line_in s)
unfolding judge_operation judge_line shown
shown_numbers s good =
    let g = all_good s good in (
      operation_back (operation_in s) (value (judge_field s 0 1 1) _ Unknown 0 g.operation),
      line_back (line_in s) (value (judge_field s 4 2 1) _ Unknown 4 g.line),
    )

-- what the reader answers: the ticket as shown where it is good, else the refusal
pub reading_good : (s : List ℕ) → is_done (judged s) ≡ true → reading s ≡ Ok (shown s)
unfolding reading
reading_good s h = giving_on (judged s) (shown s) h

pub reading_refused : (s : List ℕ) (refused : Refused) → judged s ≡ Err refused → reading s ≡ Err refused
unfolding reading
reading_refused s refused e = ap (λ (a : Answer). giving a (shown s)) e ∙ giving_err refused (shown s)

-- and back, what a caller knows who has called it: of a ticket that was read, and of a refusal
pub read_good : (s : List ℕ) (t : Ticket) → reading s ≡ Ok t → (is_done (judged s) ≡ true) × (shown s ≡ t)
unfolding reading
read_good s t e = given (judged s) (shown s) t e

pub read_refused : (s : List ℕ) (refused : Refused) → reading s ≡ Err refused → judged s ≡ Err refused
unfolding reading
read_refused s refused e = not_given (judged s) (shown s) refused e

pub read_allowed : (s : List ℕ) (t : Ticket) → Bytes s → reading s ≡ Ok t → Allowed t
read_allowed s t bytes e =
    let good = read_good s t e in
    subst Allowed good.1 (good_allowed s bytes good.0)

-- ---- back from the fields to the tests of the reader, so that nobody above opens them

-- a line is of one kind or of the other
pub kinds : (line : LineKind) (P : LineKind → Type 0) → (line ≡ Connected → P Connected) → (line ≡ Periodic → P Periodic)
    → P line
kinds Connected P connected periodic = connected refl
kinds Periodic P connected periodic = periodic refl

-- the vector and the phase of a ticket with allowed fields pass them
pub vector_passes : (t : Ticket) → Allowed t → vector_allowed (periodic_kind t.line) t.dx t.dy ≡ true
unfolding vector_allowed periodic_kind
vector_passes t ok =
    ap₂ ◌&&◌ (ap₂ ◌&&◌ ok.runs (ap₂ ◌&&◌ (le-leb _ _ ok.dx_to) (le-leb _ _ ok.dy_to)))
    (kinds t.line (λ (line : LineKind). (periodic_kind line || coprime t.dx t.dy) ≡ true) ok.connected_coprime (λ e. refl))

pub phase_passes : (t : Ticket) → Allowed t → phase_allowed (periodic_kind t.line) t.dx t.dy t.phase ≡ true
unfolding phase_allowed periodic_kind
phase_passes t ok =
    let below : ℕ = max (nat_abs t.dx) (nat_abs t.dy) in
    kinds t.line (λ (line : LineKind). cond (periodic_kind line) (eqb t.phase 0) (ltb t.phase below) ≡ true)
    (λ e. lt-ltb _ _ (ok.connected_phase e))
    (λ e. ap (λ (i : ℕ). eqb i 0) (ok.periodic_phase e))

-- but for the slope they look at the components' sizes alone
module _ (periodic : Bool) (dx dy dx' dy' : ℤ) (ex : nat_abs dx' ≡ nat_abs dx) (ey : nat_abs dy' ≡ nat_abs dy) where
  pub vector_by_sizes : (shallow dx' dy' || steep dx' dy') ≡ true → vector_allowed periodic dx dy ≡ true
      → vector_allowed periodic dx' dy' ≡ true
  unfolding vector_allowed coprime
  vector_by_sizes runs ok =
      let small = leb (nat_abs dx) 255 && leb (nat_abs dy) 255 in
      let tests = both ((shallow dx dy || steep dx dy) && small) (periodic || coprime dx dy) ok in
      let sizes = both (shallow dx dy || steep dx dy) small tests.0 in
      ap₂ ◌&&◌ (ap₂ ◌&&◌ runs (ap₂ (λ (x y : ℕ). leb x 255 && leb y 255) ex ey ∙ sizes.1))
      (ap₂ (λ (x y : ℕ). periodic || not (divided x y 2 254)) ex ey ∙ tests.1)

  pub phase_by_sizes : (i : ℕ) → phase_allowed periodic dx' dy' i ≡ phase_allowed periodic dx dy i
  unfolding phase_allowed
  phase_by_sizes i = ap₂ (λ (x y : ℕ). cond periodic (eqb i 0) (ltb i (max x y))) ex ey
