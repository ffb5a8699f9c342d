-- The demands on a whole tray in one call. Document 02, wish 3: "The answers, trays and scratch equal those of single
-- calls in list order", "Output places may overlap, and the later job's bytes win there. Demand 3 speaks of each job's
-- page as that job leaves it."
-- Assumes nothing.
use Rattle.std.specs.Prelude.{◌≡◌, true, ◌≢◌, List, ℕ, suc, ◌+◌, ◌*◌, ◌≤◌, ◌<◌, length, get_or}
use Rattle.refusal.specs.Answer.{number_of, place_of, work_in, is_done}
use Rattle.ticket.specs.Laws.{Bytes}
use Rattle.ticket.specs.Reading.{shown}
use Rattle.boxes.specs.Boxes.{hidden, boxes_of}
use Rattle.placement.specs.Placement.{pixel_in, byte_of, source_page, output_page}
use Rattle.job.specs.Job.{finished, answer, lengths}
use Rattle.judging.specs.Pages.{job_scratch}
use Rattle.listing.specs.Listed.{places_in, ticket_in}
use Rattle.listing.specs.Numbers.{answers_needed}
use Rattle.batch.specs.Batch.{Lent, lent, trays_after, answer_at}
use Rattle.batch.specs.Call.{answer_of, list_output_after, list_scratch_after, list_answers_after}
use Rattle.demands.specs.Same.{SameLengths}
use Rattle.demands.specs.Untouched.{OffPage}
use Rattle.demands.specs.Near.{Near}
use Rattle.demands.specs.Reach.{AgreeNear, AgreeOnPage}
use Rattle.demands.specs.Exact.{OpensOrCloses, Clear, Matters}

-- the list is run: nothing refuses it as a whole
abbrev pub ListRun : ℕ → Lent → List ℕ → Type 0
ListRun count l answers = is_done (answer_of count l answers) ≡ true

-- job k is finished
abbrev pub JobDone : Lent → ℕ → Type 0
JobDone l k = is_done (answer_at l k) ≡ true

-- ---- the answers

-- Each job is answered as a call by itself would be, on the trays as they were before the first job:
abbrev pub ListSingle : Type 0
ListSingle =
    (l : Lent) (k : ℕ)
    → answer_at l k
    ≡ answer (ticket_in l.jobs l.tickets k) (places_in l.jobs k) (lengths l.source l.output l.scratch)

-- so the numbers that come back depend on no byte of the source tray, of the output tray or of the scratch.
abbrev pub ListSame : Type 0
ListSame =
    (count : ℕ) (jobs tickets source source' out out' scratch scratch' answers : List ℕ)
    → SameLengths source source' out out' scratch scratch'
    → list_answers_after count (lent jobs tickets source out scratch) answers
    ≡ list_answers_after count (lent jobs tickets source' out' scratch') answers

-- "256 answers come back": three numbers for each job of the list,
abbrev pub ListTold : Type 0
ListTold =
    (count : ℕ) (l : Lent) (answers : List ℕ) (k : ℕ) → ListRun count l answers → k < count
    → (get_or (list_answers_after count l answers) (3 * k) 0 ≡ number_of (answer_at l k))
    × (get_or (list_answers_after count l answers) (3 * k + 1) 0 ≡ place_of (answer_at l k))
    × (get_or (list_answers_after count l answers) (3 * k + 2) 0 ≡ work_in (answer_at l k))

-- "zero past the list"
abbrev pub ListZeroPast : Type 0
ListZeroPast =
    (count : ℕ) (l : Lent) (answers : List ℕ) (i : ℕ) → ListRun count l answers → 3 * count ≤ i → i < answers_needed
    → get_or (list_answers_after count l answers) i 0 ≡ 0

-- "and at 18";
abbrev pub ListZeroAt18 : Type 0
ListZeroAt18 =
    (count : ℕ) (l : Lent) (answers : List ℕ) (i : ℕ) → number_of (answer_of count l answers) ≡ 18 → i < answers_needed
    → get_or (list_answers_after count l answers) i 0 ≡ 0

-- where a buffer of numbers is too short none is written;
abbrev pub ListUntoldAt100 : Type 0
ListUntoldAt100 =
    (count : ℕ) (l : Lent) (answers : List ℕ) → number_of (answer_of count l answers) ≡ 100
    → list_answers_after count l answers ≡ answers

-- and whatever the answer, numbers past the 768th keep their values, and the buffer its length.
abbrev pub ListAnswersKept : Type 0
ListAnswersKept =
    (count : ℕ) (l : Lent) (answers : List ℕ) (i : ℕ) → answers_needed ≤ i
    → get_or (list_answers_after count l answers) i 0 ≡ get_or answers i 0

abbrev pub ListAnswersLength : Type 0
ListAnswersLength =
    (count : ℕ) (l : Lent) (answers : List ℕ) → length (list_answers_after count l answers) ≡ length answers

-- ---- 1. what is written

-- a list that is refused as a whole writes to no tray,
abbrev pub ListRefusedTrays : Type 0
ListRefusedTrays =
    (count : ℕ) (l : Lent) (answers : List ℕ) → (number_of (answer_of count l answers) ≡ 0 → ⊥)
    → (list_output_after count l answers ≡ l.output) × (list_scratch_after count l answers ≡ l.scratch)

-- and neither does a refused job: the job after it finds the trays as the one before it left them
abbrev pub ListRefusedJob : Type 0
ListRefusedJob = (l : Lent) (k : ℕ) → (number_of (answer_at l k) ≡ 0 → ⊥) → trays_after l (suc k) ≡ trays_after l k

-- A byte of the output tray that belongs to no finished job's page keeps its value, and the tray its length.
abbrev pub ListOutputKept : Type 0
ListOutputKept =
    (count : ℕ) (l : Lent) (answers : List ℕ) (i : ℕ)
    → ((k : ℕ) → k < count → JobDone l k → OffPage (output_page (places_in l.jobs k)) i)
    → get_or (list_output_after count l answers) i 0 ≡ get_or l.output i 0

abbrev pub ListOutputLength : Type 0
ListOutputLength =
    (count : ℕ) (l : Lent) (answers : List ℕ) → length (list_output_after count l answers) ≡ length l.output

-- A scratch byte that no finished job used keeps its value,
abbrev pub ListScratchKept : Type 0
ListScratchKept =
    (count : ℕ) (l : Lent) (answers : List ℕ) (i : ℕ)
    → ((k : ℕ) → k < count → JobDone l k
    → job_scratch (shown (ticket_in l.jobs l.tickets k)) (places_in l.jobs k) ≤ i)
    → get_or (list_scratch_after count l answers) i 0 ≡ get_or l.scratch i 0

-- one that a finished job used is zero at the end, and the scratch keeps its length.
abbrev pub ListScratchZero : Type 0
ListScratchZero =
    (count : ℕ) (l : Lent) (answers : List ℕ) (k i : ℕ) → ListRun count l answers → k < count → JobDone l k
    → i < job_scratch (shown (ticket_in l.jobs l.tickets k)) (places_in l.jobs k)
    → get_or (list_scratch_after count l answers) i 0 ≡ 0

abbrev pub ListScratchLength : Type 0
ListScratchLength =
    (count : ℕ) (l : Lent) (answers : List ℕ) → length (list_scratch_after count l answers) ≡ length l.scratch

-- "Output places may overlap, and the later job's bytes win there.": at the end the byte of a finished job's pixel is
-- that of its finished page, unless it belongs to the page of a later finished job.
abbrev pub ListLaterWins : Type 0
ListLaterWins =
    (count : ℕ) (l : Lent) (answers : List ℕ) (k c r : ℕ) → ListRun count l answers → k < count → JobDone l k
    → c < (places_in l.jobs k).width
    → r < (places_in l.jobs k).height
    → ((j : ℕ) → k < j → j < count → JobDone l j
    → OffPage (output_page (places_in l.jobs j)) (byte_of (output_page (places_in l.jobs k)) c r))
    → pixel_in (list_output_after count l answers) (output_page (places_in l.jobs k)) c r
    ≡ finished (shown (ticket_in l.jobs l.tickets k)) (source_page (places_in l.jobs k)) l.source c r

-- ---- 2. and 3., of each job's page as that job leaves it

-- the pixel at column c, row r of job k's output page, as job k leaves it
abbrev pub left_by : Lent → ℕ → ℕ → ℕ → ℕ
left_by l k c r = pixel_in (trays_after l (suc k)).output (output_page (places_in l.jobs k)) c r

-- it is the finished page's: what the jobs before it left counts nowhere
abbrev pub ListPage : Type 0
ListPage =
    (l : Lent) (k c r : ℕ) → JobDone l k → c < (places_in l.jobs k).width → r < (places_in l.jobs k).height
    → left_by l k c r
    ≡ finished (shown (ticket_in l.jobs l.tickets k)) (source_page (places_in l.jobs k)) l.source c r

-- a hidden one is white
abbrev pub ListHidden : Type 0
ListHidden =
    (l : Lent) (k c r : ℕ) → JobDone l k → c < (places_in l.jobs k).width → r < (places_in l.jobs k).height
    → hidden (boxes_of (shown (ticket_in l.jobs l.tickets k))) c r ≡ true
    → left_by l k c r ≡ 255

-- THE REACH of a list: where the sources agree on the unhidden pixels near it, it is the same pixel, whatever else the
-- source trays hold, and whatever stood in the output trays and the scratches.
abbrev pub ListReach : Type 0
ListReach =
    (jobs tickets source source' out out' scratch scratch' : List ℕ) (k c r : ℕ) → Bytes tickets
    → SameLengths source source' out out' scratch scratch' → JobDone (lent jobs tickets source out scratch) k
    → c < (places_in jobs k).width
    → r < (places_in jobs k).height
    → AgreeNear (shown (ticket_in jobs tickets k)) (source_page (places_in jobs k)) source source' c r
    → left_by (lent jobs tickets source out scratch) k c r ≡ left_by (lent jobs tickets source' out' scratch') k c r

-- So other pages in the source tray count nowhere, those of the list's other jobs among them.
abbrev pub ListPageAlone : Type 0
ListPageAlone =
    (jobs tickets source source' out out' scratch scratch' : List ℕ) (k c r : ℕ) → Bytes tickets
    → SameLengths source source' out out' scratch scratch' → JobDone (lent jobs tickets source out scratch) k
    → c < (places_in jobs k).width
    → r < (places_in jobs k).height
    → AgreeOnPage (shown (ticket_in jobs tickets k)) (source_page (places_in jobs k)) source source'
    → left_by (lent jobs tickets source out scratch) k c r ≡ left_by (lent jobs tickets source' out' scratch') k c r

-- two source trays that differ in one byte, and what the list's job k leaves of them, whatever the other trays held
pub record ListMatters (jobs tickets : List ℕ) (k source output scratch c r c' r' : ℕ) : Type 0 where
  pub pages : Matters (shown (ticket_in jobs tickets k)) (source_page (places_in jobs k)) source c r c' r'
  pub left_differs :
      (out out' used used' : List ℕ) → length out ≡ output → length out' ≡ output → length used ≡ scratch
      → length used' ≡ scratch
      → left_by (lent jobs tickets pages.one out used) k c r
      ≢ left_by (lent jobs tickets pages.two out' used') k c r

-- THE REACH IS EXACT, of a list.
abbrev pub ListExact : Type 0
ListExact =
    (jobs tickets source out scratch : List ℕ) (k c r : ℕ) → Bytes tickets
    → JobDone (lent jobs tickets source out scratch) k
    → OpensOrCloses (shown (ticket_in jobs tickets k))
    → Clear (shown (ticket_in jobs tickets k)) (source_page (places_in jobs k)) c r
    → (c' r' : ℕ) → Near (shown (ticket_in jobs tickets k)) (source_page (places_in jobs k)) c r c' r'
    → ListMatters jobs tickets k (length source) (length out) (length scratch) c r c' r'
