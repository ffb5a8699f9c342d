-- Document 01, 'Small pages to check against': cases 1 to 15 as one table, with case 12 flipped (document 02, wish 2),
-- and one statement over the definitions, closed by computation. It says of each case whether its ticket is read, what
-- page and what work the definitions have for it, and what its job does: the answer, the output tray and the scratch
-- after it.
-- Each case but one stands at three placements: its trays just the page, and twice in longer trays, at another offset
-- and with wider strides for source and output, between black and between white bytes. The output tray and the scratch
-- are old; at a finished job the output tray is its old bytes with the page among them, and the scratch it needs is
-- zero.
-- Assumes nothing.
use Rattle.std.specs.Prelude.{◌≡◌, refl, ℕ, zero, suc, ◌+◌, ◌-◌, ◌*◌, ◌/◌, ◌%◌, Bool, cond, ◌||◌, List, [], ◌∷◌, ◌++◌, map, take, drop, replicate, eqb, leb, ℤ, pos, negsuc}
use Rattle.std.proofs.Common.{sym, ap, ◌∙◌}
use Rattle.vectors.specs.Vector.{shallow, steep, major_of, minor_of}
use Rattle.geometry.specs.Line.{nearest, D, shift, period, profile, place, landing, step_of, major_at}
use Rattle.geometry.specs.Number.{within, in_page, count, behind, ahead}
use Rattle.runs.specs.Span.{chosen}
use Rattle.runs.specs.Block.{rightward, leftward, resulting}
use Rattle.runs.specs.Scratch.{total}
use Rattle.refusal.specs.Answer.{number_of, place_of, work_in, is_done, when_done, Answer, done_with}
use Rattle.refusal.specs.Chain.{unless, ◌then◌}
use Rattle.fields.specs.Fields.{byte_at, number_at, signed16, signed_at, operation_in, line_in, dx_in, dy_in}
use Rattle.fields.specs.Fields.{length_in, origin_in, phase_in, field_end}
use Rattle.fields.specs.Vectors.{divided, coprime, vector_allowed, phase_allowed}
use Rattle.ticket.specs.Boxes.{box_at, boxes_from, boxes_in}
use Rattle.ticket.specs.Judging.{judge_head, judge_size, judge_field, operation_known, line_known, is_periodic}
use Rattle.ticket.specs.Judging.{length_allowed, origin_allowed}
use Rattle.ticket.specs.Judging.{judge_operation, judge_line, judge_vector, judge_length, judge_origin, judge_phase, judge_box}
use Rattle.ticket.specs.Judging.{judged}
use Rattle.ticket.specs.Judging as ticket-judging
use Rattle.ticket.specs.Reading.{operation_of, kind_of, operation_number, periodic_kind, box_places, shown}
use Rattle.ticket.specs.declared.LineKind.{LineKind}
use Rattle.ticket.specs.declared.LineKind.TheVariants.{Connected, Periodic}
use Rattle.ticket.specs.declared.Operation.{Operation}
use Rattle.ticket.specs.declared.Operation.TheVariants.{Erode, Dilate, Open, Close}
use Rattle.ticket.specs.declared.Ticket.{Ticket}
use Rattle.boxes.specs.Boxes.{covers, hidden, boxes_of, box_allowed}
use Rattle.placement.specs.Placement.{row_start, byte_of, pixel_in, column_of, row_of, inside, side_allowed, allowed, fits}
use Rattle.placement.specs.Placement.{source_page, output_page, scratch_needed}
use Rattle.placement.specs.declared.Placements.{Placements}
use Rattle.tray.specs.Written.{written_from, written, cleared}
use Rattle.filter.specs.Seen.{seen, turned, runs_steep}
use Rattle.filter.specs.Filters.{joined, extreme, value_at, on_line, in_window, pass_at, pass, eroded, dilation_back}
use Rattle.filter.specs.Filters.{erosion, dilation, opening, closing}
use Rattle.filter.specs.Filters.{dilated, opened, closed, operated, filtered, or_white, recipe_boxes, filtered_page}
use Rattle.filter.specs.Work.{charged, charged_at, pass_work, erosion_work, dilation_work, work_of}
use Rattle.job.specs.Order.{line_of, segment_of, recipe_of}
use Rattle.judging.specs.Pages.{pages_of}
use Rattle.judging.specs.Judging.{judge_sides, judge_source, judge_output, judge_scratch, judge_page_boxes_from}
use Rattle.judging.specs.Judging.{judge_page_boxes}
use Rattle.judging.specs.Judging.{judge_places}
use Rattle.job.specs.Job.{finished_with, finished, job_work, answer, lengths, output_after, scratch_after}
use Rattle.judging.specs.Pages.{job_scratch}

-- ---- tickets

-- a two-byte number, big-endian
abbrev word : ℕ → List ℕ
word n = n / 256 % 256 ∷ n % 256 ∷ []

abbrev ticket : Operation → ℕ → ℕ → ℕ → ℕ → ℕ → ℕ → List ℕ
ticket operation line dx dy l o i =
    (1 ∷ 0 ∷ 1 ∷ operation_number operation ∷ 2 ∷ 0 ∷ 1 ∷ line ∷ [])
    ++ (3 ∷ 0 ∷ 4 ∷ word dx)
    ++ word dy
    ++ (4 ∷ 0 ∷ 2 ∷ word l)
    ++ (5 ∷ 0 ∷ 2 ∷ word o)
    ++ (6 ∷ 0 ∷ 2 ∷ word i)

-- "connected (1, 0), phase 0, unless said otherwise"
abbrev plain : Operation → ℕ → ℕ → List ℕ
plain operation l o = ticket operation 1 1 0 l o 0

abbrev box : ℕ → ℕ → ℕ → ℕ → List ℕ
box left top width height = (7 ∷ 0 ∷ 8 ∷ word left) ++ word top ++ word width ++ word height

-- ---- the table

-- how many bytes stand before the source page and behind each of its rows, and their value
record Setting : Type 0 where
  lead : ℕ
  gap : ℕ
  filler : ℕ

abbrev once : List Setting
once = record { lead = 2; gap = 1; filler = 0 } ∷ []

abbrev thrice : List Setting
thrice = record { lead = 0; gap = 0; filler = 0 } ∷ record { lead = 1; gap = 3; filler = 255 } ∷ once

-- a finished page and its work
record Page : Type 0 where
  work : ℕ
  pixels : List ℕ

-- how a job is answered: with the page, or with a refusal's number and place
record Reply : Type 0 where
  number : ℕ
  at : ℕ

abbrev finishes : Reply
finishes = record { number = 0; at = 0 }

abbrev refuses : ℕ → ℕ → Reply
refuses number at = record { number = number; at = at }

record Case : Type 0 where
  bytes : List ℕ
  width : ℕ
  height : ℕ
  pixels : List ℕ
  -- how many bytes the source tray lacks
  missing : ℕ
  -- the page of the ticket, and how the ticket's job is answered
  page : Page
  reply : Reply
  -- where the page is read by its definition, and where the job is run
  pages_at : List Setting
  jobs_at : List Setting

-- "Row 9 1 5 (w 3, h 1)": the ticket, its work and page, and the answer of its job
abbrev row : List ℕ → ℕ → List ℕ → Reply → Case
row bytes work result reply =
    record {
      bytes = bytes;
      width = 3;
      height = 1;
      pixels = 9 ∷ 1 ∷ 5 ∷ [];
      missing = 0;
      page = record { work = work; pixels = result };
      reply = reply;
      pages_at = thrice;
      jobs_at = thrice;
    }

-- three rows of three pixels: the page, the ticket, its work and page, and the answer of its job
abbrev square_of : List ℕ → List ℕ → ℕ → List ℕ → Reply → Case
square_of pixels bytes work result reply =
    record {
      bytes = bytes;
      width = 3;
      height = 3;
      pixels = pixels;
      missing = 0;
      page = record { work = work; pixels = result };
      reply = reply;
      pages_at = thrice;
      jobs_at = thrice;
    }

-- "rows 1 2 3 / 4 5 6 / 7 8 9"
abbrev square : List ℕ → ℕ → List ℕ → Reply → Case
square bytes work result reply = square_of (1 ∷ 2 ∷ 3 ∷ 4 ∷ 5 ∷ 6 ∷ 7 ∷ 8 ∷ 9 ∷ []) bytes work result reply

-- the same "flipped top to bottom"
abbrev flipped_square : List ℕ → ℕ → List ℕ → Reply → Case
flipped_square bytes work result reply = square_of (7 ∷ 8 ∷ 9 ∷ 4 ∷ 5 ∷ 6 ∷ 1 ∷ 2 ∷ 3 ∷ []) bytes work result reply

-- a row with no page: the ticket, how many bytes its tray lacks, and the answer of its job
abbrev without : List ℕ → ℕ → Reply → Case
without bytes missing reply =
    record {
      bytes = bytes;
      width = 3;
      height = 1;
      pixels = 9 ∷ 1 ∷ 5 ∷ [];
      missing = missing;
      page = record { work = 0; pixels = [] };
      reply = reply;
      pages_at = [];
      jobs_at = thrice;
    }

-- a case whose page is read only in its job, at one placement
abbrev run_once : Case → Case
run_once c =
    record {
      bytes = c.bytes;
      width = c.width;
      height = c.height;
      pixels = c.pixels;
      missing = c.missing;
      page = c.page;
      reply = c.reply;
      pages_at = [];
      jobs_at = once;
    }

-- The document gives the work of cases 1, 2, 3, 6 and 7; the others' is counted by hand along their lines.
abbrev table : List Case
table =
    -- 1 to 4
    row (plain erosion 2 0) 3 (1 ∷ 1 ∷ 5 ∷ []) finishes
    ∷ row (plain dilation 2 0) 3 (9 ∷ 9 ∷ 5 ∷ []) finishes
    ∷ row (plain opening 2 0) 6 (1 ∷ 1 ∷ 5 ∷ []) finishes
    ∷ row (plain closing 2 0) 6 (9 ∷ 5 ∷ 5 ∷ []) finishes
    -- 5
    ∷ row (plain opening 2 1) 6 (9 ∷ 1 ∷ 1 ∷ []) finishes
    -- 6
    ∷ row (plain erosion 1 0) 0 (9 ∷ 1 ∷ 5 ∷ []) finishes
    ∷ row (plain dilation 1 0) 0 (9 ∷ 1 ∷ 5 ∷ []) finishes
    ∷ row (plain opening 1 0) 0 (9 ∷ 1 ∷ 5 ∷ []) finishes
    ∷ row (plain closing 1 0) 0 (9 ∷ 1 ∷ 5 ∷ []) finishes
    -- 7: a window of 8192 steps at each pixel takes some seconds to compute
    ∷ run_once (row (plain erosion 8192 0) 4 (1 ∷ 1 ∷ 5 ∷ []) finishes)
    -- 8, 9
    ∷ row (plain opening 2 0 ++ box 1 0 1 1) 6 (9 ∷ 255 ∷ 5 ∷ []) finishes
    ∷ row (plain opening 3 0 ++ box 1 0 1 1) 8 (5 ∷ 255 ∷ 5 ∷ []) finishes
    -- 10
    ∷ without [] 0 (refuses 1 0)
    -- 11
    ∷ square (ticket erosion 2 1 1 3 1 0) 8 (1 ∷ 2 ∷ 3 ∷ 4 ∷ 1 ∷ 2 ∷ 7 ∷ 4 ∷ 5 ∷ []) finishes
    -- 12, 13
    ∷ square (ticket dilation 1 2 1 2 1 0) 8 (5 ∷ 3 ∷ 3 ∷ 8 ∷ 6 ∷ 6 ∷ 7 ∷ 9 ∷ 9 ∷ []) finishes
    ∷ square (ticket dilation 1 2 1 2 1 1) 8 (2 ∷ 6 ∷ 3 ∷ 5 ∷ 9 ∷ 6 ∷ 8 ∷ 8 ∷ 9 ∷ []) finishes
    -- 12 flipped, as document 02, wish 2, has it: along (2, -1), whose -1 is 65535 in two bytes
    ∷ flipped_square (ticket dilation 1 2 65535 2 1 0) 8 (7 ∷ 9 ∷ 9 ∷ 8 ∷ 6 ∷ 6 ∷ 5 ∷ 3 ∷ 3 ∷ []) finishes
    -- 14
    ∷ without (ticket erosion 1 2 2 2 0 0) 0 (refuses 6 8)
    ∷ row (ticket erosion 2 2 2 2 0 0) 0 (9 ∷ 1 ∷ 5 ∷ []) finishes
    ∷ without (ticket erosion 1 0 0 2 0 0) 0 (refuses 6 8)
    -- 15 (that L 8192 is accepted is case 7)
    ∷ without (plain erosion 8193 0) 0 (refuses 7 15)
    ∷ without (plain erosion 2 2) 0 (refuses 8 20)
    ∷ without (plain erosion 2 0) 1 (refuses 11 0)
    ∷ []

-- ---- the placements

-- h rows of w pixels, each followed by the gap
abbrev rows : ℕ → ℕ → ℕ → ℕ → List ℕ → List ℕ
rows w gap filler zero pixels = []
rows w gap filler (suc h) pixels = take w pixels ++ replicate gap filler ++ rows w gap filler h (drop w pixels)

-- a page laid into a tray that ends with the page's last pixel, less some bytes
abbrev laid : ℕ → ℕ → ℕ → ℕ → ℕ → List ℕ → ℕ → List ℕ
laid lead gap filler w h pixels missing =
    take (lead + h * (w + gap) - gap - missing) (replicate lead filler ++ rows w gap filler h pixels)

-- the output page stands one byte further on, with gaps of twice the width
abbrev placements : Case → Setting → Placements
placements c s =
    record {
      width = c.width;
      height = c.height;
      source = record { offset = s.lead; stride = c.width + s.gap };
      output = record { offset = s.lead + 1; stride = c.width + (s.gap + s.gap) };
    }

abbrev source_tray : Case → Setting → List ℕ
source_tray c s = laid s.lead s.gap s.filler c.width c.height c.pixels c.missing

-- an output tray whose page has these pixels, and whose other bytes are 77
abbrev output_tray : Case → Setting → List ℕ → List ℕ
output_tray c s pixels = laid (s.lead + 1) (s.gap + s.gap) 77 c.width c.height pixels 0

-- what a scratch holds: the bytes it needs for two pages, and two more
abbrev scratch_of : Case → ℕ → List ℕ
scratch_of c used = replicate (scratch_needed 2 c.width c.height) used ++ (6 ∷ 6 ∷ [])

-- ---- a page as a list

-- n pixels of row r from column c on, and the n rows from row r on
abbrev across : (ℕ → ℕ → ℕ) → ℕ → ℕ → ℕ → List ℕ
across page r c zero = []
across page r c (suc n) = page c r ∷ across page r (suc c) n

abbrev down : (ℕ → ℕ → ℕ) → ℕ → ℕ → ℕ → List ℕ
down page w r zero = []
down page w r (suc n) = across page r 0 w ++ down page w (suc r) n

-- ---- what the definitions say, and what the table says

-- what a job does
record Outcome : Type 0 where
  number : ℕ
  at : ℕ
  work : ℕ
  output : List ℕ
  scratch : List ℕ

-- all that is said of a case
record Verdict : Type 0 where
  read : Bool
  pages : List Page
  jobs : List Outcome

-- the work of a case's ticket, and its page pixel by pixel: no judgement is asked
abbrev defined : Case → Setting → Page
defined c s =
    let page : ℕ → ℕ → ℕ = finished (shown c.bytes) (source_page (placements c s)) (source_tray c s) in
    record { work = job_work (shown c.bytes) c.width c.height; pixels = down page c.width 0 c.height }

-- before the job, the output page holds 88 and the needed scratch 99
abbrev before : Case → Setting → List ℕ
before c s = output_tray c s (replicate (c.width * c.height) 88)

abbrev done : Case → Setting → Outcome
done c s =
    let source : List ℕ = source_tray c s in
    let old : List ℕ = before c s in
    let dirty : List ℕ = scratch_of c 99 in
    let given : Answer = answer c.bytes (placements c s) (lengths source old dirty) in
    record {
      number = number_of given;
      at = place_of given;
      work = work_in given;
      output = output_after c.bytes (placements c s) source old dirty;
      scratch = scratch_after c.bytes (placements c s) source old dirty;
    }

-- whether the table says that the job is finished
abbrev ends : Case → Bool
ends c = eqb c.reply.number 0

-- "A refusal also returns work 0 and leaves every byte of output and scratch unwritten."
abbrev said : Case → Setting → Outcome
said c s =
    record {
      number = c.reply.number;
      at = c.reply.at;
      work = cond (ends c) c.page.work 0;
      output = cond (ends c) (output_tray c s c.page.pixels) (before c s);
      scratch = cond (ends c) (scratch_of c 0) (scratch_of c 99);
    }

abbrev by_definition : Case → Verdict
by_definition c =
    record {
      read = is_done (judged c.bytes);
      pages = map (λ (s : Setting). defined c s) c.pages_at;
      jobs = map (λ (s : Setting). done c s) c.jobs_at;
    }

-- refusals 1 to 9 are those of a ticket that is not read
abbrev by_table : Case → Verdict
by_table c =
    record {
      read = ends c || leb 10 c.reply.number;
      pages = map (λ (s : Setting). c.page) c.pages_at;
      jobs = map (λ (s : Setting). said c s) c.jobs_at;
    }

-- ---- how it is computed: a ticket is read once, and not again at every step of a window

-- a number, an operation and a kind of line are computed before they are handed on
unfoldable first : ℕ → (ℕ → Verdict) → Verdict
first zero f = f zero
first (suc n) f = f (suc n)

first_is : (n : ℕ) (f : ℕ → Verdict) → first n f ≡ f n
unfolding first
first_is zero f = refl
first_is (suc n) f = refl

unfoldable firstℤ : ℤ → (ℤ → Verdict) → Verdict
firstℤ (pos n) f = first n (λ (m : ℕ). f (pos m))
firstℤ (negsuc n) f = first n (λ (m : ℕ). f (negsuc m))

firstℤ_is : (z : ℤ) (f : ℤ → Verdict) → firstℤ z f ≡ f z
unfolding firstℤ
firstℤ_is (pos n) f = first_is n (λ (m : ℕ). f (pos m))
firstℤ_is (negsuc n) f = first_is n (λ (m : ℕ). f (negsuc m))

unfoldable first_operation : Operation → (Operation → Verdict) → Verdict
first_operation Erode f = f Erode
first_operation Dilate f = f Dilate
first_operation Open f = f Open
first_operation Close f = f Close

first_operation_is : (n : Operation) (f : Operation → Verdict) → first_operation n f ≡ f n
unfolding first_operation
first_operation_is Erode f = refl
first_operation_is Dilate f = refl
first_operation_is Open f = refl
first_operation_is Close f = refl

unfoldable first_kind : LineKind → (LineKind → Verdict) → Verdict
first_kind Connected f = f Connected
first_kind Periodic f = f Periodic

first_kind_is : (k : LineKind) (f : LineKind → Verdict) → first_kind k f ≡ f k
unfolding first_kind
first_kind_is Connected f = refl
first_kind_is Periodic f = refl

unfoldable read_first : Ticket → (Ticket → Verdict) → Verdict
read_first t f =
    first_operation t.operation (λ (operation : Operation).
    first_kind t.line (λ (line : LineKind).
    firstℤ t.dx (λ (dx : ℤ).
    firstℤ t.dy (λ (dy : ℤ).
    first t.length (λ (length : ℕ).
    first t.origin (λ (origin : ℕ).
    first t.phase (λ (phase : ℕ).
    first t.count (λ (count : ℕ).
    f (record {
      operation = operation;
      line = line;
      dx = dx;
      dy = dy;
      length = length;
      origin = origin;
      phase = phase;
      count = count;
      boxes = t.boxes;
    })))))))))

read_first_lem : (t : Ticket) (f : Ticket → Verdict) → read_first t f ≡ f t
unfolding read_first
read_first_lem t f = simp (first_operation_is, first_kind_is, first_is, firstℤ_is)

-- what is said of a case, with its ticket read
abbrev verdict : Case → Ticket → Verdict
verdict c t =
    record {
      read = is_done (judged c.bytes);
      pages = map (λ (s : Setting). page s) c.pages_at;
      jobs = map (λ (s : Setting). job s) c.jobs_at;
    }
  where
    page : Setting → Page
    page s =
        record {
          work = job_work t c.width c.height;
          pixels = down (finished t (source_page (placements c s)) (source_tray c s)) c.width 0 c.height;
        }

    job : Setting → Outcome
    job s =
        let p : Placements = placements c s in
        let source : List ℕ = source_tray c s in
        let old : List ℕ = before c s in
        let dirty : List ℕ = scratch_of c 99 in
        let work : Answer = done_with (job_work t c.width c.height) in
        let given : Answer = judged c.bytes then judge_places t p (lengths source old dirty) then work in
        record {
          number = number_of given;
          at = place_of given;
          work = work_in given;
          output = when_done given (written (output_page p) (finished t (source_page p) source) old) old;
          scratch = when_done given (cleared (job_scratch t p) dirty) dirty;
        }

abbrev read_once : Case → Verdict
read_once c = read_first (shown c.bytes) (verdict c)

read_once_lem : by_definition ≡ read_once
unfolding answer output_after scratch_after
read_once_lem = λ i c. sym (read_first_lem (shown c.bytes) (verdict c)) i

computed : map read_once table ≡ map by_table table
unfolding first firstℤ first_operation first_kind read_first
    shallow steep major_of minor_of
    nearest D shift period profile place landing step_of major_at
    within in_page count behind ahead
    chosen rightward leftward resulting total
    number_of place_of work_in is_done when_done unless ◌then◌
    byte_at number_at signed16 signed_at operation_in line_in dx_in dy_in
    length_in origin_in phase_in field_end box_at boxes_from boxes_in
    judge_head judge_size judge_field operation_known line_known is_periodic divided
    coprime vector_allowed length_allowed origin_allowed phase_allowed
    judge_operation judge_line judge_vector judge_length judge_origin judge_phase judge_box
    ticket-judging.judge_boxes judged box_places operation_of kind_of operation_number periodic_kind shown
    covers hidden boxes_of box_allowed
    row_start byte_of pixel_in side_allowed allowed fits source_page output_page scratch_needed
    column_of row_of inside written_from written cleared
    seen turned runs_steep
    joined extreme value_at on_line in_window pass_at pass eroded dilation_back
    dilated opened closed operated filtered or_white recipe_boxes filtered_page
    charged charged_at pass_work erosion_work dilation_work work_of
    line_of segment_of recipe_of pages_of
    judge_sides judge_source judge_output judge_scratch judge_page_boxes_from judge_page_boxes judge_places
    finished_with job_work job_scratch answer output_after scratch_after
computed = refl

-- ---- the statement

worked_cases : map by_definition table ≡ map by_table table
worked_cases = ap (λ (f : Case → Verdict). map f table) read_once_lem ∙ computed
