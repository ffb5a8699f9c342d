-- What a finished job on a file may rely on, in plain facts: nobody above unfolds the judging.
-- Assumes nothing.
use Rattle.std.specs.Prelude.{◌≡◌, Bool, true, cond, Ok, take}
use Rattle.std.proofs.Math.Path.{refl, sym, ap, ap₂, subst}
use Rattle.std.proofs.Common.{◌∙◌, mul_comm, suc-mul, length-append, take-append-drop, get_or-take, length-take-le}
use mathlib.Core.List.{List, ◌++◌, append_assoc}
use Prim.Native.Nat.{ℕ, suc, ◌+◌, ◌-◌, ◌*◌, ◌≤◌, ◌<◌}
use native.Mathlib.Omega.{arith}
use Rattle.std.proofs.Math.ListN.{length, get_or, drop, length-drop}
use Rattle.std.proofs.Math.Seq.{get_or-drop, get_or-append-add}
use Rattle.refusal.specs.Answer.{is_done, Answer, done_with, giving}
use Rattle.refusal.specs.Chain.{◌then◌, then_work, done_work, when_done_lem}
use Rattle.ticket.specs.Judging as tickets
use Rattle.ticket.specs.Laws.{Allowed, Bytes, good_allowed}
use Rattle.ticket.specs.Reading.{shown}
use Rattle.placement.specs.Placement.{byte_of, pixel_in, column_of, row_of, inside, Placed, source_page, output_page}
use Rattle.placement.proofs.Laws as placement
use Rattle.placement.specs.declared.Placement.{Placement}
use Rattle.tray.specs.Laws as tray
use Rattle.tray.specs.Written.{written, cleared}
use Rattle.filter.proofs.Within.{page_within}
use Rattle.heading.specs.Writing.{file_of}
use Rattle.pgm.specs.Header.{width_in, height_in, maximum_in, pixels_start}
use Rattle.pgm.specs.Laws.{Read, read_good, told_small}
use Rattle.pgm.specs.ReadBack.{ReadsBack, read_back, header_back}
use Rattle.pgm.specs.Reading as pgm
use Rattle.pgm.specs.declared.Header.{Header}
use Rattle.job.specs.Job.{finished_with, job_work, lengths}
use Rattle.judging.specs.Pages.{job_scratch}
use Rattle.judging.specs.Judging.{judge_places}
use Rattle.judging.specs.Laws.{Stands, stands}
use Rattle.job.specs.Order.{recipe_of}
use Rattle.judging.specs.declared.Lengths.{Lengths}
use Rattle.file.specs.FileJob.{header, file_page, file_answer, file_output_after, file_scratch_after}
use Rattle.file.specs.Places.{header_for, places_of, file_length, headed}

-- ---- a header before a tray

module _ (front tray : List ℕ) where
  pub length_headed : length front ≤ length tray → length (headed front tray) ≡ length tray
  unfolding headed
  length_headed room = simp (length-append, length-drop) (omega arith)

  -- a byte behind it is the tray's
  pub headed_behind : (i : ℕ) → length front ≤ i → get_or (headed front tray) i 0 ≡ get_or tray i 0
  unfolding headed
  headed_behind i past =
      let there : i ≡ length front + (i - length front) = omega arith in
      ap (λ (k : ℕ). get_or (front ++ drop (length front) tray) k 0) there
      ∙ get_or-append-add front (drop (length front) tray) (i - length front) 0
      ∙ get_or-drop (length front) tray (i - length front) 0
      ∙ ap (λ (k : ℕ). get_or tray k 0) (sym there)

-- ---- a finished job

pub record FinishedFile (ticket file : List ℕ) (n : Lengths) (work : ℕ) : Type 0 where
  pub ticket_read : is_done (tickets.judged ticket) ≡ true
  pub file_read : is_done (pgm.judged file) ≡ true
  pub placed : is_done (judge_places (shown ticket) (places_of (header file)) n) ≡ true
  pub worked : job_work (shown ticket) (header file).width (header file).height ≡ work

pub finished_file :
    (ticket file : List ℕ) (n : Lengths) (work : ℕ) → file_answer ticket file n ≡ done_with work
    → FinishedFile ticket file n work
unfolding file_answer
finished_file ticket file n work e =
    let places : Answer = judge_places (shown ticket) (places_of (header file)) n in
    let works : Answer = done_with (job_work (shown ticket) (header file).width (header file).height) in
    let ticket_read = then_work (tickets.judged ticket) (pgm.judged file then places then works) work e in
    let file_read = then_work (pgm.judged file) (places then works) work ticket_read.1 in
    let placed = then_work places works work file_read.1 in
    record {
      ticket_read = ticket_read.0;
      file_read = file_read.0;
      placed = placed.0;
      worked = done_work placed.1;
    }

pub file_allowed :
    (ticket file : List ℕ) (n : Lengths) (work : ℕ) → Bytes ticket → file_answer ticket file n ≡ done_with work
    → Allowed (shown ticket)
file_allowed ticket file n work bytes e = good_allowed ticket bytes (finished_file ticket file n work e).ticket_read

-- ---- where its pages stand

-- where the last of h rows ends that follow one another
pub rows_end : (o w h : ℕ) → 1 ≤ h → o + (h - 1) * w + w ≡ o + w * h
rows_end o w h least =
    let down : suc (h - 1) ≡ h = omega arith in
    omega (arith, mul_comm w h, suc-mul (h - 1) w, ap (λ (k : ℕ). k * w) down)

-- so such a page needs no byte behind its last pixel
rows_placed : (p : Placement) (n : ℕ) → p.stride ≡ p.width → Placed p n → Placed p (p.offset + p.width * p.height)
rows_placed p n close h =
    record {
      width_least = h.width_least;
      width_most = h.width_most;
      height_least = h.height_least;
      height_most = h.height_most;
      stride_least = h.stride_least;
      stride_most = h.stride_most;
      fitting = rw close (omega (arith, rows_end p.offset p.width p.height h.height_least));
    }

module _ (ticket file out scratch : List ℕ) (work : ℕ)
    (done : file_answer ticket file (lengths file out scratch) ≡ done_with work) where
  abbrev h : Header
  h = header file

  abbrev from : Placement
  from = source_page (places_of h)

  abbrev to : Placement
  to = output_page (places_of h)

  pub file_stands : Stands (shown ticket) (places_of h) (lengths file out scratch)
  file_stands =
      stands (shown ticket) (places_of h) (lengths file out scratch)
      (finished_file ticket file (lengths file out scratch) work done).placed

  read : Read file
  read = read_good file (finished_file ticket file (lengths file out scratch) work done).file_read

  -- the sides that are told are the sides
  pub sides_are : (h.width ≡ width_in file) × (h.height ≡ height_in file)
  unfolding source_page places_of pgm.header_in
  sides_are = (
    told_small (width_in file) 8192 (omega arith) file_stands.from.width_most,
    told_small (height_in file) 8192 (omega arith) file_stands.from.height_most,
  )

  from_rows : Placed from (h.start + h.width * h.height)
  unfolding source_page places_of
  from_rows = rows_placed from (length file) refl file_stands.from

  to_rows : Placed to (file_length h)
  unfolding output_page places_of file_length
  to_rows = rows_placed to (length out) refl file_stands.to

  -- the file that is written fits the output
  pub file_fits : file_length h ≤ length out
  unfolding output_page places_of file_length
  file_fits =
      omega (
        arith,
        rows_end (length (header_for h)) h.width h.height to_rows.height_least,
        file_stands.to.fitting,
      )

  header_fits : length (header_for h) ≤ length out
  unfolding file_length
  header_fits = omega (arith, file_fits)

  -- ---- what it leaves

  abbrev page : List ℕ
  page = written to (file_page (shown ticket) file) out

  pub output_is : file_output_after ticket file out scratch ≡ headed (header_for h) page
  unfolding file_output_after is_done
  output_is =
      when_done_lem (file_answer ticket file (lengths file out scratch)) (headed (header_for h) page) out (ap is_done done)

  page_length : length page ≡ length out
  page_length = tray.length_written to (file_page (shown ticket) file) out

  -- the finished page's pixels stand behind the header,
  pub file_pixel :
      (c r : ℕ) → c < h.width → r < h.height
      → pixel_in (file_output_after ticket file out scratch) to c r ≡ file_page (shown ticket) file c r
  unfolding pixel_in output_page places_of
  file_pixel c r c_in r_in =
      ap (λ (tray : List ℕ). get_or tray (byte_of to c r) 0) output_is
      ∙ headed_behind (header_for h) page (byte_of to c r) (placement.byte_from to c r)
      ∙ tray.written_pixel to (file_page (shown ticket) file) out c r c_in c_in r_in
      (placement.byte_below to (length out) c r file_stands.to c_in r_in)

  -- and behind the file every byte is as it was
  pub file_rest : (i : ℕ) → file_length h ≤ i → get_or (file_output_after ticket file out scratch) i 0 ≡ get_or out i 0
  unfolding file_length
  file_rest i past =
      ap (λ (tray : List ℕ). get_or tray i 0) output_is
      ∙ headed_behind (header_for h) page i (omega arith)
      ∙ tray.written_outside to (file_page (shown ticket) file) out i
      (placement.outside_past to (file_length h) i to_rows past)

  pub output_length : length (file_output_after ticket file out scratch) ≡ length out
  output_length =
      ap length output_is
      ∙ length_headed (header_for h) page (omega (arith, header_fits, page_length))
      ∙ page_length

  pub scratch_is : file_scratch_after ticket file out scratch ≡ cleared (job_scratch (shown ticket) (places_of h)) scratch
  unfolding file_scratch_after is_done
  scratch_is =
      when_done_lem (file_answer ticket file (lengths file out scratch))
      (cleared (job_scratch (shown ticket) (places_of h)) scratch) scratch (ap is_done done)

  -- ---- no pixel is above the maximum

  source_within : (c r : ℕ) → c < h.width → r < h.height → pixel_in file from c r ≤ h.maximum
  unfolding pixel_in source_page places_of pgm.header_in
  source_within c r c_in r_in =
      let at = byte_of from c r in
      let low : pixels_start file ≤ at = placement.byte_from from c r in
      let high : at < pixels_start file + h.width * h.height = placement.byte_below from _ c r from_rows c_in r_in in
      let count : at - pixels_start file < h.width * h.height = omega arith in
      let here : pixels_start file + (at - pixels_start file) ≡ at = omega arith in
      let inside = subst (λ (n : ℕ). at - pixels_start file < n) sides_product count in
      subst (λ (k : ℕ). get_or file k 0 ≤ maximum_in file) here (read.pixels (at - pixels_start file) inside)
    where
      sides_product : h.width * h.height ≡ width_in file * height_in file
      sides_product = ap (λ (w : ℕ). w * h.height) sides_are.0 ∙ ap (λ (k : ℕ). width_in file * k) sides_are.1

  pub file_within : (c r : ℕ) → file_page (shown ticket) file c r ≤ h.maximum
  unfolding file_page finished_with recipe_of source_page places_of
  file_within c r =
      page_within h.maximum (recipe_of (shown ticket) h.maximum) h.width h.height (pixel_in file from)
      (omega arith)
      (λ c' r' c_in r_in shows. source_within c' r' c_in r_in)
      c
      r

  -- ---- what was written reads back

  -- every byte of the written file behind its header is a pixel
  byte_inside : (i : ℕ) → i < h.width * h.height → inside to (length (header_for h) + i) ≡ true
  unfolding output_page places_of
  byte_inside i i-in = placement.inside_rows to i refl to_rows.width_least i-in

  page_byte :
      (at : ℕ) → at < length out → inside to at ≡ true
      → get_or page at 0 ≡ file_page (shown ticket) file (column_of to at) (row_of to at)
  page_byte at room there =
      tray.written_at to (file_page (shown ticket) file) out at room
      ∙ ap (λ (b : Bool). cond b (file_page (shown ticket) file (column_of to at) (row_of to at)) (get_or out at 0)) there

  byte_within : (i : ℕ) → i < h.width * h.height → get_or page (length (header_for h) + i) 0 ≤ h.maximum
  unfolding file_length
  byte_within i i-in =
      let at : ℕ = length (header_for h) + i in
      let room : at < length out = omega (arith, file_fits) in
      subst (λ (v : ℕ). v ≤ h.maximum) (sym (page_byte at room (byte_inside i i-in)))
      (file_within (column_of to at) (row_of to at))

  abbrev behind : List ℕ
  behind = drop (length (header_for h)) page

  abbrev pixels : List ℕ
  pixels = take (h.width * h.height) behind

  behind_length : h.width * h.height ≤ length behind
  unfolding file_length
  behind_length = rw length-drop (omega (arith, file_fits, page_length))

  pixels_length : length pixels ≡ h.width * h.height
  pixels_length = length-take-le (h.width * h.height) behind behind_length

  pixels_within : (i : ℕ) → i < length pixels → get_or pixels i 0 ≤ h.maximum
  pixels_within i i-in =
      let few : i < h.width * h.height = omega (arith, pixels_length) in
      subst (λ (v : ℕ). v ≤ h.maximum)
      (sym (get_or-take _ behind i 0 few ∙ get_or-drop (length (header_for h)) page i 0))
      (byte_within i few)

  -- the output is the file of the page's pixels, and what stands behind it
  whole :
      file_of h.width h.height h.maximum pixels ++ drop (h.width * h.height) behind
      ≡ file_output_after ticket file out scratch
  unfolding file_of headed header_for
  whole =
      append_assoc (header_for h) pixels (drop (h.width * h.height) behind)
      ∙ ap (λ (rest : List ℕ). header_for h ++ rest) (take-append-drop (h.width * h.height) behind)
      ∙ sym output_is

  pub reads_back : ReadsBack h.width h.height h.maximum pixels (file_output_after ticket file out scratch)
  unfolding pgm.header_in
  reads_back =
      subst (ReadsBack h.width h.height h.maximum pixels) whole
      (read_back h.width h.height h.maximum pixels (drop (h.width * h.height) behind)
      read.maximum_least
      read.maximum_most
      pixels_length
      pixels_within)

  -- the header that is read of it
  back_header :
      ◌≡◌ {A = Header} (header (file_output_after ticket file out scratch))
      (record { width = h.width; height = h.height; maximum = h.maximum; start = length (header_for h) })
  unfolding header_for source_page places_of
  back_header =
      header_back h.width h.height h.maximum pixels (file_output_after ticket file out scratch)
      (omega (arith, file_stands.from.width_most))
      (omega (arith, file_stands.from.height_most))
      reads_back

  pub told_back :
      pgm.reading (file_output_after ticket file out scratch)
      ≡ Ok (record { width = h.width; height = h.height; maximum = h.maximum; start = length (header_for h) })
  unfolding pgm.reading giving
  told_back = ap₂ giving reads_back.answered back_header

  -- and where its page stands
  pub place_back : source_page (places_of (header (file_output_after ticket file out scratch))) ≡ to
  unfolding source_page output_page places_of header_for
  place_back = ap (λ (found : Header). source_page (places_of found)) back_header
