-- The exact reach, of files: the two trays that differ in one pixel, each behind a header. Assumes nothing.
use mathlib.Core.Path.{◌≡◌, sym, ap, ◌∙◌, subst}
use mathlib.Core.Bool.{true}
use mathlib.Core.Logic.{by_cases, ◌≢◌}
use mathlib.Core.List.{List, [], append-nil}
use Prim.Native.Nat.{ℕ, ◌+◌, ◌*◌, ◌≤◌}
use native.Mathlib.Decide.{dec_lt}
use native.Mathlib.Omega.{arith}
use lib.ListN.{length, get_or, drop, length-drop, get_or-append}
use lib.Seq.{get_or-drop}
use Rattle.refusal.specs.Answer.{is_done}
use Rattle.ticket.specs.Laws.{Allowed}
use Rattle.ticket.specs.declared.Ticket.{Ticket}
use Rattle.placement.specs.Placement.{byte_of, pixel_in, longest_side, Placed, source_page}
use Rattle.placement.proofs.Laws.{byte_from}
use Rattle.placement.specs.declared.Placement.{Placement}
use Rattle.heading.specs.Writing.{header_of, file_of}
use Rattle.pgm.specs.ReadBack.{ReadsBack, read_back, header_back}
use Rattle.pgm.specs.Reading.{judged}
use Rattle.pgm.specs.declared.Header.{Header}
use Rattle.job.specs.Job.{finished_with}
use Rattle.file.specs.FileJob.{header, file_page}
use Rattle.file.proofs.Laws.{rows_end, length_headed, headed_behind}
use Rattle.file.specs.Places.{places_of, headed}
use Rattle.demands.specs.Exact.{Matters}
use Rattle.demands.specs.Files.{as_written, FileMatters, FileExact}
use Rattle.demands.specs.Reach.{AgreeNear}
use Rattle.demands.proofs.Exact.{exact_reach}
use Rattle.demands.proofs.Reach.{finished_same}

module _ (width height maximum : ℕ) where
  abbrev front : List ℕ
  front = header_of width height maximum

  abbrev h : Header
  h = as_written width height maximum

  abbrev p : Placement
  p = source_page (places_of h)

  abbrev size : ℕ
  size = length front + width * height

  -- a byte of the page stands behind the header
  page_behind : (c r : ℕ) → length front ≤ byte_of p c r
  unfolding source_page places_of
  page_behind c r = byte_from p c r

  page_placed : 1 ≤ width → width ≤ longest_side → 1 ≤ height → height ≤ longest_side → Placed p size
  unfolding source_page places_of
  page_placed wide width-to high height-to =
      record {
        width_least = wide;
        width_most = width-to;
        height_least = high;
        height_most = height-to;
        stride_least = omega arith;
        stride_most = omega arith;
        fitting = omega (arith, rows_end (length front) width height high);
      }

  -- ---- a tray of zeros and ones behind the header

  module _ (wide : width ≤ longest_side) (high : height ≤ longest_side) (least : 1 ≤ maximum) (most : maximum ≤ 255)
      (tray : List ℕ) (long : length tray ≡ size) (small : (i : ℕ) → get_or tray i 0 ≤ 1) where
    back : ReadsBack width height maximum (drop (length front) tray) (headed front tray)
    unfolding headed file_of
    back =
        subst (ReadsBack width height maximum (drop (length front) tray))
        (append-nil (headed front tray))
        (read_back width height maximum (drop (length front) tray) [] least most
        (rw length-drop (omega arith))
        (λ i i-in. omega (arith, small (length front + i), get_or-drop (length front) tray i 0)))

    is_read : is_done (judged (headed front tray)) ≡ true
    unfolding is_done
    is_read = ap is_done back.answered

    header_is : header (headed front tray) ≡ h
    header_is =
        header_back width height maximum (drop (length front) tray) (headed front tray) (omega arith) (omega arith) back

    -- its page is finished as the tray's
    page_is :
        (t : Ticket) → Allowed t → (c r : ℕ)
        → file_page t (headed front tray) c r ≡ finished_with maximum t p tray c r
    unfolding file_page AgreeNear pixel_in
    page_is t ok c r =
        ap (λ (found : Header). finished_with found.maximum t (source_page (places_of found)) (headed front tray) c r)
        header_is
        ∙ finished_same t p (headed front tray) tray c r
        (λ c' r' near shows. headed_behind front tray (byte_of p c' r') (page_behind c' r'))
        maximum
        ok

  -- two trays that are the same but for one byte behind the header
  headed_same :
      (one two : List ℕ) (at : ℕ) → ((i : ℕ) → i ≢ at → get_or one i 0 ≡ get_or two i 0)
      → (i : ℕ) → i ≢ at → get_or (headed front one) i 0 ≡ get_or (headed front two) i 0
  unfolding headed
  headed_same one two at same i other =
      by_cases (dec_lt i (length front))
      (λ low.
      get_or-append front (drop (length front) one) 0 i low
      ∙ sym (get_or-append front (drop (length front) two) 0 i low))
      (λ past.
      headed_behind front one i (omega arith) ∙ same i other ∙ sym (headed_behind front two i (omega arith)))

module _ (t : Ticket) (width height maximum c r : ℕ) (ok : Allowed t) (wide : width ≤ longest_side)
    (high : height ≤ longest_side) (least : 1 ≤ maximum) (most : maximum ≤ 255) (c' r' : ℕ)
    (x : Matters t (p width height maximum) (size width height maximum) c r c' r') where
  abbrev before : List ℕ
  before = header_of width height maximum

  one_header : header (headed before x.one) ≡ h width height maximum
  one_header = header_is width height maximum wide high least most x.one x.one_length x.one_small

  two_header : header (headed before x.two) ≡ h width height maximum
  two_header = header_is width height maximum wide high least most x.two x.two_length x.two_small

  matters : FileMatters t (h width height maximum) c r c' r'
  matters =
      record {
        one = headed before x.one;
        two = headed before x.two;
        read = record {
          one = is_read width height maximum wide high least most x.one x.one_length x.one_small;
          two = is_read width height maximum wide high least most x.two x.two_length x.two_small;
          headers = one_header ∙ sym two_header;
        };
        header_is = one_header;
        same_length =
            length_headed before x.one (omega (arith, x.one_length))
            ∙ x.one_length
            ∙ sym x.two_length
            ∙ sym (length_headed before x.two (omega (arith, x.two_length)));
        same_elsewhere = headed_same width height maximum x.one x.two _ x.same_elsewhere;
        results_differ =
            λ e.
            x.results_differ maximum
            (sym (page_is width height maximum wide high least most x.one x.one_length x.one_small t ok c r)
            ∙ e
            ∙ page_is width height maximum wide high least most x.two x.two_length x.two_small t ok c r);
      }

pub file_exact : FileExact
file_exact t width height maximum c r ok operation wide width-to high height-to least most clear c' r' near =
    let placed = page_placed width height maximum wide width-to high height-to in
    matters t width height maximum c r ok width-to height-to least most c' r'
    (exact_reach t (p width height maximum) (size width height maximum) c r ok operation placed clear c' r' near)
