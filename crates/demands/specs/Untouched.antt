-- What a job leaves alone. Document 01: "A refusal also returns work 0 and leaves every byte of output and scratch
-- unwritten." "Only these first bytes may be used; they hold zero at the end of a finished job. Later scratch bytes
-- keep their values."
-- Assumes nothing.
use Rattle.std.specs.Prelude.{◌≡◌, List, ℕ, ◌≤◌, ◌<◌, length, get_or}
use Rattle.refusal.specs.Answer.{number_of, work_in, done_with}
use Rattle.ticket.specs.Reading.{shown}
use Rattle.placement.specs.Placement.{byte_of, output_page}
use Rattle.placement.specs.declared.Placement.{Placement}
use Rattle.placement.specs.declared.Placements.{Placements}
use Rattle.judging.specs.Pages.{job_scratch}
use Rattle.job.specs.Job.{answer, lengths, output_after, scratch_after}

-- byte i of a tray is the byte of no pixel of the page
unfoldable pub OffPage : Placement → ℕ → Type 0
OffPage p i = (c r : ℕ) → c < p.width → r < p.height → i ≡ byte_of p c r → ⊥

-- the job is refused: its answer has a refusal's number
abbrev pub IsRefused : List ℕ → Placements → List ℕ → List ℕ → List ℕ → Type 0
IsRefused ticket p source out scratch = number_of (answer ticket p (lengths source out scratch)) ≡ 0 → ⊥

-- Every job, finished or refused: a byte of the output tray outside the page keeps its value,
abbrev pub OutputKept : Type 0
OutputKept =
    (ticket : List ℕ) (p : Placements) (source out scratch : List ℕ) (i : ℕ) → OffPage (output_page p) i
    → get_or (output_after ticket p source out scratch) i 0 ≡ get_or out i 0

-- and the tray keeps its length.
abbrev pub OutputLength : Type 0
OutputLength =
    (ticket : List ℕ) (p : Placements) (source out scratch : List ℕ)
    → length (output_after ticket p source out scratch) ≡ length out

-- Every job: "Later scratch bytes keep their values.",
abbrev pub ScratchKept : Type 0
ScratchKept =
    (ticket : List ℕ) (p : Placements) (source out scratch : List ℕ) (i : ℕ) → job_scratch (shown ticket) p ≤ i
    → get_or (scratch_after ticket p source out scratch) i 0 ≡ get_or scratch i 0

-- and the scratch keeps its length.
abbrev pub ScratchLength : Type 0
ScratchLength =
    (ticket : List ℕ) (p : Placements) (source out scratch : List ℕ)
    → length (scratch_after ticket p source out scratch) ≡ length scratch

-- A finished job: "they hold zero at the end of a finished job".
abbrev pub ScratchZero : Type 0
ScratchZero =
    (ticket : List ℕ) (p : Placements) (source out scratch : List ℕ) (work : ℕ)
    → answer ticket p (lengths source out scratch) ≡ done_with work
    → (i : ℕ) → i < job_scratch (shown ticket) p
    → get_or (scratch_after ticket p source out scratch) i 0 ≡ 0

-- A refused job "leaves every byte of output ..
abbrev pub RefusedOutput : Type 0
RefusedOutput =
    (ticket : List ℕ) (p : Placements) (source out scratch : List ℕ) → IsRefused ticket p source out scratch
    → output_after ticket p source out scratch ≡ out

-- .. and scratch unwritten"
abbrev pub RefusedScratch : Type 0
RefusedScratch =
    (ticket : List ℕ) (p : Placements) (source out scratch : List ℕ) → IsRefused ticket p source out scratch
    → scratch_after ticket p source out scratch ≡ scratch

-- and "returns work 0".
abbrev pub RefusedWork : Type 0
RefusedWork =
    (ticket : List ℕ) (p : Placements) (source out scratch : List ℕ) → IsRefused ticket p source out scratch
    → work_in (answer ticket p (lengths source out scratch)) ≡ 0
