-- Document 01, 'Refusals and what they return': the column 'No.'; document 02: the refusals that its wishes add. One
-- more is ours, 100: the documents' refusals are 1 to 25.
-- Assumes nothing.
use Rattle.std.specs.Prelude.{ℕ}
use Rattle.refusal.specs.declared.Later as later
use Rattle.refusal.specs.declared.Later.TheVariants.{BadHeader, BadMaximum, BadPixel, TooManyJobs, PixelOffPage}
use Rattle.refusal.specs.declared.Later.TheVariants.{NumbersTooFew}
use Rattle.refusal.specs.declared.Refusal.{Refusal}
use Rattle.refusal.specs.declared.Refusal.TheVariants.{TicketEnds, WrongTag, WrongLength, Unknown}
use Rattle.refusal.specs.declared.Refusal.TheVariants.{TooManyBoxes, BadVector, BadLength, BadOrigin, BadPhase}
use Rattle.refusal.specs.declared.Refusal.TheVariants.{BadSides, SourceTooShort, OutputTooShort}
use Rattle.refusal.specs.declared.Refusal.TheVariants.{ScratchTooShort, BadBox, Later}

-- wish 1: "Refusals: 15, bad header or maximum 0 (sides are 10's); 16, maximum above 255; 17, pixel above the maximum
-- or too few pixels"; wish 3: "Refusals: 18, more than 256 jobs"; wish 4: "Refusals: 19, pixel off the page"
abbrev pub later_number : later.Later → ℕ
later_number BadHeader = 15
later_number BadMaximum = 16
later_number BadPixel = 17
later_number TooManyJobs = 18
later_number PixelOffPage = 19
later_number NumbersTooFew = 100

abbrev pub refusal_number : Refusal → ℕ
refusal_number TicketEnds = 1
refusal_number WrongTag = 2
refusal_number WrongLength = 3
refusal_number Unknown = 4
refusal_number TooManyBoxes = 5
refusal_number BadVector = 6
refusal_number BadLength = 7
refusal_number BadOrigin = 8
refusal_number BadPhase = 9
refusal_number BadSides = 10
refusal_number SourceTooShort = 11
refusal_number OutputTooShort = 12
refusal_number ScratchTooShort = 13
refusal_number BadBox = 14
refusal_number (Later one) = later_number one
