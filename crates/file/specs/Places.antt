-- Where the page of a P5 file stands, in the file and in what is given back.
-- Assumes nothing.
use Rattle.std.specs.Prelude.{ℕ, ◌+◌, ◌*◌, List, ◌++◌, length, drop}
use Rattle.placement.specs.declared.Placements.{Placements}
use Rattle.heading.specs.Writing.{header_of}
use Rattle.pgm.specs.declared.Header.{Header}

-- the header that is written: the sides and the maximum that were read
unfoldable pub header_for : Header → List ℕ
header_for h = header_of h.width h.height h.maximum

-- "its page stands at the pixels' start with stride w"; "header and page are written from the output's first byte on"
unfoldable pub places_of : Header → Placements
places_of h =
    record {
      width = h.width;
      height = h.height;
      source = record { offset = h.start; stride = h.width };
      output = record { offset = length (header_for h); stride = h.width };
    }

-- the length of the file that is written
unfoldable pub file_length : Header → ℕ
file_length h = length (header_for h) + h.width * h.height

-- a tray with this header at its first byte
unfoldable pub headed : List ℕ → List ℕ → List ℕ
headed header tray = header ++ drop (length header) tray
