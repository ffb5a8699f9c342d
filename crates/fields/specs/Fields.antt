-- Document 01, 'The ticket': "Fields of a one-byte tag, a two-byte length and the value; numbers big-endian. Tags 1
-- to 6 stand once each in this order, then 0 to 64 fields of tag 7." The first six fields have fixed lengths, so
-- their heads have fixed places; the boxes are found by a walk from head to head, each behind the field before it,
-- whatever that field's length. A byte past the end reads as 0; no answer (ticket, Judging) depends on one.
-- Assumes nothing.
use Rattle.std.specs.Prelude.{ℕ, ◌+◌, ◌-◌, ◌*◌, cond, List, get_or, ltb, ℤ, pos, negsuc}

-- a one-byte tag and a two-byte length
abbrev pub head_bytes : ℕ
head_bytes = 3

unfoldable pub byte_at : List ℕ → ℕ → ℕ
byte_at s at = get_or s at 0

-- "numbers big-endian"
unfoldable pub number_at : List ℕ → ℕ → ℕ
number_at s at = 256 * byte_at s at + byte_at s (at + 1)

-- "signed 16-bit two's complement"
unfoldable pub signed16 : ℕ → ℤ
signed16 n = cond (ltb n 32768) (pos n) (negsuc (65535 - n))

unfoldable pub signed_at : List ℕ → ℕ → ℤ
signed_at s at = signed16 (number_at s at)

-- where the fields' heads stand: the head before, three bytes, and its value
abbrev pub operation_head : ℕ
operation_head = 0

abbrev pub line_head : ℕ
line_head = 4

abbrev pub vector_head : ℕ
vector_head = 8

abbrev pub length_head : ℕ
length_head = 15

abbrev pub origin_head : ℕ
origin_head = 20

abbrev pub phase_head : ℕ
phase_head = 25

abbrev pub first_box : ℕ
first_box = 30

-- | 1 | 1 | operation: 1 erode, 2 dilate, 3 open, 4 close |
unfoldable pub operation_in : List ℕ → ℕ
operation_in s = byte_at s (operation_head + head_bytes)

-- | 2 | 1 | line: 1 connected (Bresenham), 2 periodic |
unfoldable pub line_in : List ℕ → ℕ
line_in s = byte_at s (line_head + head_bytes)

-- | 3 | 4 | vector dx, dy, signed 16-bit two's complement |
unfoldable pub dx_in : List ℕ → ℤ
dx_in s = signed_at s (vector_head + head_bytes)

unfoldable pub dy_in : List ℕ → ℤ
dy_in s = signed_at s (vector_head + head_bytes + 2)

-- | 4 | 2 | segment length L, 1 to 8192 |
unfoldable pub length_in : List ℕ → ℕ
length_in s = number_at s (length_head + head_bytes)

-- | 5 | 2 | origin o, below L |
unfoldable pub origin_in : List ℕ → ℕ
origin_in s = number_at s (origin_head + head_bytes)

-- | 6 | 2 | phase i: connected, below max(abs dx, abs dy); periodic, 0 |
unfoldable pub phase_in : List ℕ → ℕ
phase_in s = number_at s (phase_head + head_bytes)

-- behind a field's head and its value, whose length the head tells, the next head is due
unfoldable pub field_end : List ℕ → ℕ → ℕ
field_end s head = head + head_bytes + number_at s (head + 1)

-- "then 0 to 64 fields of tag 7"
abbrev pub most_boxes : ℕ
most_boxes = 64
