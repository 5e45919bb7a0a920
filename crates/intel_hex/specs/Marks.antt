-- The characters and numbers of section 11 of docs/RULES.md, a name each.
use Rattle.std.specs.Prelude.{ℕ}

-- a record's first character; "line feed ends", "CR LF"
abbrev pub colon : ℕ
colon = 58

abbrev pub line_feed : ℕ
line_feed = 10

abbrev pub carriage_return : ℕ
carriage_return = 13

-- "type other than 00, 01, 04": data, the end record, an extended linear address record
abbrev pub data_type : ℕ
data_type = 0

abbrev pub end_type : ℕ
end_type = 1

abbrev pub upper_type : ℕ
upper_type = 4

-- where a record has its data, behind length, address (two) and type; how many of its bytes are not data, the sum with these
abbrev pub data_at : ℕ
data_at = 4

abbrev pub frame_length : ℕ
frame_length = 5

-- an address is an upper half, from the last address record, and a lower half, the data record's own
abbrev pub half : ℕ
half = 65536

-- "an extended linear address record (type 04) for 0x2000"
abbrev pub state_upper : ℕ
state_upper = 0x2000

-- "data records of 16 bytes": 17,472 bytes are 1,092 of them
abbrev pub piece_length : ℕ
piece_length = 16

abbrev pub piece_count : ℕ
piece_count = 1092

-- a line of a record without data, its line feed included; the lines of the address record and of a data record
abbrev pub end_line : ℕ
end_line = 12

abbrev pub upper_line : ℕ
upper_line = 16

abbrev pub data_line : ℕ
data_line = 44

-- "48,076 bytes": 16 for the address record, 44 for each of 1,092 data records, 12 for the end record
abbrev pub text_length : ℕ
text_length = 48076
