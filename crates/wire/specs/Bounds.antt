-- Numbers that bound the work (01, under that heading). Where only a most is given there is at least one, but for QRS complexes, of which
-- there may be none.
use Rattle.std.specs.Prelude.{ℕ}

-- the bytes of a record
abbrev pub fewest_bytes : ℕ
fewest_bytes = 142

abbrev pub most_bytes : ℕ
most_bytes = 1048576

-- the pointers of Section 0
abbrev pub fewest_pointers : ℕ
fewest_pointers = 12

abbrev pub most_pointers : ℕ
most_pointers = 64

-- code tables, and structures of one
abbrev pub most_tables : ℕ
most_tables = 8

abbrev pub most_structures : ℕ
most_structures = 64

-- leads
abbrev pub most_leads : ℕ
most_leads = 32

-- samples of a lead or a beat
abbrev pub most_samples : ℕ
most_samples = 65536

-- QRS complexes
abbrev pub most_qrs : ℕ
most_qrs = 1024

-- the bytes of a lead's stream: as many as the two bytes of its count can say (01, Leads and samples; 01, Refusal numbers, row 16)
abbrev pub most_stream_bytes : ℕ
most_stream_bytes = 65535
