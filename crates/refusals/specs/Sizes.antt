-- Document 01's sizes. Definitions only.
use Rattle.std.specs.Prelude.{ℕ}

-- n and in_feat at most 131,072
abbrev pub most_in : ℕ
most_in = 131072

-- out_feat at most 65,536
abbrev pub most_out : ℕ
most_out = 65536

-- batch at most 1,024
abbrev pub most_batch : ℕ
most_batch = 1024

-- input of a block decoder or quantizer, and x of `canonical_chunk`, at most 131,072 floats ..
abbrev pub most_floats : ℕ
most_floats = 131072

-- .. or 16,777,216 bytes
abbrev pub most_bytes : ℕ
most_bytes = 16777216
