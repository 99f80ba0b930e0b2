-- The formats' properties, and the bytes that name a layer's format. Definitions only.
use Rattle.std.specs.Prelude.{ℕ, Bool, true, false, cond, eqb, Ok, Err}
use Rattle.refusals.specs.Said.{Said}
use Rattle.refusals.specs.declared.refusal.Refusal.TheVariants.{Unknown}
use Rattle.layouts.specs.declared.format.Format32.{Format32}
use Rattle.layouts.specs.declared.format.Format32.TheVariants.{Q40, Q40Ggml, Q50, Q80, Iq4Nl}
use Rattle.layouts.specs.declared.format.FormatK.{FormatK}
use Rattle.layouts.specs.declared.format.FormatK.TheVariants.{Q4K, Q5K, Q6K}
use Rattle.layouts.specs.declared.format.Format.{Format}
use Rattle.layouts.specs.declared.format.Format.TheVariants.{Of32, OfK}

-- Q4_0, in either order: 18 bytes; Q5_0: 22 bytes; Q8_0: 34 bytes; IQ4_NL: 18 bytes
abbrev pub bytes32 : Format32 → ℕ
bytes32 Q40 = 18
bytes32 Q40Ggml = 18
bytes32 Q50 = 22
bytes32 Q80 = 34
bytes32 Iq4Nl = 18

-- Q4_K: 144 bytes; Q5_K: 176 bytes; Q6_K: 210 bytes
abbrev pub bytes_k : FormatK → ℕ
bytes_k Q4K = 144
bytes_k Q5K = 176
bytes_k Q6K = 210

-- whether a K format has minimums
abbrev pub has_minimums : FormatK → Bool
has_minimums Q4K = true
has_minimums Q5K = true
has_minimums Q6K = false

-- how many places of a K format have one scale: the 32 of a sub-block, which has a minimum too, or the 16 of a run
abbrev pub run_length : FormatK → ℕ
run_length f = cond (has_minimums f) 32 16

-- how many bytes a block has
abbrev pub block_bytes : Format → ℕ
block_bytes (Of32 f) = bytes32 f
block_bytes (OfK f) = bytes_k f

-- how many values a block has
abbrev pub block_values : Format → ℕ
block_values (Of32 f) = 32
block_values (OfK f) = 256

-- the format that a layer's format byte names: 4 is Q4_K, 5 is Q5_K, 6 is Q6_K, and any other byte is refused with 12
unfoldable pub format_named : ℕ → Said FormatK
format_named byte =
    cond (eqb byte 4) (Ok Q4K) (cond (eqb byte 5) (Ok Q5K) (cond (eqb byte 6) (Ok Q6K) (Err Unknown)))
