-- What the contracts of the inner functions cite: the terms of a block whose whole numbers are laid out. Definitions
-- only.
use Rattle.std.specs.Prelude.{ℕ, List, ℤ, pos, get_or, Float}
use Rattle.std.specs.Float.{nan, binary32}
use Rattle.std.specs.Float.Ieee.{mul, sub, of_int}
use Rattle.layouts.specs.K.{value_of}
use Rattle.layouts.specs.declared.format.FormatK.{FormatK}

-- the terms of a block of format f, whose whole number at place i is q i: reading i multiplied by its value
abbrev pub block_terms : FormatK → List Float → List ℕ → (ℕ → ℤ) → ℕ → Float
block_terms f x bs q i = mul binary32 (get_or x i nan) (value_of f bs i (q i))

-- the terms of a sub-block over its whole numbers q, d being its product d*scale and m its product dmin*minimum:
-- reading i multiplied by d*q - m
abbrev pub sub_block_terms : List Float → List ℕ → Float → Float → ℕ → Float
sub_block_terms x q d m i = mul binary32 (get_or x i nan)
    (sub binary32 (mul binary32 d (of_int binary32 (pos (get_or q i 0)))) m)

-- the terms of a run over its whole numbers q, d being its product d*scale: reading i multiplied by d*q
abbrev pub run_terms : List Float → List ℤ → Float → ℕ → Float
run_terms x q d i = mul binary32 (get_or x i nan) (mul binary32 d (of_int binary32 (get_or q i (pos 0))))
