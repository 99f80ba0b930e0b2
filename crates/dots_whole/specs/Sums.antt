-- Document 01, "Readings to small integers": the whole-number sums of a packed block and an activation block.
-- Definitions only.
use Rattle.std.specs.Prelude.{ℕ, List, ℤ, pos, ◌*ℤ◌}
use Rattle.layouts.specs.K.{quant_k, scale_k, minimum_q4k}
use Rattle.layouts.specs.declared.format.FormatK.{FormatK}
use Rattle.dots_activation.specs.Whole.{elem, sum_ℤ}

-- scale times q times activation quant at place i
abbrev pub weighed_at : FormatK → List ℕ → (ℕ → ℤ) → List ℤ → ℕ → ℤ
weighed_at f w q qs i = scale_k f w i *ℤ (q i *ℤ elem qs i)

-- A and B: the sum of scale times q times activation quant over the places below n
abbrev pub whole_sum : FormatK → List ℕ → List ℤ → ℕ → ℤ
whole_sum f w qs n = sum_ℤ (weighed_at f w (quant_k f w) qs) n

-- M uses all eight sums
abbrev pub minimum_sum : List ℕ → List ℤ → ℤ
minimum_sum w sums = sum_ℤ (λ (j : ℕ). pos (minimum_q4k w j) *ℤ elem sums j) 8
