-- `block::scale_of` meets its contract: both orders of Q4_0 have one, Q8_0 its own, and IQ4_NL's is given. Assumes nothing.
use mathlib.Core.Path.{◌≡◌, refl}
use mathlib.Core.List.{List}
use mathlib.Core.Logic.{◌⊎◌, ⊎_elim}
use lib.Ieee.{Float, of_bits, neg}
use Rattle.quantizers.specs.Blocks.{scale_q40, scale_of}
use Rattle.quantizers.specs.declared.target.Target.{Target}
use Rattle.quantizers.specs.declared.target.Target.TheVariants.{Q40, Q40Ggml, Q80, Iq4Nl}
use Rattle.quantizers.proofs.block.scale_of.Goals as goal

-- the arm of both orders of Q4_0
of_q40 : (t : Target) (xs : List Float) → (t ≡ Q40) ⊎ (t ≡ Q40Ggml) → scale_q40 xs ≡ scale_of t xs
unfolding scale_of
of_q40 Q40 xs h = refl
of_q40 Q40Ggml xs h = refl
of_q40 Q80 xs h = absurd (⊎_elim (λ e. cc) (λ e. cc) h)
of_q40 (Iq4Nl s) xs h = absurd (⊎_elim (λ e. cc) (λ e. cc) h)

pub returns-in-Q40 : goal.returns-in-Q40
unfolding neg of_bits
returns-in-Q40 c = rw (← of_q40 c.args.target c.args.x.now c.in-Q40.is, c.largest_value.ensures, c.requires)

pub returns-in-Q80 : goal.returns-in-Q80
unfolding scale_of
returns-in-Q80 c = rw (c.scale_q8.ensures, c.in-Q80.is)

pub returns-in-Iq4Nl : goal.returns-in-Iq4Nl
unfolding scale_of
returns-in-Iq4Nl c = rw (c.f16_to_f32.ensures, c.in-Iq4Nl.is)
