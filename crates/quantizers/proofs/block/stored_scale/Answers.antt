-- `block::stored_scale` meets its contract: a scale that was picked is narrowed, and one that is given stays. Assumes nothing.
use mathlib.Core.Path.{◌≡◌, refl, ap, ◌∙◌}
use mathlib.Core.Logic.{◌⊎◌, ⊎_elim}
use lib.Ieee.{Float, binary32, to_bits}
use Rattle.halves.specs.How.{narrowing}
use Rattle.quantizers.specs.Blocks.{stored_scale}
use Rattle.quantizers.specs.declared.target.Target.{Target}
use Rattle.quantizers.specs.declared.target.Target.TheVariants.{Q40, Q40Ggml, Q80, Iq4Nl}
use Rattle.quantizers.proofs.block.stored_scale.Goals as goal

-- the arm of those that pick a scale
picked : (t : Target) (d : Float) → (t ≡ Q40) ⊎ ((t ≡ Q40Ggml) ⊎ (t ≡ Q80)) → narrowing (to_bits binary32 d) ≡ stored_scale t d
unfolding stored_scale
picked Q40 d h = refl
picked Q40Ggml d h = refl
picked Q80 d h = refl
picked (Iq4Nl s) d h = absurd (⊎_elim (λ e. cc) (⊎_elim (λ e. cc) (λ e. cc)) h)

pub returns-in-Q40 : goal.returns-in-Q40
returns-in-Q40 c = c.f32_to_f16.ensures ∙ ap narrowing c.bits_of.ensures ∙ picked c.args.target c.args.d c.in-Q40.is

pub returns-in-Iq4Nl : goal.returns-in-Iq4Nl
unfolding stored_scale
returns-in-Iq4Nl c = rw c.in-Iq4Nl.is
