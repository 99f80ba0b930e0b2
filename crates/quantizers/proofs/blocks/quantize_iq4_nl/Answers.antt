-- `blocks::quantize_iq4_nl` meets its contract: what `quantize` says of a scale that is given, but for what was lost. Assumes nothing.
use mathlib.Core.Path.{◌≡◌, refl, ap, ◌∙◌}
use mathlib.Core.List.{List}
use Prim.{Unit}
use Prim.Native.Nat.{ℕ}
use lib.Ieee.{Float}
use lib.ListN.{length}
use Rattle.refusals.specs.Said.{Said, passed_on}
use Rattle.refusals.specs.Refusals.{or_else, carried_out}
use Rattle.std.proofs.Common.{Ok, Err}
use Rattle.quantizers.specs.Says.{quantize_refusal, quantize_says, quantize_given_says}
use Rattle.quantizers.specs.declared.lost.Lost.{Lost}
use Rattle.quantizers.specs.declared.target.Target.TheVariants.{Iq4Nl}
use Rattle.quantizers.proofs.blocks.quantize_iq4_nl.Goals as goal

-- what a quantizer says and leaves, but for what was lost
abbrev but_lost : Said Lost × List ℕ → Said (Unit {0}) × List ℕ
but_lost p = (passed_on p.0, p.1)

either : (r : Said (Unit {0})) (l : Lost) (new old : List ℕ) → but_lost (carried_out (or_else r (Ok l)) new old) ≡ carried_out r new old
unfolding or_else carried_out
either (Ok tt) l new old = refl
either (Err why) l new old = refl

given_says : (s : ℕ) (xs : List Float) (out : List ℕ) → but_lost (quantize_says (Iq4Nl s) xs out) ≡ quantize_given_says s xs out
unfolding quantize_says quantize_given_says
given_says s xs out = either (quantize_refusal (Iq4Nl s) (length xs) (length out)) _ _ _

pub returns : goal.returns
returns c = ap (λ (r : Said (Unit {0})). (r, c.quantize.new.out)) c.passed_on.ensures ∙ ap but_lost c.quantize.ensures ∙ given_says _ _ _
