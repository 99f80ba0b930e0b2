-- `lost::count` meets its contract. Assumes nothing.
use mathlib.Core.Path.{◌≡◌, refl, sym, ap}
use mathlib.Core.Logic.{◌⊎◌, ⊎_elim}
use Rattle.halves.specs.declared.how.How.{How}
use Rattle.halves.specs.declared.how.How.TheVariants.{Exact, Cut, Flushed, SentToInfinity}
use Rattle.quantizers.specs.Lost.{counted}
use Rattle.quantizers.specs.declared.lost.Lost.{Lost}
use Rattle.quantizers.proofs.lost.count.Goals as goal

-- the arm of those that are exact or cut
none_lost : (l : Lost) (h : How) → (h ≡ Exact) ⊎ (h ≡ Cut) → l ≡ counted l h
none_lost l Exact e = refl
none_lost l Cut e = refl
none_lost l Flushed e = absurd (⊎_elim (λ f. cc) (λ f. cc) e)
none_lost l SentToInfinity e = absurd (⊎_elim (λ f. cc) (λ f. cc) e)

pub returns-in-Exact : goal.returns-in-Exact
returns-in-Exact c = none_lost c.args.lost c.args.how c.in-Exact.is

pub returns-in-Flushed : goal.returns-in-Flushed
returns-in-Flushed c = ap (counted c.args.lost) (sym c.in-Flushed.is)

pub returns-in-SentToInfinity : goal.returns-in-SentToInfinity
returns-in-SentToInfinity c = ap (counted c.args.lost) (sym c.in-SentToInfinity.is)
