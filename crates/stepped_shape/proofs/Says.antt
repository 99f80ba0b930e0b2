-- What a call says by its layer's format byte. Assumes nothing.
use mathlib.Core.Path.{◌≡◌, sym, ap, ◌∙◌}
use Rattle.std.proofs.Common.{Ok, Err}
use Rattle.std.specs.Result.{IsErrAnd}
use Rattle.refusals.specs.declared.refusal.Refusal.{Refusal}
use Rattle.refusals.specs.Said.{Said}
use Rattle.refusals.specs.Refusals.{carried_out}
use Rattle.refusals.proofs.Laws.{carried_value, carried_refused, carried_said, handed_on}
use Rattle.layouts.specs.declared.format.FormatK.{FormatK}
use Rattle.stepped_shape.specs.Refusals.{by_format}

module _ {A M : Type 0} {named : Said FormatK} where
  -- a byte that names no format: its refusal is handed on
  pub by_unknown : {r : Said A} {why : Refusal} (old : M) (says : FormatK → Said A × M) → Err why ≡ named → IsErrAnd r (λ again. again ≡ why) → (r, old) ≡ by_format named old says
  unfolding by_format
  by_unknown old says e h = ap (λ r. (r, old)) (handed_on h) ∙ ap (λ k. by_format k old says) e

  -- and one that names the format f
  pub by_known : {f : FormatK} (old : M) (says : FormatK → Said A × M) → Ok f ≡ named → says f ≡ by_format named old says
  unfolding by_format
  by_known old says e = ap (λ k. by_format k old says) e

-- what the call says of the format f that the byte names: carried out, or refused
module _ {A M : Type 0} {named : Said FormatK} {f : FormatK} (said : FormatK → Said A) (new : FormatK → M) (old : M) (is : named ≡ Ok f) where
  known : by_format named old (λ k. carried_out (said k) (new k) old) ≡ carried_out (said f) (new f) old
  known = sym (by_known old (λ k. carried_out (said k) (new k) old) (sym is))

  pub known_value : (a : A) → said f ≡ Ok a → by_format named old (λ k. carried_out (said k) (new k) old) ≡ (Ok a, new f)
  known_value a e = known ∙ carried_value (said f) (new f) old a e

  pub known_refused : (why : Refusal) → said f ≡ Err why → by_format named old (λ k. carried_out (said k) (new k) old) ≡ (Err why, old)
  known_refused why e = known ∙ carried_refused (said f) (new f) old why e

  pub known_said : (by_format named old (λ k. carried_out (said k) (new k) old)).0 ≡ said f
  known_said = ap (λ (p : Said A × M). p.0) known ∙ carried_said (said f) (new f) old
