-- Before the first record what is kept is as answering relies on: the layer of no readings and no outputs has no weights, and nothing is counted. Assumes nothing.
use Prim.Native.Nat.{◌+◌}
use mathlib.Core.Path.{◌≡◌, refl, sym, subst}
use lib.Dec.{lit≤}
use Rattle.layouts.specs.Formats.{format_named}
use Rattle.layouts.specs.declared.format.FormatK.TheVariants.{Q4K}
use Rattle.fillin_window.specs.Windows.{Sound}
use Rattle.fillin_answer.specs.declared.state.State.{State}
use Rattle.fillin_answer.specs.Kept.{begun}

begun_sound : Sound begun.layer begun.weight_bytes
unfolding format_named
begun_sound = record { known = Q4K; named = refl; inputs = lit≤ tt; blocks = refl; outputs = lit≤ tt; weighed = refl }

pub begins : (st : State) → st ≡ begun → Sound st.layer st.weight_bytes × (st.offset ≡ 0) × (st.answered + st.refused ≡ 0)
begins st e = subst (λ (s : State). Sound s.layer s.weight_bytes × (s.offset ≡ 0) × (s.answered + s.refused ≡ 0)) (sym e) (begun_sound, refl, refl)
