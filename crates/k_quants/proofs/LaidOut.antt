-- The whole numbers of a block that were laid out, bytes or signed ones, are those of its format. Assumes nothing.
use mathlib.Core.Path.{◌≡◌, sym, ap, ◌∙◌}
use mathlib.Core.List.{List}
use Prim.Native.Nat.{ℕ, ◌<◌}
use lib.IntN.{ℤ, pos}
use lib.ListN.{length, get_or}
use Rattle.memory.specs.Lists.{table}
use Rattle.memory.proofs.Filled.{length_table, get_or_table}
use Rattle.layouts.specs.K.{quant_k}
use Rattle.layouts.specs.declared.format.FormatK.{FormatK}

-- place i of them, in the format g that the code was told of
pub laid_out_at : {A : Type 0} {g : FormatK} {p : ℕ → A} {q : List A} (f : FormatK) (bs : List ℕ) (whole : A → ℤ) (z : A) → g ≡ f → q ≡ table p 256 → ((i : ℕ) → whole (p i) ≡ quant_k f bs i)
    → (i : ℕ) → i < 256 → whole (get_or q i z) ≡ quant_k g bs i
laid_out_at {p = p} f bs whole z e Q W i h = rw Q (ap whole (get_or_table p 256 i z h)) ∙ W i ∙ ap (λ (k : FormatK). quant_k k bs i) (sym e)

-- bytes that are all of them
abbrev pub Laid : FormatK → List ℕ → List ℕ → Type 0
Laid g bs q = (length q ≡ 256) × ((i : ℕ) → i < 256 → pos (get_or q i 0) ≡ quant_k g bs i)

pub laid : {g : FormatK} {p : ℕ → ℕ} {q : List ℕ} (f : FormatK) (bs : List ℕ) → g ≡ f → q ≡ table p 256 → ((i : ℕ) → pos (p i) ≡ quant_k f bs i) → Laid g bs q
laid {p = p} f bs e Q W = (rw Q (length_table p 256), laid_out_at f bs pos 0 e Q W)
