-- The outputs of a window, laid one behind the other. Assumes nothing.
use mathlib.Core.Path.{◌≡◌, refl, sym, ap, ◌∙◌}
use Prim.Native.Nat.{ℕ, ◌+◌, ◌*◌, ◌≤◌, ◌<◌, zero-le}
use native.Mathlib.Numerals.{add-one}
use native.Mathlib.Omega.{arith}
use mathlib.Core.List.{List, [], ◌∷◌, ◌++◌, append_assoc, append-nil}
use lib.Ieee.{Float, nan, binary32, to_bits}
use lib.ListN.{length, get_or, take, length-append}
use lib.Seq.{take_all, take-suc, length-take-le}
use Rattle.fillin_text.specs.Text.{laid, hex_field}
use Rattle.fillin_lines.specs.Lines.{output_fields}
use Rattle.fillin_text.proofs.Laid.{laid_behind, laid_nothing}
use Rattle.fillin_text.proofs.Hexadecimal.{length_hex_field}

output_fields_both : (ys zs : List Float) → output_fields (ys ++ zs) ≡ output_fields ys ++ output_fields zs
unfolding output_fields
output_fields_both [] zs = refl
output_fields_both (y ∷ ys) zs = rw (output_fields_both ys zs) (sym (append_assoc (hex_field (to_bits binary32 y)) (output_fields ys) (output_fields zs)))

pub length_output_fields : (ys : List Float) → length (output_fields ys) ≡ 9 * length ys
unfolding output_fields
length_output_fields [] = refl
length_output_fields (y ∷ ys) =
    let e = length-append (hex_field (to_bits binary32 y)) (output_fields ys) in
    omega (arith, e, length_hex_field (to_bits binary32 y), length_output_fields ys)

output_fields_more : (ys : List Float) (k : ℕ) → k < length ys → output_fields (take k ys) ++ hex_field (to_bits binary32 (get_or ys k nan)) ≡ output_fields (take (k + 1) ys)
unfolding output_fields
output_fields_more ys k h =
    let last : output_fields (get_or ys k nan ∷ []) ≡ hex_field (to_bits binary32 (get_or ys k nan)) = append-nil (hex_field (to_bits binary32 (get_or ys k nan))) in
    ap (λ (l : List ℕ). output_fields (take k ys) ++ l) (sym last)
    ∙ sym (output_fields_both (take k ys) (get_or ys k nan ∷ []))
    ∙ ap output_fields (sym (take-suc ys k nan h) ∙ ap (λ (j : ℕ). take j ys) (sym (add-one k)))

-- the first k outputs are laid from `a` on, and `at` is the place behind them
abbrev pub Shown : List ℕ → ℕ → List Float → List ℕ → ℕ → ℕ → Type 0
Shown xs a ys line at k = (line ≡ laid xs a (output_fields (take k ys))) × (at ≡ a + 9 * k) × (k ≤ length ys)

pub shown_none : (xs : List ℕ) (a : ℕ) (ys : List Float) → Shown xs a ys xs a 0
unfolding output_fields
shown_none xs a ys = (sym (laid_nothing xs a), omega arith, zero-le)

pub shown_more : (xs : List ℕ) (a : ℕ) (ys : List Float) (line next : List ℕ) (at behind k : ℕ) → a ≤ length xs → k < length ys → Shown xs a ys line at k
    → next ≡ laid line at (hex_field (to_bits binary32 (get_or ys k nan))) → behind ≡ at + 9 → Shown xs a ys next behind (k + 1)
shown_more xs a ys line next at behind k room h s p q =
    let text : List ℕ = hex_field (to_bits binary32 (get_or ys k nan)) in
    let n : length (take k ys) ≡ k = length-take-le k ys s.2 in
    let e : at ≡ a + length (output_fields (take k ys)) = omega (arith, length_output_fields (take k ys), s.1) in (
      p
          ∙ ap (λ (l : List ℕ). laid l at text) s.0
          ∙ laid_behind xs a (output_fields (take k ys)) text at room e
          ∙ ap (laid xs a) (output_fields_more ys k h),
      omega (arith, s.1),
      omega arith,
    )

pub shown_all : (xs : List ℕ) (a : ℕ) (ys : List Float) (line : List ℕ) (at k : ℕ) → length ys ≤ k → Shown xs a ys line at k
    → (line ≡ laid xs a (output_fields ys)) × (at ≡ a + length (output_fields ys))
shown_all xs a ys line at k h s =
    (s.0 ∙ ap (λ (l : List Float). laid xs a (output_fields l)) (take_all k ys h), omega (arith, length_output_fields ys, s.1, s.2))
