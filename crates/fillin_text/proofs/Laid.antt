-- Text laid into a line, piece behind piece and byte by byte. Assumes nothing.
use mathlib.Core.Path.{◌≡◌, sym, ap, ◌∙◌}
use Prim.Native.Nat.{ℕ, ◌+◌, ◌≤◌, zero-le}
use native.Mathlib.Nat.{add-zero, zero-add}
use native.Mathlib.Omega.{arith}
use mathlib.Core.List.{List, [], ◌++◌, append_assoc}
use lib.ListN.{length, take, drop, length-append, length-drop, take-append-drop}
use lib.Seq.{length-take-le, take_at, drop_at, drop-drop}
use Rattle.fillin_text.specs.Text.{laid}

-- ---- one piece
pub length_laid : (xs : List ℕ) (at : ℕ) (text : List ℕ) → at + length text ≤ length xs → length (laid xs at text) ≡ length xs
unfolding laid
length_laid xs at text h =
    let a : at ≤ length xs = omega arith in
    simp (length-append, length-drop, length-take-le at xs a) (omega arith)

pub laid_nothing : (xs : List ℕ) (at : ℕ) → laid xs at [] ≡ xs
unfolding laid
laid_nothing xs at = rw add-zero (take-append-drop at xs)

-- at the front, the text stands before the rest
pub laid_front : (xs text : List ℕ) → laid xs 0 text ≡ text ++ drop (length text) xs
unfolding laid
laid_front xs text = rw zero-add

-- so the text is what a buffer holds up to the text's length
pub text_in_front : (xs text ys : List ℕ) (n : ℕ) → ys ≡ laid xs 0 text → n ≡ length text → take n ys ≡ text
text_in_front xs text ys n p q = ap (take n) (p ∙ laid_front xs text) ∙ take_at text (drop (length text) xs) n (sym q)

-- ---- a piece behind a piece: both are one text
pub laid_behind : (xs : List ℕ) (at : ℕ) (t u : List ℕ) (b : ℕ) → at ≤ length xs → b ≡ at + length t → laid (laid xs at t) b u ≡ laid xs at (t ++ u)
unfolding laid
laid_behind xs at t u b h e =
    let rest : List ℕ = drop (at + length t) xs in
    let whole : take at xs ++ (t ++ rest) ≡ (take at xs ++ t) ++ rest = sym (append_assoc (take at xs) t rest) in
    let n : length (take at xs ++ t) ≡ b = length-append (take at xs) t ∙ ap (λ (k : ℕ). k + length t) (length-take-le at xs h) ∙ sym e in
    let front : take b (take at xs ++ (t ++ rest)) ≡ take at xs ++ t = ap (take b) whole ∙ take_at (take at xs ++ t) rest b n in
    let m : at + length t + length u ≡ at + length (t ++ u) = omega (arith, length-append t u) in
    let behind : drop b (take at xs ++ (t ++ rest)) ≡ rest = ap (drop b) whole ∙ drop_at (take at xs ++ t) rest b n in
    let all = drop (at + length (t ++ u)) xs in
    let back : drop (b + length u) (take at xs ++ (t ++ rest)) ≡ all = rw (← drop-drop (length u) b (take at xs ++ (t ++ rest)), behind, drop-drop (length u) (at + length t) xs, m) in
    rw (front, back) (append_assoc (take at xs) t (u ++ all) ∙ ap (λ (l : List ℕ). take at xs ++ l) (sym (append_assoc t u all)))

-- ---- the text of a line so far: ys is xs with it in front, and `behind` is the place behind it
pub record Written (xs text ys : List ℕ) (behind : ℕ) : Type 0 where
  pub holds : ys ≡ laid xs 0 text
  pub ends : behind ≡ length text

pub first : {ys : List ℕ} {b : ℕ} (xs t : List ℕ) → ys ≡ laid xs 0 t → b ≡ 0 + length t → Written xs t ys b
first xs t p q = record { holds = p; ends = q ∙ zero-add (length t) }

pub next : {xs t ys zs : List ℕ} {b c : ℕ} (u : List ℕ) → Written xs t ys b → zs ≡ laid ys b u → c ≡ b + length u → Written xs (t ++ u) zs c
next {xs} {t} {b} u w p q =
    let e : b ≡ 0 + length t = w.ends ∙ sym (zero-add (length t)) in
    record { holds = p ∙ ap (λ (l : List ℕ). laid l b u) w.holds ∙ laid_behind xs 0 t u b zero-le e; ends = omega (arith, length-append t u) }

-- the whole line, by its name
pub named : {xs t u ys : List ℕ} {b : ℕ} → t ≡ u → Written xs t ys b → Written xs u ys b
named {xs} e w = record { holds = w.holds ∙ ap (laid xs 0) e; ends = w.ends ∙ ap length e }
