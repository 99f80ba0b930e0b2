-- A list that is filled from the front, one value a turn, and one block a turn. Assumes nothing.
use mathlib.Core.Path.{◌≡◌, refl, sym, ap, ◌∙◌}
use Prim.Native.Nat.{ℕ, zero, suc, ◌+◌, ◌-◌, ◌≤◌, ◌<◌, zero-le}
use native.Mathlib.Nat.{add-zero, add-suc, le_of_eq, lt_trans, lt-suc_self, eq-or-lt_of_le, le_of_suc-le-suc}
use native.Mathlib.Numerals.{add-one}
use native.Mathlib.Omega.{arith}
use mathlib.Core.List.{List, [], ◌∷◌, ◌++◌, append_assoc, append-nil}
use lib.ListN.{length, get_or, take, drop, set, length-append, length-drop, length-set, drop_of_length-le, get_or-append}
use mathlib.Core.Logic.{inl, inr}
use lib.Seq.{get_or_at, get_or-append-add, get_or-take, get_or-drop, length-take-le, drop-cons, set_at, take_at, drop_at, drop-drop, ext_get_or}
use Rattle.memory.specs.Lists.{table, filled, part}

module _ {A : Type 0} where
  -- ---- one value a turn
  pub length_table : (f : ℕ → A) (n : ℕ) → length (table f n) ≡ n
  unfolding table
  length_table f zero = refl
  length_table f (suc n) = length-append (table f n) (f n ∷ []) ∙ ap (λ (k : ℕ). k + 1) (length_table f n) ∙ add-one n

  pub get_or_table : (f : ℕ → A) (n i : ℕ) (d : A) → i < n → get_or (table f n) i d ≡ f i
  unfolding table
  get_or_table f zero i d h = absurd (no i h)
    where
      no : (i : ℕ) → i < 0 → ⊥
      no i h = omega arith
  get_or_table f (suc n) i d h =
      elim (eq-or-lt_of_le (le_of_suc-le-suc h)) [
        | inl e ↦ rw e (get_or_at (table f n) (f n) [] d n (length_table f n))
        | inr l ↦ get_or-append (table f n) (f n ∷ []) d i (rw length_table l) ∙ get_or_table f n i d l
      ]

  pub filled_none : (f : ℕ → A) (xs : List A) → xs ≡ filled f xs 0
  unfolding table
  filled_none f xs = refl

  pub filled_more : (f : ℕ → A) (xs : List A) (n : ℕ) (d : A) → n < length xs → set (filled f xs n) n (f n) ≡ filled f xs (n + 1)
  unfolding table
  filled_more f xs n d h =
      rw (add-one n, drop-cons xs n d h)
      (set_at (table f n) (get_or xs n d) (drop (suc n) xs) (f n) n (length_table f n) ∙ sym (append_assoc (table f n) (f n ∷ []) (drop (suc n) xs)))

  pub filled_all : (f : ℕ → A) (xs : List A) (n : ℕ) → length xs ≤ n → filled f xs n ≡ table f n
  filled_all f xs n h = rw (drop_of_length-le xs h) (append-nil (table f n))

  pub length_filled : (f : ℕ → A) (xs : List A) (n : ℕ) → n ≤ length xs → length (filled f xs n) ≡ length xs
  length_filled f xs n h = simp (length-append, length_table, length-drop) (omega arith)

  -- a place behind those that are filled is as it was
  pub filled_behind : (f : ℕ → A) (xs : List A) (n i : ℕ) (d : A) → n ≤ i → get_or (filled f xs n) i d ≡ get_or xs i d
  filled_behind f xs n i d h =
      let e : i ≡ length (table f n) + (i - n) = rw length_table (omega arith) in
      let b : n + (i - n) ≡ i = omega arith in
      ap (λ (j : ℕ). get_or (filled f xs n) j d) e ∙ get_or-append-add (table f n) (drop n xs) (i - n) d ∙ get_or-drop n xs (i - n) d ∙ ap (λ (j : ℕ). get_or xs j d) b

  -- a list is the table of its own places
  pub table_of : (xs : List A) (n : ℕ) (d : A) → length xs ≡ n → table (λ i. get_or xs i d) n ≡ xs
  table_of xs n d e =
      ext_get_or d (table (λ i. get_or xs i d) n) xs (length_table _ n ∙ sym e) (λ i h. get_or_table (λ j. get_or xs j d) n i d (rw length_table at h))

  -- the invariant of a loop that fills a list of n places, at place i
  abbrev pub Filling : (ℕ → A) → List A → ℕ → List A → ℕ → Type 0
  Filling f xs n out i = (out ≡ filled f xs i) × (i ≤ n) × (length out ≡ n)

  pub filling_start : (f : ℕ → A) (xs : List A) (n : ℕ) → length xs ≡ n → Filling f xs n xs 0
  filling_start f xs n e = (filled_none f xs, zero-le, e)

  pub filling_more : (f : ℕ → A) (xs : List A) (n : ℕ) (out : List A) (i : ℕ) (v : A) → length xs ≡ n → Filling f xs n out i → i < n → v ≡ f i → Filling f xs n (set out i v) (i + 1)
  filling_more f xs n out i v e w h q =
      let k : i < length xs = omega arith in
      (ap (λ (ys : List A). set ys i v) w.0 ∙ ap (set (filled f xs i) i) q ∙ filled_more f xs i v k, omega arith, length-set out i v ∙ w.2)

  pub filling_done : (f : ℕ → A) (xs : List A) (n : ℕ) (out : List A) (i : ℕ) → length xs ≡ n → Filling f xs n out i → n ≤ i → out ≡ table f n
  filling_done f xs n out i e w h =
      let k : i ≡ n = omega arith in
      w.0 ∙ ap (filled f xs) k ∙ filled_all f xs n (le_of_eq e)

  -- ---- a middle part that was lent
  pub table_ext : (f g : ℕ → A) (n : ℕ) → ((i : ℕ) → i < n → f i ≡ g i) → table f n ≡ table g n
  unfolding table
  table_ext f g zero h = refl
  table_ext f g (suc n) h = rw (table_ext f g n (λ i l. h i (lt_trans l (lt-suc_self n))), h n (lt-suc_self n))

  pub table_add : (f : ℕ → A) (a k : ℕ) → table f a ++ table (λ l. f (a + l)) k ≡ table f (a + k)
  unfolding table
  table_add f a zero = append-nil (table f a) ∙ ap (table f) (sym (add-zero a))
  table_add f a (suc k) =
      sym (append_assoc (table f a) (table (λ l. f (a + l)) k) (f (a + k) ∷ []))
      ∙ ap (λ (l : List A). l ++ (f (a + k) ∷ [])) (table_add f a k)
      ∙ ap (table f) (sym (add-suc a k))

  -- P is what stands before the part, and ys what the part is now
  pub middle : (P ys out : List A) (a k : ℕ) → length P ≡ a
      → take a (P ++ drop a out) ++ (ys ++ drop k (drop a (P ++ drop a out))) ≡ (P ++ ys) ++ drop (a + k) out
  middle P ys out a k h = rw (take_at P (drop a out) a h, drop_at P (drop a out) a h, drop-drop k a out) (sym (append_assoc P ys (drop (a + k) out)))

  -- the part from a to e of a list that is filled up to a, filled in its turn by g: the list is filled up to e
  pub filled_part : (f g : ℕ → A) (xs out ys : List A) (a k e : ℕ) → e ≡ a + k → out ≡ filled f xs a → ys ≡ table g k → ((l : ℕ) → l < k → g l ≡ f (a + l))
      → take a out ++ (ys ++ drop (e - a) (drop a out)) ≡ filled f xs e
  filled_part f g xs out ys a k e E w q h =
      let d : e - a ≡ k = omega arith in
      rw (d, w, q, table_ext g (λ l. f (a + l)) k h, E)
      (middle (table f a) (table (λ l. f (a + l)) k) xs a k (length_table f a) ∙ ap (λ (l : List A). l ++ drop (a + k) xs) (table_add f a k))

  -- A turn of a loop that lends the part from a to e, of k places, to a call that fills it by g: what the call asks of the part's length, and the invariant at m, the next part's start.
  pub part_length : (out : List A) (a k e : ℕ) → e ≡ a + k → e ≤ length out → length (take (e - a) (drop a out)) ≡ k
  part_length out a k e E h =
      let d : e - a ≡ k = omega arith in
      let r : k ≤ length (drop a out) = rw length-drop (omega arith) in
      rw d (length-take-le k (drop a out) r)

  pub part_turn : (f g : ℕ → A) (xs out ys : List A) (a k e m : ℕ) → e ≡ a + k → m ≡ e → e ≤ length xs → out ≡ filled f xs a → ys ≡ table g k → ((l : ℕ) → l < k → g l ≡ f (a + l))
      → (take a out ++ (ys ++ drop (e - a) (drop a out)) ≡ filled f xs m) × (length (take a out ++ (ys ++ drop (e - a) (drop a out))) ≡ length xs)
  part_turn f g xs out ys a k e m E M h w q x =
      let p = filled_part f g xs out ys a k e E w q x in
      (p ∙ ap (filled f xs) (sym M), ap length p ∙ length_filled f xs e h)

  -- what stands in a part of k places from a on
  pub part_at : (xs : List A) (a k i : ℕ) (d : A) → i < k → get_or (part xs a k) i d ≡ get_or xs (a + i) d
  part_at xs a k i d h = get_or-take k (drop a xs) i d h ∙ get_or-drop a xs i d

  -- what stands in a part of m places from a on, of a table
  pub table_part : (f : ℕ → A) (xs : List A) (n a m k i : ℕ) (d : A) → xs ≡ table f n → k ≡ m → a + m ≤ n → i < m → get_or (take k (drop a xs)) i d ≡ f (a + i)
  table_part f xs n a m k i d e h r l = rw (e, h) (part_at (table f n) a m i d l ∙ get_or_table f n (a + i) d (omega arith))
