-- What is known of a layer and of a window that were read. Assumes nothing.
use Prim.Native.Nat.{ℕ, ◌+◌, ◌*◌, ◌%◌, ◌/◌, ◌≤◌}
use mathlib.Core.Path.{◌≡◌, refl}
use mathlib.Core.Bool.{Bool, true, false, cond}
use mathlib.Core.List.{List}
use native.Mathlib.Omega.{arith}
use native.Mathlib.Nat.{mul-le-mul}
use borrow.Author.Tests.{eqb-true, not-false}
use lib.Dec.{eqb}
use lib.ListN.{length}
use Rattle.refusals.specs.Said.{Said, done}
use Rattle.refusals.proofs.Laws.{apart, given_passed, else_passed}
use Rattle.std.proofs.Common.{Ok, Err}
use Rattle.layouts.specs.Formats.{format_named}
use Rattle.layouts.specs.declared.format.FormatK.{FormatK}
use Rattle.layouts.specs.declared.format.Format.TheVariants.{OfK}
use Rattle.layouts.proofs.Sizes.{sizes}
use Rattle.layers_shape.specs.Shapes.{weight_bytes}
use Rattle.frames.specs.Frame.{Frame, ended, torn, whole, payload_of}
use Rattle.records.specs.declared.reader.Item.{Item}
use Rattle.records.specs.declared.reader.Item.TheVariants.{Layer, Window, WarmUp}
use Rattle.records.specs.Kinds.{format_in, in_feat_in, out_feat_in, readings_in, has_zero, sizes_refusal, format_found, layer_found, window_found, kind_found, found}
use Rattle.records.proofs.UpTo.{up_to_lem}

-- sizes of which nothing is refused
pub sizes_in : (in_feat out_feat : ℕ) → sizes_refusal in_feat out_feat ≡ done → (in_feat ≤ 2048) × ((out_feat ≤ 16) × (in_feat % 256 ≡ 0))
unfolding sizes_refusal
sizes_in in_feat out_feat e =
    let a = given_passed _ _ _ _ e in
    let b = given_passed _ _ _ _ a.1 in
    let c = given_passed _ _ _ _ b.1 in
    ((up_to_lem 2048 _ (not-false _ a.0)).1, ((up_to_lem 16 _ (not-false _ b.0)).1, eqb-true _ _ (not-false _ c.0)))

-- 16 rows of 8 blocks of 210 bytes at most
pub few_weights : (f : FormatK) (in_feat out_feat : ℕ) → in_feat ≤ 2048 → out_feat ≤ 16 → weight_bytes f in_feat out_feat ≤ 26880
few_weights f in_feat out_feat h k =
    let b : in_feat / 256 ≤ 8 = omega arith in
    mul-le-mul k (mul-le-mul b (sizes (OfK f)).1)

-- a layer's payload p of which nothing is refused, and what is found of it
pub record LayerRead (p : List ℕ) (v : Item) : Type 0 where
  pub known : FormatK
  pub named : format_named (format_in p) ≡ Ok known
  pub in_most : in_feat_in p ≤ 2048
  pub out_most : out_feat_in p ≤ 16
  pub blocks : in_feat_in p % 256 ≡ 0
  pub sized : length p ≡ 9 + weight_bytes known (in_feat_in p) (out_feat_in p)
  pub same : Layer (format_in p) (in_feat_in p) (out_feat_in p) ≡ v

layer_found_lem : (p : List ℕ) (v : Item) → layer_found p ≡ Ok v → LayerRead p v
unfolding layer_found
layer_found_lem p v e = go (format_named (format_in p)) refl (given_passed _ _ _ _ e).1
  where
    go : (n : Said FormatK) → format_named (format_in p) ≡ n → format_found n p ≡ Ok v → LayerRead p v
    go (Err why) n f = absurd (apart _ _ f)
    go (Ok k) n f =
        let a = else_passed _ _ _ f in
        let b = given_passed _ _ _ _ a.1 in
        let s = sizes_in _ _ a.0 in
        record {
          known = k;
          named = n;
          in_most = s.0;
          out_most = s.1.0;
          blocks = s.1.1;
          sized = eqb-true _ _ (not-false _ b.0);
          same = cc b.1;
        }

-- a window's payload has as many readings as the latest layer takes
window_found_lem : (p : List ℕ) (latest : ℕ) (v : Item) → window_found p latest ≡ Ok v → (length (readings_in p) ≡ latest * 4) × (cond (has_zero (readings_in p) latest) WarmUp Window ≡ v)
unfolding window_found
window_found_lem p latest v e =
    let b = given_passed _ _ _ _ (given_passed _ _ _ _ e).1 in
    (eqb-true _ _ (not-false _ b.0), cc b.1)

-- ---- by which kind something was found

-- no window is a layer
no_layer : (b : Bool) (format in_feat out_feat : ℕ) → cond b WarmUp Window ≡ Layer format in_feat out_feat → ⊥
no_layer true format in_feat out_feat e = let z : ◌≡◌ {A = ℕ} 0 1 = cc in omega arith
no_layer false format in_feat out_feat e = let z : ◌≡◌ {A = ℕ} 0 1 = cc in omega arith

module _ (latest : ℕ) where
  pub layer_read : (f : Frame) (format in_feat out_feat : ℕ) → found f latest ≡ Ok (Layer format in_feat out_feat) → LayerRead (payload_of f) (Layer format in_feat out_feat)
  unfolding kind_found
  layer_read ended format in_feat out_feat e = let z : ◌≡◌ {A = ℕ} 0 1 = cc in absurd (omega arith)
  layer_read torn format in_feat out_feat e = absurd (apart _ _ e)
  layer_read (whole kind p rest) format in_feat out_feat e = go (eqb kind 1) refl
    where
      go : (b : Bool) → eqb kind 1 ≡ b → LayerRead p (Layer format in_feat out_feat)
      go true k = layer_found_lem p (Layer format in_feat out_feat) (simp k at e)
      go false k = absurd (no_layer (has_zero p latest) format in_feat out_feat (window_found_lem p latest (Layer format in_feat out_feat) (given_passed _ _ _ _ (simp k at e)).1).1)

  pub window_read : (f : Frame) → found f latest ≡ Ok Window → length (readings_in (payload_of f)) ≡ latest * 4
  unfolding kind_found
  window_read ended e = let z : ◌≡◌ {A = ℕ} 0 1 = cc in absurd (omega arith)
  window_read torn e = absurd (apart _ _ e)
  window_read (whole kind p rest) e = go (eqb kind 1) refl
    where
      go : (b : Bool) → eqb kind 1 ≡ b → length p ≡ latest * 4
      go true k = let l = layer_found_lem p Window (simp k at e) in let z : ◌≡◌ {A = ℕ} 0 1 = cc l.same in absurd (omega arith)
      go false k = (window_found_lem p latest Window (given_passed _ _ _ _ (simp k at e)).1).0
