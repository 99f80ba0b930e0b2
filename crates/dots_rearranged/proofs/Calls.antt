-- The law of the calls themselves: of any two answers that meet a call's contract, the second where quants or readings are moved inside their runs. Assumes nothing.
use Prim.{Unit}
use Prim.Native.Nat.{ℕ, ◌*◌, ◌/◌, ◌≤◌}
use mathlib.Core.Path.{◌≡◌, sym, ◌∙◌}
use mathlib.Core.List.{List}
use lib.Ieee.{Float}
use denote.Bor.{Bor}
use denote.MutBor.{MutBor}
use Rattle.refusals.proofs.Once.{both}
use Rattle.refusals.specs.Said.{Said}
use Rattle.layouts.specs.declared.format.FormatK.{FormatK}
use Rattle.layouts.specs.declared.format.FormatK.TheVariants.{Q4K, Q5K, Q6K}
use Rattle.dots_activation.specs.declared.block.Q8Block.{Q8Block}
use Rattle.dots_integer.specs.Dots.{block_dot_says}
use Rattle.dots_integer_row.specs.Rows.{integer_says}
use Rattle.dots_kept_row.specs.declared.meeting.Meeting.{Meeting}
use Rattle.dots_kept_row.specs.declared.meeting.Meeting.TheVariants.{Tree, Running}
use Rattle.layers_shape.specs.Shapes.{shape}
use Rattle.layers_integer.specs.Says.{integer_layer_says}
use Rattle.dots_integer.proofs.dot_q4k_q8_block.Reads as dot_q4k
use Rattle.dots_integer.proofs.dot_q5k_q8_block.Reads as dot_q5k
use Rattle.dots_integer.proofs.dot_q6k_q8_block.Reads as dot_q6k
use Rattle.dots_integer_row.proofs.integer_dot_q4k.Reads as row_q4k
use Rattle.dots_integer_row.proofs.integer_dot_q5k.Reads as row_q5k
use Rattle.layers_integer.proofs.linear_q4_k_integer.Reads as layer_q4_k_integer
use Rattle.layers_integer.proofs.linear_q5_k_integer.Reads as layer_q5_k_integer
use Rattle.layers_integer.proofs.linear_q6_k_integer.Reads as layer_q6_k_integer
use Rattle.layers_integer.proofs.linear_q4_k_integer_rs.Reads as layer_q4_k_integer_rs
use Rattle.layers_integer.proofs.linear_q5_k_integer_rs.Reads as layer_q5_k_integer_rs
use Rattle.layers_integer.proofs.linear_q6_k_integer_rs.Reads as layer_q6_k_integer_rs
use Rattle.dots_rearranged.specs.Moved.{Rearrangements, moved_weights, moved_readings, moved_block, every_row}
use Rattle.dots_rearranged.specs.Laws.{Singles}
use Rattle.dots_rearranged.proofs.Law.{rearranged}

-- ---- κs and μs are the lifetimes of two calls, the second of moved arguments; r and s what they return, and t and u their parameters at exit

-- every row of readings and of weights, moved alike
abbrev MovedRows : FormatK → (ℕ → List ℕ) → ℕ → ℕ → ℕ → List Float → List ℕ → List Float → List ℕ → Type 0
MovedRows f orders batch ins outs x w x' w' =
    (x' ≡ moved_readings f (every_row f ins orders) (batch * (ins / 256)) x) × (w' ≡ moved_weights f (every_row f ins orders) (outs * (ins / 256)) w)

-- the block dots
block : (f : FormatK) (orders : ℕ → List ℕ) → Rearrangements f orders → (w : List ℕ) {v : List ℕ} (b : Q8Block) (n : ℕ) (r s : Said Float) → 256 ≤ n → v ≡ moved_weights f orders 1 w
    → r ≡ block_dot_says f w b n → s ≡ block_dot_says f v (moved_block f orders b) n → s ≡ r
block f orders each w b n r s h e p q = ((rw e at q) ∙ (rearranged.kept f orders each).block_dots w b n h ∙ sym p)

pub dot_q4k_kept : (orders : ℕ → List ℕ) → Rearrangements Q4K orders → (κs μs : _) (w v : Bor (List ℕ)) (b : Q8Block) (n : ℕ) (r s : Said Float) (t u : _) → 256 ≤ n → v.now ≡ moved_weights Q4K orders 1 w.now
    → dot_q4k.Post κs (w, (b, (n, tt))) r t → dot_q4k.Post μs (v, (moved_block Q4K orders b, (n, tt))) s u → s ≡ r
dot_q4k_kept orders each κs μs w v b n r s t u h e p q = block Q4K orders each w.now b n r s h e p q

pub dot_q5k_kept : (orders : ℕ → List ℕ) → Rearrangements Q5K orders → (κs μs : _) (w v : Bor (List ℕ)) (b : Q8Block) (n : ℕ) (r s : Said Float) (t u : _) → 256 ≤ n → v.now ≡ moved_weights Q5K orders 1 w.now
    → dot_q5k.Post κs (w, (b, (n, tt))) r t → dot_q5k.Post μs (v, (moved_block Q5K orders b, (n, tt))) s u → s ≡ r
dot_q5k_kept orders each κs μs w v b n r s t u h e p q = block Q5K orders each w.now b n r s h e p q

pub dot_q6k_kept : (orders : ℕ → List ℕ) → Rearrangements Q6K orders → (κs μs : _) (w v : Bor (List ℕ)) (b : Q8Block) (n : ℕ) (r s : Said Float) (t u : _) → 256 ≤ n → v.now ≡ moved_weights Q6K orders 1 w.now
    → dot_q6k.Post κs (w, (b, (n, tt))) r t → dot_q6k.Post μs (v, (moved_block Q6K orders b, (n, tt))) s u → s ≡ r
dot_q6k_kept orders each κs μs w v b n r s t u h e p q = block Q6K orders each w.now b n r s h e p q

-- the integer dots of a row
row : (f : FormatK) (orders : ℕ → List ℕ) → Rearrangements f orders → (w : List ℕ) {x y : List Float} {v : List ℕ} (n : ℕ) (r s : Said Float) → Singles x → y ≡ moved_readings f orders (n / 256) x → v ≡ moved_weights f orders (n / 256) w
    → r ≡ integer_says f x w n → s ≡ integer_says f y v n → s ≡ r
row f orders each w {x} n r s h d e p q = ((rw (d, e) at q) ∙ (rearranged.kept f orders each).row_dots x w n h ∙ sym p)

pub row_q4k_kept : (orders : ℕ → List ℕ) → Rearrangements Q4K orders → (κs μs : _) (x : Bor (List Float)) (w : Bor (List ℕ)) (y : Bor (List Float)) (v : Bor (List ℕ)) (n : ℕ) (r s : Said Float) (t u : _) → Singles x.now → y.now ≡ moved_readings Q4K orders (n / 256) x.now → v.now ≡ moved_weights Q4K orders (n / 256) w.now
    → row_q4k.Post κs (x, (w, (n, tt))) r t → row_q4k.Post μs (y, (v, (n, tt))) s u → s ≡ r
row_q4k_kept orders each κs μs x w y v n r s t u h d e p q = row Q4K orders each w.now n r s h d e p q

pub row_q5k_kept : (orders : ℕ → List ℕ) → Rearrangements Q5K orders → (κs μs : _) (x : Bor (List Float)) (w : Bor (List ℕ)) (y : Bor (List Float)) (v : Bor (List ℕ)) (n : ℕ) (r s : Said Float) (t u : _) → Singles x.now → y.now ≡ moved_readings Q5K orders (n / 256) x.now → v.now ≡ moved_weights Q5K orders (n / 256) w.now
    → row_q5k.Post κs (x, (w, (n, tt))) r t → row_q5k.Post μs (y, (v, (n, tt))) s u → s ≡ r
row_q5k_kept orders each κs μs x w y v n r s t u h d e p q = row Q5K orders each w.now n r s h d e p q

-- the integer layers, and what their output holds then
layer : (f : FormatK) (m : Meeting) (orders : ℕ → List ℕ) → Rearrangements f orders → (w : List ℕ) (batch ins outs : ℕ) {x x' : List Float} {w' : List ℕ} {y y' z z' : List Float} (r s : Said (Unit {0})) → Singles x
    → MovedRows f orders batch ins outs x w x' w' → y' ≡ y → (r, z) ≡ integer_layer_says f m (shape batch ins outs) x w y → (s, z') ≡ integer_layer_says f m (shape batch ins outs) x' w' y' → (s ≡ r) × (z' ≡ z)
layer f m orders each w batch ins outs {x} {y = y} r s h d e p q = both ((rw (d.0, d.1, e) at q) ∙ (rearranged.kept f orders each).layers m (shape batch ins outs) x w y h) p

pub layer_q4_k_integer_kept : (orders : ℕ → List ℕ) → Rearrangements Q4K orders → (κs μs : _) (x : Bor (List Float)) (w : Bor (List ℕ)) (y : MutBor (List Float)) (x' : Bor (List Float)) (w' : Bor (List ℕ)) (y' : MutBor (List Float)) (batch ins outs : ℕ) (r s : Said (Unit {0})) (t u : _) → Singles x.now → MovedRows Q4K orders batch ins outs x.now w.now x'.now w'.now → y'.now ≡ y.now
    → layer_q4_k_integer.Post κs (x, (w, (y, (batch, (ins, (outs, tt)))))) r t → layer_q4_k_integer.Post μs (x', (w', (y', (batch, (ins, (outs, tt)))))) s u → (s ≡ r) × (u.1.1.0.now ≡ t.1.1.0.now)
layer_q4_k_integer_kept orders each κs μs x w y x' w' y' batch ins outs r s t u h d e p q = layer Q4K Tree orders each w.now batch ins outs r s h d e p q

pub layer_q5_k_integer_kept : (orders : ℕ → List ℕ) → Rearrangements Q5K orders → (κs μs : _) (x : Bor (List Float)) (w : Bor (List ℕ)) (y : MutBor (List Float)) (x' : Bor (List Float)) (w' : Bor (List ℕ)) (y' : MutBor (List Float)) (batch ins outs : ℕ) (r s : Said (Unit {0})) (t u : _) → Singles x.now → MovedRows Q5K orders batch ins outs x.now w.now x'.now w'.now → y'.now ≡ y.now
    → layer_q5_k_integer.Post κs (x, (w, (y, (batch, (ins, (outs, tt)))))) r t → layer_q5_k_integer.Post μs (x', (w', (y', (batch, (ins, (outs, tt)))))) s u → (s ≡ r) × (u.1.1.0.now ≡ t.1.1.0.now)
layer_q5_k_integer_kept orders each κs μs x w y x' w' y' batch ins outs r s t u h d e p q = layer Q5K Tree orders each w.now batch ins outs r s h d e p q

pub layer_q6_k_integer_kept : (orders : ℕ → List ℕ) → Rearrangements Q6K orders → (κs μs : _) (x : Bor (List Float)) (w : Bor (List ℕ)) (y : MutBor (List Float)) (x' : Bor (List Float)) (w' : Bor (List ℕ)) (y' : MutBor (List Float)) (batch ins outs : ℕ) (r s : Said (Unit {0})) (t u : _) → Singles x.now → MovedRows Q6K orders batch ins outs x.now w.now x'.now w'.now → y'.now ≡ y.now
    → layer_q6_k_integer.Post κs (x, (w, (y, (batch, (ins, (outs, tt)))))) r t → layer_q6_k_integer.Post μs (x', (w', (y', (batch, (ins, (outs, tt)))))) s u → (s ≡ r) × (u.1.1.0.now ≡ t.1.1.0.now)
layer_q6_k_integer_kept orders each κs μs x w y x' w' y' batch ins outs r s t u h d e p q = layer Q6K Tree orders each w.now batch ins outs r s h d e p q

pub layer_q4_k_integer_rs_kept : (orders : ℕ → List ℕ) → Rearrangements Q4K orders → (κs μs : _) (x : Bor (List Float)) (w : Bor (List ℕ)) (y : MutBor (List Float)) (x' : Bor (List Float)) (w' : Bor (List ℕ)) (y' : MutBor (List Float)) (batch ins outs : ℕ) (r s : Said (Unit {0})) (t u : _) → Singles x.now → MovedRows Q4K orders batch ins outs x.now w.now x'.now w'.now → y'.now ≡ y.now
    → layer_q4_k_integer_rs.Post κs (x, (w, (y, (batch, (ins, (outs, tt)))))) r t → layer_q4_k_integer_rs.Post μs (x', (w', (y', (batch, (ins, (outs, tt)))))) s u → (s ≡ r) × (u.1.1.0.now ≡ t.1.1.0.now)
layer_q4_k_integer_rs_kept orders each κs μs x w y x' w' y' batch ins outs r s t u h d e p q = layer Q4K Running orders each w.now batch ins outs r s h d e p q

pub layer_q5_k_integer_rs_kept : (orders : ℕ → List ℕ) → Rearrangements Q5K orders → (κs μs : _) (x : Bor (List Float)) (w : Bor (List ℕ)) (y : MutBor (List Float)) (x' : Bor (List Float)) (w' : Bor (List ℕ)) (y' : MutBor (List Float)) (batch ins outs : ℕ) (r s : Said (Unit {0})) (t u : _) → Singles x.now → MovedRows Q5K orders batch ins outs x.now w.now x'.now w'.now → y'.now ≡ y.now
    → layer_q5_k_integer_rs.Post κs (x, (w, (y, (batch, (ins, (outs, tt)))))) r t → layer_q5_k_integer_rs.Post μs (x', (w', (y', (batch, (ins, (outs, tt)))))) s u → (s ≡ r) × (u.1.1.0.now ≡ t.1.1.0.now)
layer_q5_k_integer_rs_kept orders each κs μs x w y x' w' y' batch ins outs r s t u h d e p q = layer Q5K Running orders each w.now batch ins outs r s h d e p q

pub layer_q6_k_integer_rs_kept : (orders : ℕ → List ℕ) → Rearrangements Q6K orders → (κs μs : _) (x : Bor (List Float)) (w : Bor (List ℕ)) (y : MutBor (List Float)) (x' : Bor (List Float)) (w' : Bor (List ℕ)) (y' : MutBor (List Float)) (batch ins outs : ℕ) (r s : Said (Unit {0})) (t u : _) → Singles x.now → MovedRows Q6K orders batch ins outs x.now w.now x'.now w'.now → y'.now ≡ y.now
    → layer_q6_k_integer_rs.Post κs (x, (w, (y, (batch, (ins, (outs, tt)))))) r t → layer_q6_k_integer_rs.Post μs (x', (w', (y', (batch, (ins, (outs, tt)))))) s u → (s ≡ r) × (u.1.1.0.now ≡ t.1.1.0.now)
layer_q6_k_integer_rs_kept orders each κs μs x w y x' w' y' batch ins outs r s t u h d e p q = layer Q6K Running orders each w.now batch ins outs r s h d e p q
