-- `fillin_text::put_field` meets its contract: the digits that `io::decimal` spells are laid behind the space. Assumes nothing.
use mathlib.Core.Path.{◌≡◌, ap, ◌∙◌}
use Prim.Native.Nat.{ℕ, ◌≤◌, ◌<◌, ◌^◌}
use native.Mathlib.Omega.{arith}
use mathlib.Core.List.{List, [], ◌∷◌}
use lib.ListN.{length, take}
use Rattle.io.specs.Digits.{last_digits, IsDigitCount}
use Rattle.fillin_text.specs.Text.{laid, decimal, field}
use Rattle.fillin_text.proofs.Laid.{laid_behind}
use Rattle.fillin_text.proofs.Decimal.{spelt, length_decimal}
use Rattle.fillin_text.proofs.text.put_field.Goals as goal

-- what `io::decimal` leaves in front is our number
spelt_out : (r n : ℕ) (out : List ℕ) → n < 2 ^ 64 → IsDigitCount 10 1 n r → take r out ≡ last_digits 10 r n → take r out ≡ decimal n
spelt_out r n out h f e = e ∙ spelt r n h f

pub put-requires : goal.put-requires
put-requires c =
    let d = c.decimal-n_digits in
    let digits = spelt_out d.result c.args.n d.new.out (omega arith) d.ensures.len d.ensures.digits in
    omega (arith, ap length digits, length_decimal c.args.n)

pub returns : goal.returns
unfolding field
returns c =
    let p = c.put in
    let q = c.put-behind in
    let d = c.decimal-n_digits in
    let args = c.args in
    let digits = spelt_out d.result args.n d.new.out (omega arith) d.ensures.len d.ensures.digits in
    let room : args.at ≤ length args.line.now = omega arith in record {
      line_after = p.ensures.line_after
          ∙ ap (laid q.new.line q.result) digits
          ∙ ap (λ (l : List ℕ). laid l q.result (decimal args.n)) q.ensures.line_after
          ∙ laid_behind args.line.now args.at (32 ∷ []) (decimal args.n) q.result room q.ensures.value;
      value = (omega (arith, p.ensures.value, q.ensures.value, ap length digits), omega (arith, p.ensures.value, q.ensures.value, ap length digits, length_decimal args.n));
    }
