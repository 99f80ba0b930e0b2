-- `fields::bits_at` meets its contract. Assumes nothing.
use Rattle.std.proofs.Common.{◌≡◌, ◌+◌, arith}
use Rattle.numbers.proofs.fields.bits_at.Goals as goal

pub returns : goal.returns
returns c =
    let i = c.args.i in
    let e : i + 2 + 1 ≡ i + 3 = omega arith in
    rw e c.le_u32.ensures
