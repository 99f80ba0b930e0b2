-- `binary16::normal` meets its contract: the pattern is that of the rounded number, and is no NaN's. Assumes nothing.
use Rattle.halves.proofs.Patterns.{built, pattern_no_nan}
use Rattle.halves.proofs.binary16.normal.Goals as goal

pub float_from_bits-result : goal.float_from_bits-result
float_from_bits-result c =
    let a = c.args in
    let p = c.requires in
    pattern_no_nan a.sign a.exp a.digits p.0 p.2 p.4

pub returns : goal.returns
returns c =
    let a = c.args in
    let p = c.requires in
    built a.sign a.exp a.digits p.0 p.1 p.2 p.3 p.4
