-- `dividend` meets its contract: 2^(31 + shift) is at most 2^60, so that nothing is shifted out.
use native.Mathlib.Omega.{arith}
use lib.Pow.{pow_pos}
use Rattle.reciprocals.proofs.Confirming.{scaled, power-most}
use Rattle.reciprocals.proofs.dividend.Goals as goal

pub returns : goal.returns
returns c =
    let e = scaled 2147483648 c.args.shift (omega arith) c.requires in
    let p = pow_pos c.args.shift in
    (omega (arith, e, p), omega (arith, e, power-most c.args.shift c.requires))
