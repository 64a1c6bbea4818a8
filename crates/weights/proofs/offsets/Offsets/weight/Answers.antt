-- `weight` meets its contract: the largest number that passes the test is the weight.
use native.Mathlib.Omega.{arith}
use Rattle.weights.proofs.Passing.{most-weighs, most-small}
use Rattle.weights.proofs.offsets.Offsets.weight.Goals as goal

pub returns : goal.returns
returns c =
    let t = c.test.ensures in
    let most = c.most_near.ensures in
    (most-weighs _ _ _ _ (omega arith) t c.args.format _ most, most-small _ _ _ _ (omega arith) t _ most)
