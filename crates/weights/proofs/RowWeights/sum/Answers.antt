-- `sum` meets its contract: the sum of the first A entries.
use Rattle.std.proofs.Common.{rules, ◌≡◌, ◌*◌, ◌≤◌, ◌<◌, take}
use native.Mathlib.Omega.{arith}
use Rattle.std.specs.List.{sum}
use Rattle.weights.proofs.TableSums.{sum-taken, sum-taken-most}
use Rattle.weights.proofs.RowWeights.sum.Goals.{Start}
use Rattle.weights.proofs.RowWeights.sum.Goals as goal

most : (s : Start) → let w = s.args.self.now in sum (take w.size w.weights) ≤ w.size * 65536
most s = let w = s.args.self.now in sum-taken-most w.weights w.size 65536 (omega arith) w.small

pub sum-requires-clause-fits : goal.sum-requires-clause-fits
sum-requires-clause-fits c =
    let w = c.args.self.now in
    let fits : sum (take w.size w.weights) < 18446744073709551616 =
    omega (arith, most (goal.at.sum-requires-clause-fits c).Start) in
    search rules

pub returns : goal.returns
returns c =
    let w = c.args.self.now in
    let is : c.sum.result ≡ sum (take w.size w.weights) = search rules in
    (omega (arith, sum-taken w.weights w.size (omega arith)), omega (arith, most (goal.at.returns c).Start))
