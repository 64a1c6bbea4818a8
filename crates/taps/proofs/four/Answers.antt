-- `four` meets its contract: sample i of the part is the i-th of the plane from the index on.
use mathlib.Core.Path.{◌∙◌}
use Prim.Native.Nat.{◌+◌, ◌*◌, ◌-◌}
use native.Mathlib.Omega.{arith}
use Rattle.cubemap.proofs.Framed.{sample-part}
use Rattle.taps.proofs.four.Goals as goal

pub returns : goal.returns
returns c =
    let a = c.args in
    let p = c.first_four.ensures in
    let part = sample-part a.plane.now a.index (2 * a.index + 8 - 2 * a.index) in
    record {
      first = p.first ∙ part 0 (omega arith);
      second = p.second ∙ part 1 (omega arith);
      third = p.third ∙ part 2 (omega arith);
      fourth = p.fourth ∙ part 3 (omega arith);
    }
