-- `weigh_row` meets its contract: where the ends have met the whole row is there, and no weight is above 65,536.
use native.Mathlib.Omega.{arith}
use Rattle.cubemap.proofs.Weights.{weight-most}
use Rattle.weights.proofs.WeightTables.{filled-all}
use Rattle.weights.proofs.weigh_row.Goals as goal

pub returns : goal.returns
returns c =
    let w = filled-all c.loop-column.invariant (omega arith) in
    (w, λ m h. rw (w.entry m h) (weight-most c.args.format c.args.size m c.args.row (omega arith)))
