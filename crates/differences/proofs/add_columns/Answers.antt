-- `add_columns` meets its contract: after m columns the first m sums have what is added to theirs.
use native.Mathlib.Omega.{arith}
use Rattle.differences.proofs.Adding.{added_so_far-next}
use Rattle.differences.proofs.add_columns.Goals as goal

pub loop-column-preserved : goal.loop-column-preserved
loop-column-preserved g c = added_so_far-next c.loop-column.invariant (omega arith) c.more.ensures

pub returns : goal.returns
returns g c = λ m h. c.loop-column.invariant.done m (omega arith)
