-- `weigh_row` meets its contract: the table is filled from both ends, whatever it held before.
use Rattle.weights.proofs.WeightTables.{Filled}
use Rattle.weights.proofs.weigh_row.Given as goal

abbrev pub invariant-loop-column : goal.invariant-loop-column
invariant-loop-column l = Filled l.format l.size l.row l.weights l.column
