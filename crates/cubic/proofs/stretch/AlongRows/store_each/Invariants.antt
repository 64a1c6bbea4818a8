-- `store_each`: what was found stands at each position that was passed.
use Rattle.std.proofs.Common.{ℕ, ◌<◌, get_or}
use Rattle.cubic.proofs.stretch.AlongRows.store_each.Given as goal

abbrev pub invariant-loop-j : goal.invariant-loop-j
invariant-loop-j g l = (j : ℕ) → j < l.j → goal.F-post g l.found (get_or l.self.columns.now j 0) (get_or l.self.rows.now j 0) (get_or l.table j 0)
