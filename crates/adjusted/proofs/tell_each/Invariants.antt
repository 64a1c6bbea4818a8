-- `tell_each` meets its contract: column by column, each entry is told by its bracket where the flags say so.
use Rattle.adjusted.proofs.Told.{Reached}
use Rattle.adjusted.proofs.tell_each.Given as goal

abbrev pub invariant-loop-j : goal.invariant-loop-j
invariant-loop-j g l = Reached l.b.size l.initial.table l.divisors.distances.now l.brackets l.sizes l.j l.table
