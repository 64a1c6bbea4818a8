-- `add_columns` meets its contract: after m columns the first m sums have what is added to theirs.
use Rattle.differences.proofs.Adding.{AddedSoFar}
use Rattle.differences.proofs.add_columns.Given as goal

abbrev pub invariant-loop-column : goal.invariant-loop-column
invariant-loop-column g l = AddedSoFar (λ m v. goal.F-post g l.more m v) l.initial.squares l.squares l.column
