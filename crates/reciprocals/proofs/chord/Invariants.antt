-- `chord` meets its contract: a step is below 2^36, so that no sum exceeds 64 bits.
use Prim.Native.Nat.{◌+◌, ◌*◌, ◌≤◌}
use Rattle.reciprocals.proofs.chord.Given as goal

abbrev pub invariant-loop-guess : goal.invariant-loop-guess
invariant-loop-guess l = l.eightfold ≤ 68719476736 * (l.guess-index + 1)
