-- `confirmed` meets its contract: where the bits of all columns are small, each column's are, and its guess is near.
use Rattle.reciprocals.proofs.Confirming.{Gathered}
use Rattle.reciprocals.proofs.confirmed.Given as goal

abbrev pub invariant-loop-j : goal.invariant-loop-j
invariant-loop-j l = Gathered l.shift l.distances.each.now l.remainders l.sizes l.j l.guesses
