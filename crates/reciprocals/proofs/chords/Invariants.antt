-- `chords` meets its contract: each quotient is taken in 32 bits.
use Prim.Native.Nat.{◌<◌}
use Rattle.reciprocals.proofs.chords.Given as goal

abbrev pub invariant-loop-i : goal.invariant-loop-i
invariant-loop-i l = l.first < 4294967296
