-- `new` meets its contract: all entries are 0.
use native.Mathlib.Omega.{arith}
use Prim.Native.Nat.{ℕ}
use lib.ListN.{get_or-replicate}
use Rattle.weights.proofs.RowWeights.new.Goals as goal

pub invariant_of-result-clause-small : goal.invariant_of-result-clause-small
invariant_of-result-clause-small c = λ m h. omega (arith, get_or-replicate {A = ℕ} 512 m 0 0 (omega arith))
