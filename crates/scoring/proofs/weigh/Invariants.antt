-- `weigh` meets its contract: after m columns the sum is that of the first m.
use Prim.Native.Nat.{◌*◌}
use lib.ListN.{get_or}
use Rattle.scoring.proofs.Summing.{Running}
use Rattle.scoring.proofs.weigh.Given as goal

abbrev pub invariant-loop-column : goal.invariant-loop-column
invariant-loop-column l =
    Running (λ m. get_or l.weights.weights m 0 * get_or l.squares m 0) 13187697868800 l.column l.error
