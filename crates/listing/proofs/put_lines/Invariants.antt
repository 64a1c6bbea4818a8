-- `put_lines` meets its contract: after each record its line stands behind those before it, and the lines of the rest
-- are left.
use Prim.Native.Nat.{◌-◌}
use lib.ListN.{length}
use Rattle.listing.proofs.Progress.{Progress}
use Rattle.listing.proofs.put_lines.Given as goal

abbrev pub invariant-loop-from : goal.invariant-loop-from
invariant-loop-from l = Progress l.initial.text l.at l.input l.text l.end l.k l.from

abbrev pub decreases-loop-from : goal.decreases-loop-from
decreases-loop-from l = length l.input - l.from
