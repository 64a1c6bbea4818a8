-- `stretch_end` meets its contract: the first ray of the stretch and the last meet the face, and so do those between.
use Prim.Native.Nat.{◌≤◌, ◌<◌}
use lib.ListN.{length}
use Rattle.resampling.proofs.row.Row.stretch_end.Given as goal

abbrev pub invariant-loop-to : goal.invariant-loop-to
invariant-loop-to l = (l.from < l.to) × (l.to ≤ length l.self.coordinates.now)

abbrev pub decreases-loop-to : goal.decreases-loop-to
decreases-loop-to l = l.to
