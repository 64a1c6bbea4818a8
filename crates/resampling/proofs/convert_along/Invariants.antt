-- `convert_along` meets its contract: after each stretch the samples up to its end are placed.
use Prim.Native.Nat.{◌-◌}
use lib.ListN.{length}
use Rattle.frame.proofs.Placing.{Placed}
use Rattle.positions.specs.RayLines.{coordinate_at}
use Rattle.resampling.specs.RowOfRays.{ray_at, value_on}
use Rattle.resampling.proofs.convert_along.Given as goal

abbrev pub invariant-loop-from : goal.invariant-loop-from
invariant-loop-from l =
    Placed 2 0 (λ j. value_on l.row.reading (ray_at l.row.rays (coordinate_at l.row.coordinates.now j)))
    l.initial.target l.target (length l.row.coordinates.now) l.from

abbrev pub decreases-loop-from : goal.decreases-loop-from
decreases-loop-from l = length l.row.coordinates.now - l.from
