-- `convert_plane` meets its contract: after each run the samples up to its end are placed.
use Prim.Native.Nat.{◌*◌}
use Rattle.cubemap.specs.Frames.{plane_samples}
use Rattle.frame.proofs.Placing.{Placed}
use Rattle.planes.specs.TargetPlane.{value_at_index}
use Rattle.planes.proofs.convert_plane.Given as goal

abbrev pub invariant-loop-run : goal.invariant-loop-run
invariant-loop-run l =
    Placed 2 0 (value_at_index l.c) l.initial.target l.target (plane_samples l.c.target.size) (l.run * l.c.target.size)
