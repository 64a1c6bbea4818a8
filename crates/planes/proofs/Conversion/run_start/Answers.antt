-- `run_start` meets its contract: the scale and the row's coordinate are small, so their ray may be rotated.
use mathlib.Core.Path.{sym, subst}
use Prim.Native.Nat.{◌≤◌}
use native.Mathlib.Omega.{arith}
use lib.IntN.{pos}
use mir.Syntax.{w64}
use mir.Val.{of_z}
use lib.Dec.{T}
use Rattle.arithmetic.proofs.Held.{Held, held, held-nat, read_small}
use Rattle.cubemap.specs.Checks.{ray_in_range}
use Rattle.cubemap.proofs.FaceCoordinates.{scale-bounded}
use Rattle.planes.proofs.SlotRays.{slot-in-range}
use Rattle.planes.proofs.Conversion.run_start.Goals.{After-scale-s}
use Rattle.planes.proofs.Conversion.run_start.Goals as goal

module _ (c : After-scale-s) where
  scale_small : c.scale-s.result ≤ 65536
  scale_small = subst (λ n. n ≤ 65536) (sym c.scale-s.ensures)
      (scale-bounded c.args.self.target.format c.args.self.target.size c.requires.1)

  held-s : Held c.scale-s.result (pos c.scale-s.result) 65536
  held-s = held-nat scale_small tt

  held-v : Held (of_z w64 c.args.v) c.args.v 65536
  held-v = held c.args.v c.requires.2 tt

pub rotate-requires : goal.rotate-requires
rotate-requires c =
    let a = (goal.at.rotate-requires c).After-scale-s in (
      a.requires.0,
      subst (λ r. T (ray_in_range r)) (sym c.ray.ensures)
          (slot-in-range a.args.slot.face a.args.slot.turns _ _ _ (read_small (held-s a)) (omega arith)
          (read_small (held-v a))),
    )
