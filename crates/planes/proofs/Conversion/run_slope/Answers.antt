-- `run_slope` meets its contract.
use mathlib.Core.Path.{sym, subst}
use native.Mathlib.Omega.{arith}
use lib.Dec.{T}
use lib.IntN.{pos}
use Rattle.cubemap.specs.Checks.{ray_in_range}
use Rattle.planes.proofs.SlotRays.{slot-in-range}
use Rattle.planes.proofs.Conversion.run_slope.Goals as goal

pub rotate-requires : goal.rotate-requires
rotate-requires c = (
  c.requires,
  subst (λ r. T (ray_in_range r)) (sym c.ray.ensures)
      (slot-in-range c.args.slot.face c.args.slot.turns (pos 0) (pos 1) (pos 0) (omega arith) (omega arith)
      (omega arith)),
)
