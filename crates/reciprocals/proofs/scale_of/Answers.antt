-- `scale_of` meets its contract: no distance is 0.
use native.Mathlib.Omega.{arith}
use Rattle.arithmetic.proofs.Bits.{or_left}
use Rattle.reciprocals.proofs.scale_of.Goals as goal

pub ilog2-requires : goal.ilog2-requires
ilog2-requires c = omega (arith, or_left, c.args.distances.known.positive 0 c.requires)
