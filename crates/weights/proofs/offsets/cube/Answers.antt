-- `cube` meets its contract: the third power is the product.
use mathlib.Core.Path.{sym}
use Prim.Native.Nat.{ℕ, ◌*◌, ◌≤◌}
use native.Mathlib.Nat.{mul-le-mul}
use native.Mathlib.Omega.{arith}
use Rattle.cubemap.proofs.Weights as weights
use Rattle.weights.proofs.offsets.cube.Goals as goal

cubed : (k : ℕ) → k ≤ 786432 → k * k * k ≤ 486388759756013568
cubed k h = omega (arith, mul-le-mul (mul-le-mul h h) h)

pub returns : goal.returns
returns c = (sym (weights.cube c.args.k), cubed c.args.k c.requires)
