-- `weigh` meets its contract: after m columns the sum is that of the first m.
use mathlib.Core.Path.{ap}
use Prim.Native.Nat.{◌*◌}
use native.Mathlib.Nat.{mul-le-mul}
use native.Mathlib.Omega.{arith}
use lib.ListN.{get_or}
use Rattle.scoring.proofs.Summing.{running_none, running-next}
use Rattle.scoring.proofs.weigh.Goals as goal

pub loop-column-init : goal.loop-column-init
loop-column-init c = running_none _ 13187697868800

pub loop-column-preserved : goal.loop-column-preserved
loop-column-preserved c =
    let w = c.args.weights.now in
    let j = c.loop-column.column in
    let inside = c.loop-column-test.true in
    running-next c.loop-column.invariant (ap (λ s. get_or w.weights j 0 * s) c.from.ensures)
    (mul-le-mul {m₂ = 201228300} (w.small j inside) (omega (arith, c.requires j inside, c.from.ensures)))
