-- `rounded` meets its contract: a shift divides and rounds down, and half of the divisor is added first.
use mathlib.Core.Path.{sym, ◌∙◌}
use Prim.Native.Nat.{◌^◌}
use Rattle.arithmetic.proofs.Held.{held, held-literal, add, shift}
use Rattle.cubemap.proofs.Samplers.{rounded-floor}
use Rattle.cubic.proofs.values.rounded.Goals as goal

pub returns : goal.returns
returns c =
    let sum = held c.args.sum c.requires tt in
    (shift (add sum (held-literal 137438953472 tt) tt) tt (2 ^ 38)).is ∙ sym (rounded-floor c.args.sum)
