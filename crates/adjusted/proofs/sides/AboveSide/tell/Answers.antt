-- `tell` of `Above` meets its contract: where both flags are low, x is k, and its bracket has one quotient.
use mathlib.Core.Path.{refl}
use Prim.Native.Nat.{◌≤◌}
use native.Mathlib.Omega.{arith}
use Rattle.adjusted.proofs.Columns.{told-above}
use Rattle.adjusted.proofs.sides.AboveSide.tell.Goals as goal

pub returns : goal.returns
returns c t u =
    let column = c.requires.1 in
    let e = c.difference-size.ensures.1 (omega (arith, column.bounded)) u in
    let h : c.difference-size.result ≤ c.args.distance = omega (arith, e, column.ratio) in
    told-above c.args.b.of_size column h (c.part.ensures.1 _ h column.positive column.near) _ e refl (omega (arith, t))
