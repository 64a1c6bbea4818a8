-- `mirrored` meets its contract: base and stride are small, so nothing overflows.
use Prim.Native.Nat.{◌-◌}
use native.Mathlib.Omega.{arith}
use lib.IntN.{pos}
use mir.Syntax.{w64}
use mir.Val.{of_z}
use mir.Facts.{to_z-of_z}
use borrow.Author.Rules.{rules}
use Rattle.arithmetic.proofs.Held.{Held, held, held-nat, mul, add, opposite}
use Rattle.strides.proofs.StrideIndices.{strides-eq}
use Rattle.strides.proofs.Strides.mirrored.Goals as goal

pub returns : goal.returns
returns c =
    let r = c.requires in
    let s = c.args.self in
    let A = c.args.size in
    let base : Held (of_z w64 s.base) s.base 1572864 = held s.base r.2.base-small tt in
    let column : Held (of_z w64 s.column) s.column 1536 = held s.column r.2.column-small tt in
    let last : Held (A - 1) (pos (A - 1)) 512 = held-nat (omega (arith, r.1)) tt in
    strides-eq (add base (mul last column tt) tt).is (opposite column tt).is
    (to_z-of_z {w = w64} {z = s.row} (search rules))
