-- `index_at` meets its contract: base and strides are small, so nothing overflows.
use mathlib.Core.Path.{◌∙◌, ap}
use Prim.Native.Nat.{ℕ}
use native.Mathlib.Omega.{arith}
use lib.IntN.{pos, nat_abs}
use mir.Syntax.{w64}
use mir.Val.{of_z}
use Rattle.arithmetic.proofs.Sizes.{nat_abs-natural}
use Rattle.arithmetic.proofs.Held.{Held, held, held-nat, mul, add_ok, add, cast_ok}
use Rattle.strides.specs.declared.Strides.{Strides}
use Rattle.strides.specs.FaceStrides.{index_by, Askable}
use Rattle.strides.proofs.Strides.index_at.Goals as goal

-- the five numbers as the machine holds them
record Numbers (s : Strides) (m n : ℕ) : Type 0 where
  base : Held (of_z w64 s.base) s.base 1572864
  column-stride : Held (of_z w64 s.column) s.column 1536
  row-stride : Held (of_z w64 s.row) s.row 1536
  column : Held m (pos m) 512
  row : Held n (pos n) 512

h : {s : Strides} {m n : ℕ} → Askable s m n → Numbers s m n
h {s} p = record {
  base = held s.base p.base-small tt;
  column-stride = held s.column p.column-small tt;
  row-stride = held s.row p.row_small tt;
  column = held-nat (omega (arith, p.column-below)) tt;
  row = held-nat (omega (arith, p.row_below)) tt;
}

pub returns : goal.returns
returns c =
    let n = h c.requires in
    ap nat_abs (add (add n.base (mul n.column n.column-stride tt) tt) (mul n.row n.row-stride tt) tt).is
    ∙ nat_abs-natural (index_by c.args.self c.args.column c.args.row) c.requires.not-below-0

pub overflow_add-result-2 : goal.overflow_add-result-2
overflow_add-result-2 c =
    let n = h c.requires in
    add_ok (add n.base (mul n.column n.column-stride tt) tt) (mul n.row n.row-stride tt) tt

pub overflow_cast-result-3 : goal.overflow_cast-result-3
overflow_cast-result-3 c =
    let n = h c.requires in
    cast_ok (add (add n.base (mul n.column n.column-stride tt) tt) (mul n.row n.row-stride tt) tt) tt
    c.requires.not-below-0
