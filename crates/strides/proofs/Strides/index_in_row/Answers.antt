-- `index_in_row` meets its contract: base and row stride fit 32 bits, and so does each sum; the column stride is 1 or
-- −1.
use mathlib.Core.Path.{◌≡◌, sym, ◌∙◌, ap, subst}
use mathlib.Core.List.{[], ◌∷◌}
use Prim.Native.Nat.{ℕ}
use native.Mathlib.Omega.{arith}
use lib.Dec.{T}
use lib.IntN.{pos, nat_abs, ◌+ℤ◌, ◌-ℤ◌, ◌*ℤ◌}
use lib.Signed.{non_neg}
use mir.Syntax.{w32, w64}
use mir.Val.{to_z, of_z}
use Rattle.arithmetic.proofs.Sizes.{nat_abs-natural}
use Rattle.arithmetic.proofs.Narrow.{Narrow, narrow, narrow-nat}
use Rattle.arithmetic.proofs.Narrow.{mul_ok, mul, add_ok, add, sub, cast_ok}
use Rattle.arithmetic.proofs.Ring.{var, con, ◌⊕◌, ◌⊗◌, ◌⊝◌, ⊖, solve}
use Rattle.strides.specs.declared.Strides.{Strides}
use Rattle.strides.specs.FaceStrides.{index_by, Contiguous, Askable}
use Rattle.strides.proofs.StrideIndices.{stride-ahead, stride_back}
use Rattle.strides.proofs.Strides.index_in_row.Goals as goal

-- the four numbers as the machine holds them, and the sums of both ways
module _ {s : Strides} {m n : ℕ} (r : Askable s m n × Contiguous s) where
  base : Narrow (of_z w32 (to_z w64 (of_z w64 s.base))) s.base 1572864
  base = narrow s.base r.0.base-small tt

  row-stride : Narrow (of_z w32 (to_z w64 (of_z w64 s.row))) s.row 1536
  row-stride = narrow s.row r.0.row_small tt

  column : Narrow m (pos m) 512
  column = narrow-nat (omega (arith, r.0.column-below)) tt

  row : Narrow n (pos n) 512
  row = narrow-nat (omega (arith, r.0.row_below)) tt

  ahead-is : of_z w64 s.column ≡ 1 → s.base +ℤ pos m +ℤ pos n *ℤ s.row ≡ index_by s m n
  ahead-is t =
      solve (s.base ∷ pos m ∷ (pos n *ℤ s.row) ∷ []) (var 0 ⊕ var 1 ⊕ var 2) (var 0 ⊕ var 1 ⊗ con (pos 1) ⊕ var 2) tt
      ∙ ap (λ z. s.base +ℤ pos m *ℤ z +ℤ pos n *ℤ s.row) (sym (stride-ahead s r.1 t))

  back_is : (of_z w64 s.column ≡ 1 → ⊥) → s.base -ℤ pos m +ℤ pos n *ℤ s.row ≡ index_by s m n
  back_is f =
      solve (s.base ∷ pos m ∷ (pos n *ℤ s.row) ∷ [])
      (var 0 ⊝ var 1 ⊕ var 2) (var 0 ⊕ var 1 ⊗ ⊖ (con (pos 1)) ⊕ var 2) tt
      ∙ ap (λ z. s.base +ℤ pos m *ℤ z +ℤ pos n *ℤ s.row) (sym (stride_back s r.1 f))

pub returns-then-self-eq1 : goal.returns-then-self-eq1
returns-then-self-eq1 c =
    let r = c.requires in
    ap nat_abs
    ((add (add (base r) (column r) tt) (mul (row r) (row-stride r) tt) tt).is ∙ ahead-is r c.if-self-eq1.true)
    ∙ nat_abs-natural (index_by c.args.self c.args.column c.args.row) r.0.not-below-0

pub returns-else-self-eq1 : goal.returns-else-self-eq1
returns-else-self-eq1 c =
    let r = c.requires in
    ap nat_abs
    ((add (sub (base r) (column r) tt) (mul (row r) (row-stride r) tt) tt).is ∙ back_is r c.if-self-eq1.false)
    ∙ nat_abs-natural (index_by c.args.self c.args.column c.args.row) r.0.not-below-0

pub overflow_add-result-then-self-eq1 : goal.overflow_add-result-then-self-eq1
overflow_add-result-then-self-eq1 c =
    let r = c.requires in
    add_ok (add (base r) (column r) tt) (mul (row r) (row-stride r) tt) tt

pub overflow_cast-result : goal.overflow_cast-result
overflow_cast-result c =
    let r = c.requires in
    cast_ok (add (add (base r) (column r) tt) (mul (row r) (row-stride r) tt) tt) tt
    (subst (λ z. T (non_neg z)) (sym (ahead-is r c.if-self-eq1.true)) r.0.not-below-0)

pub overflow_mul-result-else-self-eq1 : goal.overflow_mul-result-else-self-eq1
overflow_mul-result-else-self-eq1 c = mul_ok (row c.requires) (row-stride c.requires) tt

pub overflow_add-result-else-self-eq1 : goal.overflow_add-result-else-self-eq1
overflow_add-result-else-self-eq1 c =
    let r = c.requires in
    add_ok (sub (base r) (column r) tt) (mul (row r) (row-stride r) tt) tt

pub overflow_cast-result-else-self-eq1 : goal.overflow_cast-result-else-self-eq1
overflow_cast-result-else-self-eq1 c =
    let r = c.requires in
    cast_ok (add (sub (base r) (column r) tt) (mul (row r) (row-stride r) tt) tt) tt
    (subst (λ z. T (non_neg z)) (sym (back_is r c.if-self-eq1.false)) r.0.not-below-0)
