-- `first_index` meets its contract: the strides lead to the first sample where the sixteen taps are inside the face.
use mathlib.Core.Path.{◌≡◌, sym, ◌∙◌, ap, ap₂, subst}
use mathlib.Core.Bool.{◌&&◌}
use Prim.Native.Nat.{ℕ, ◌<◌}
use native.Mathlib.Omega.{arith}
use lib.Dec.{T}
use lib.IntN.{ℤ, nat_abs}
use lib.Signed.{non_neg}
use mir.Syntax.{w32}
use mir.Val.{to_z, of_z}
use Rattle.arithmetic.specs.Integers.{natural}
use Rattle.arithmetic.proofs.Sizes.{nat_abs-natural}
use Rattle.arithmetic.proofs.Tests.{passes, and_left, and_right, cond-true}
use Rattle.arithmetic.proofs.Narrow.{Narrow, narrowed}
use Rattle.strides.specs.declared.Strides.{Strides}
use Rattle.strides.specs.FaceStrides.{index_by}
use Rattle.strides.proofs.StrideIndices.{askable}
use Rattle.cubic.specs.InsideTaps.{first_tap, in_face, first_of}
use Rattle.cubic.proofs.CubicValues.{Inside, inside}
use Rattle.cubic.proofs.InsideTaps.{first-inside}
use Rattle.cubic.proofs.stretch.AlongRows.first_index.Goals.{After-first_in_row, After-in_face-2, Then-in_face}
use Rattle.cubic.proofs.stretch.AlongRows.first_index.Goals as goal

-- both tests
module _ (c : After-in_face-2) where
  abbrev A : ℕ
  A = c.args.self.face.size

  column : Narrow (of_z w32 c.first_tap-m.result) (first_tap c.args.column) 515
  column =
      let f = c.first_tap-m in
      subst (λ z. Narrow (of_z w32 f.result) z 515) f.ensures.0 (narrowed f.result f.ensures.1 tt)

  row : Narrow (of_z w32 c.first_tap-n.result) (first_tap c.args.row) 515
  row =
      let f = c.first_tap-n in
      subst (λ z. Narrow (of_z w32 f.result) z 515) f.ensures.0 (narrowed f.result f.ensures.1 tt)

  tested : (c.in_face.result && c.in_face-2.result) ≡ (in_face A (first_tap c.args.column) && in_face A (first_tap c.args.row))
  tested = ap₂ ◌&&◌ (c.in_face.ensures ∙ ap (in_face A) column.is) (c.in_face-2.ensures ∙ ap (in_face A) row.is)

-- inside the face
module _ (c : Then-in_face) where
  abbrev both : After-in_face-2
  both = c.before

  abbrev s : Strides
  s = both.args.self.face.strides

  abbrev x : ℤ
  x = first_tap both.args.column

  abbrev y : ℤ
  y = first_tap both.args.row

  passed : T (in_face both.args.self.face.size x && in_face both.args.self.face.size y)
  passed = subst T (tested both) (passes c.if-in_face.true)

  across : Inside both.args.self.face.size x
  across = inside both.args.self.face.size x (and_left (in_face both.args.self.face.size x)
      (in_face both.args.self.face.size y) passed)

  down : Inside both.args.self.face.size y
  down = inside both.args.self.face.size y (and_right (in_face both.args.self.face.size x)
      (in_face both.args.self.face.size y) passed)

  x-natural : T (non_neg x)
  x-natural = subst (λ z. T (non_neg z)) (sym across.is) tt

  y-natural : T (non_neg y)
  y-natural = subst (λ z. T (non_neg z)) (sym down.is) tt

  -- column and row as they are read
  m-is : nat_abs (to_z w32 (of_z w32 both.first_tap-m.result)) ≡ natural x
  m-is = ap nat_abs (column both).is ∙ nat_abs-natural x x-natural

  n-is : nat_abs (to_z w32 (of_z w32 both.first_tap-n.result)) ≡ natural y
  n-is = ap nat_abs (row both).is ∙ nat_abs-natural y y-natural

  -- the first sample is one of the face
  first-ok : first_of s (natural x) < both.args.self.face.size
  first-ok = first-inside s (natural x) across.fits

first-is : (c : After-first_in_row) → c.first_in_row.result ≡ first_of (s c.before) (natural (x c.before))
first-is c = c.first_in_row.ensures ∙ ap (first_of (s c.before)) (m-is c.before)

pub returns-then-in_face : goal.returns-then-in_face
returns-then-in_face c =
    let f = (goal.at.returns-then-in_face c).After-first_in_row in
    let t = (goal.at.returns-then-in_face c).Then-in_face in
    c.index_in_row.ensures
    ∙ ap₂ (λ m n. natural (index_by (s t) m n)) (first-is f) (n-is t)
    ∙ sym (cond-true (in_face (both t).args.self.face.size (x t) && in_face (both t).args.self.face.size (y t))
    (natural (index_by (s t) (first_of (s t) (natural (x t))) (natural (y t)))) 4294967295 (passed t))

pub index_in_row-requires : goal.index_in_row-requires
index_in_row-requires c =
    let t = (goal.at.index_in_row-requires c).Then-in_face in
    let r = (both t).args.self in
    let m : c.first_in_row.result < r.face.size = omega (arith, first-is c, first-ok t) in (
      askable r.face.strided.leads r.face.strided.size-most c.first_in_row.result _ m
          (omega (arith, n-is t, (down t).fits)),
      r.contiguous,
    )
