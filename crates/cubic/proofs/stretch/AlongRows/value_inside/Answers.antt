-- `value_inside` meets its contract: the sixteen samples along the rows of the frame are those of the taps, in their
-- order or with columns reversed.
use mathlib.Core.Path.{◌≡◌, sym, ◌∙◌, ap, subst}
use Prim.Native.Nat.{ℕ, ◌+◌, ◌^◌, ◌<◌}
use native.Mathlib.Nat.{le_trans}
use native.Mathlib.Omega.{arith}
use lib.Dec.{T}
use lib.IntN.{ℤ, pos, ◌+ℤ◌, ◌*ℤ◌}
use mir.Syntax.{w64}
use mir.Val.{to_z, of_z}
use Rattle.arithmetic.specs.Integers.{natural}
use Rattle.arithmetic.proofs.Held.{Held, held, held-nat, read_result, read_small}
use Rattle.cubemap.specs.Frames.{sample_at}
use Rattle.cubemap.specs.Samplers.{clip, rounded}
use Rattle.strides.specs.declared.Strides.{Strides}
use Rattle.strides.specs.FaceStrides.{index_by}
use Rattle.strides.proofs.StrideIndices.{plane-small}
use Rattle.taps.specs.InOrder.{in_order}
use Rattle.taps.specs.TapWeights.{TapWeights, grid_sum}
use Rattle.cubic.specs.InsideTaps.{first_tap, taps_inside, first_of, inside_tap, RowsIn}
use Rattle.cubic.proofs.CubicValues.{TapsInside, taps-inside, weights_for}
use Rattle.cubic.proofs.InsideTaps.{has_first, first-is, first-inside, run_in, run-sum}
use Rattle.cubic.proofs.stretch.AlongRows.value_inside.Goals.{Start}
use Rattle.cubic.proofs.stretch.AlongRows.value_inside.Goals as goal

module _ (c : Start) where
  abbrev A : ℕ
  A = c.args.self.face.size

  abbrev s : Strides
  s = c.args.self.face.strides

  abbrev x : ℕ
  x = natural (first_tap c.args.column)

  abbrev y : ℕ
  y = natural (first_tap c.args.row)

  -- the taps are inside the face
  passed : T (taps_inside A c.args.column c.args.row)
  passed = has_first A s c.args.column c.args.row c.args.first c.requires.0 c.requires.1

  taps : TapsInside A c.args.column c.args.row
  taps = taps-inside A c.args.column c.args.row passed

  -- the first sample is one of the face
  column-ok : first_of s x < A
  column-ok = first-inside s x taps.across.fits

  row_ok : y < A
  row_ok = omega (arith, taps.down.fits)

  first-at : c.args.first ≡ natural (index_by s (first_of s x) y)
  first-at = first-is A s c.args.column c.args.row c.args.first c.requires.0 passed

  first : Held c.args.first (pos c.args.first) 1572864
  first = held-nat (omega (
    arith,
    first-at,
    c.args.self.face.strided.leads.below (first_of s x) y column-ok row_ok,
    plane-small A c.args.self.face.strided.size-most,
  )) tt

  first_read : to_z w64 c.args.first ≡ index_by s (first_of s x) y
  first_read =
      first.is ∙ ap pos first-at ∙ sym (c.args.self.face.strided.leads.gives (first_of s x) y column-ok row_ok)

  row-stride : Held (of_z w64 s.row) s.row 1536
  row-stride = held s.row c.args.self.face.strided.leads.row_small tt

pub returns : goal.returns
returns c =
    let z = (goal.at.returns c).Start in
    let a = z.args in
    let k = taps z in
    let u : TapWeights = weights_for a.column in
    let w : TapWeights = in_order c.weights_at-w.result in
    let rows : ℤ → ℤ → ℕ → ℕ → ℕ = λ f d j i. sample_at a.self.face.bytes.now (natural (f +ℤ pos j *ℤ d) + i) in (
      c.value_of.ensures.0
          ∙ ap (λ sum. clip (2 ^ a.self.depth) (rounded sum))
          ((read_result tt c.sum_of_rows.ensures).0
          ∙ (λ i. grid_sum w (c.weights_in_row-u.ensures i) (rows (first_read z i) ((row-stride z).is i)))
          ∙ run-sum a.self.face.strided a.self.shallow (x z) (y z) k.across.fits k.down.fits a.self.contiguous w u
          ∙ ap (λ w. grid_sum w u (inside_tap a.self.face.bytes.now z.args.self.face.strides a.column a.row))
          c.weights_at-w.ensures),
      c.value_of.ensures.1,
    )

pub sum_of_rows-requires : goal.sum_of_rows-requires
sum_of_rows-requires c =
    let z = (goal.at.sum_of_rows-requires c).Start in
    let a = z.args in
    let k = taps z in (
      le_trans (read_small (first z)) (omega arith),
      read_small (row-stride z),
      subst (λ f. RowsIn a.self.face.bytes.now f (to_z w64 (of_z w64 z.args.self.face.strides.row)))
          (sym (first_read z))
          (subst (RowsIn a.self.face.bytes.now (index_by z.args.self.face.strides
          (first_of z.args.self.face.strides (x z)) (y z))) (sym (row-stride z).is)
          (run_in a.self.face.strided a.self.shallow (x z) (y z) k.across.fits k.down.fits a.self.contiguous)),
    )
