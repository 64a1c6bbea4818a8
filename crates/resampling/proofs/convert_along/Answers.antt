-- `convert_along` meets its contract: after each stretch the samples up to its end are placed.
use mathlib.Core.Path.{refl, ◌∙◌, ap}
use Prim.Native.Nat.{ℕ, ◌+◌, ◌*◌, ◌-◌}
use native.Mathlib.Omega.{arith}
use lib.ListN.{length}
use borrow.Rule.Slice.PartMut.{put_mid}
use Rattle.cubemap.specs.Frames.{framed}
use Rattle.cubemap.specs.Samplers.{sample_from}
use Rattle.cubemap.proofs.Framed.{framed-cong}
use Rattle.frame.specs.Placing.{placed}
use Rattle.frame.proofs.Placing.{none-placed, placed-more, put-placed, placed-all}
use Rattle.strides.specs.FaceStrides.{sample_by}
use Rattle.positions.specs.RayLines.{coordinate_at}
use Rattle.resampling.specs.declared.row.Row.{Row}
use Rattle.resampling.specs.RowOfRays.{ray_at, value_on}
use Rattle.resampling.proofs.Found.{face-below, positions-found, located-found}
use Rattle.resampling.proofs.convert_along.Goals as goal

-- the value of column j of a row
abbrev value : Row → ℕ → ℕ
value row j = value_on row.reading (ray_at row.rays (coordinate_at row.coordinates.now j))

pub loop-from-init : goal.loop-from-init
loop-from-init c = none-placed 2 _ 0 _ _

pub invariant_of-stretch : goal.invariant_of-stretch
invariant_of-stretch c =
    let t = c.stretch_end-to.ensures in
    record {
      face_known = face-below c.args.row t.0 t.1 t.2;
      positions = positions-found c.args.row t.0 t.1 t.2 c.between.result c.between.ensures
          c.positions_on_face.ensures c.first-columns.ensures c.first-rows.ensures;
    }

pub loop-from-preserved : goal.loop-from-preserved
loop-from-preserved c =
    let row : Row = c.args.row in
    let t = c.stretch_end-to.ensures in
    let from = c.loop-from.from in
    let to = c.stretch_end-to.result in
    let target = c.loop-from.target in
    let p = row.reading.source.plane in
    let f = value row in
    placed-more 2 (to - from) to c.loop-from.invariant (omega (arith, t.0)) t.1
    (omega (arith, c.requires))
    (ap (put_mid (2 * from) (2 * to - 2 * from) target)
    (c.sample_stretch.ensures
    ∙ ap (framed 2 _) c.first-columns.ensures.1
    ∙ framed-cong 2 _ (λ j. f (from + j)) (to - from) (λ j m.
    ap (sample_from row.reading.sampler p.size row.reading.source.depth (sample_by p.bytes.now p.strides.now))
    (located-found row t.0 t.1 t.2 c.between.result c.between.ensures c.positions_on_face.ensures
    c.first-columns.ensures c.first-rows.ensures j m)))
    ∙ put-placed 2 target from to (2 * from) (2 * to) _ refl refl (omega (arith, t.0)))

pub returns : goal.returns
returns c =
    let i = c.loop-from.invariant in
    let row : Row = c.args.row in
    i.holds
    ∙ ap (placed 2 c.args.target.now 0 (value row)) (omega (arith, i.bounded, c.loop-from-test.false))
    ∙ placed-all 2 c.args.target.now (value row) (length row.coordinates.now) c.requires
