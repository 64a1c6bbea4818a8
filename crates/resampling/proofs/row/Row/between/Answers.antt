-- `between` meets its contract: the numbers of Table 4 are ratios of at most 1 along the stretch.
use mathlib.Core.Path.{sym, subst}
use mathlib.Core.List.{List}
use Prim.Native.Nat.{◌≤◌, ◌<◌}
use native.Mathlib.Omega.{arith}
use lib.IntN.{ℤ}
use Rattle.arithmetic.specs.ListParts.{part}
use Rattle.cubemap.proofs.Faces.{chosen}
use Rattle.positions.specs.declared.FaceLines.{FaceLines}
use Rattle.positions.specs.RayLines.{Stretch}
use Rattle.resampling.proofs.RowParts.{row-part, one-face-part, stretch-length}
use Rattle.resampling.proofs.StretchRays.{across-stretch, down-stretch}
use Rattle.resampling.proofs.row.Row.between.Goals as goal

pub on_face-requires : goal.on_face-requires
on_face-requires c =
    let row = c.args.self.ready in
    let r = c.requires in (
      row.in-range,
      subst (λ f. f < 6) (r.2.meets c.args.from (omega arith) r.0)
          (chosen _ (row.leads c.args.from (omega (arith, r.0, r.1))).nonzero).face-ok,
    )

pub invariant_of-result : goal.invariant_of-result
invariant_of-result c =
    let a = c.args in
    let A = a.self.reading.source.plane.size in
    let small = a.self.reading.source.plane.strided.size-most in
    let r = c.requires in
    let order : a.from ≤ a.to = omega (arith, r.0) in
    let stretch : List ℤ = part a.from a.to a.self.coordinates.now in
    let row = row-part a.self.ready order r.1 in
    let one = one-face-part a.self.ready order r.1 r.2 in
    record {
      across_stretch = subst (λ (l : FaceLines). Stretch A l.across l.distance stretch) (sym c.on_face.ensures)
          (across-stretch A small row one);
      down_stretch = subst (λ (l : FaceLines). Stretch A l.down l.distance stretch) (sym c.on_face.ensures)
          (down-stretch A small row one);
      not_empty = omega (arith, r.0, stretch-length a.self.ready order r.1);
      evenly_spaced = row.even;
    }
