-- `face_at` meets its contract: the ray is one that a conversion asks for.
use mathlib.Core.Path.{sym, ◌∙◌, ap, subst}
use Rattle.arithmetic.proofs.Held.{held}
use Rattle.cubemap.proofs.RotatedRays.{RotatedRay}
use Rattle.positions.specs.RayLines.{coordinate_at}
use Rattle.resampling.specs.RowOfRays.{ray_at}
use Rattle.resampling.proofs.row.Row.face_at.Goals as goal

pub face_of-requires : goal.face_of-requires
face_of-requires c =
    let row = c.args.self.ready in
    let m = c.args.column in
    let read = (held (coordinate_at c.args.self.coordinates.now m) (row.small m c.requires) tt).is in
    let is = c.at.ensures ∙ ap (ray_at c.args.self.rays) read in
    let r = subst RotatedRay (sym is) (row.leads m c.requires) in
    (r.in-range, r.nonzero)
