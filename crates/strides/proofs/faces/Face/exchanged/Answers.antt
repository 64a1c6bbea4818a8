-- `exchanged` meets its contract: the face is that of the plane.
use mathlib.Core.Path.{sym, subst}
use Rattle.strides.specs.FaceStrides.{StridedFace}
use Rattle.strides.proofs.StrideIndices.{exchanged-face}
use Rattle.strides.proofs.faces.Face.exchanged.Goals as goal

pub invariant_of-result : goal.invariant_of-result
invariant_of-result c =
    let s = c.args.self in
    record { strided = subst (StridedFace s.size s.bytes.now) (sym c.exchanged.ensures) (exchanged-face s.strided) }
