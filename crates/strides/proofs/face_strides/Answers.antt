-- `face_strides` meets its contract: one face more.
use native.Mathlib.Omega.{arith}
use borrow.Author.Rules.{rules}
use Rattle.cubemap.specs.Frames.{place, layout_bytes, index}
use Rattle.strides.specs.FaceStrides.{StridesTo}
use Rattle.strides.proofs.StrideTables.{stored-next}
use Rattle.strides.proofs.face_strides.Goals as goal

pub loop-face-preserved : goal.loop-face-preserved
loop-face-preserved c =
    let a = c.args in
    let l = c.loop-face in (
      search rules,
      stored-next (λ f s. StridesTo a.size s (λ m n. index a.size (layout_bytes a.layout) (place f m n)))
          l.table l.face _ (omega (arith, l.invariant.0)) l.invariant.1 c.strides_of.ensures,
    )
