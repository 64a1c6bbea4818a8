-- `aligned_strides` meets its contract: one face more.
use mathlib.Core.Path.{◌≡◌}
use native.Mathlib.Omega.{arith}
use borrow.Author.Rules.{rules}
use Rattle.strides.specs.FaceStrides.{strides_in, aligned}
use Rattle.strides.proofs.StrideTables.{stored-next}
use Rattle.strides.proofs.aligned_strides.Goals as goal

pub loop-face-preserved : goal.loop-face-preserved
loop-face-preserved c =
    let a = c.args in
    let l = c.loop-face in (
      search rules,
      stored-next (λ f s. s ≡ aligned a.size (strides_in a.guide.now f) (strides_in a.table.now f))
          l.lined l.face _ (omega (arith, l.invariant.0)) l.invariant.1 c.aligned.ensures,
    )
