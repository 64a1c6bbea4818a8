-- `aligned_strides` meets its contract: the strides of the faces so far are aligned.
use mathlib.Core.Path.{◌≡◌}
use Prim.Native.Nat.{ℕ, ◌<◌}
use lib.ListN.{length}
use Rattle.strides.specs.FaceStrides.{strides_in, aligned}
use Rattle.strides.proofs.aligned_strides.Given as goal

abbrev pub invariant-loop-face : goal.invariant-loop-face
invariant-loop-face l = (length l.lined ≡ 6) × ((f : ℕ) → f < l.face
    → strides_in l.lined f ≡ aligned l.size (strides_in l.guide f) (strides_in l.table f))
