-- `face_strides` meets its contract: the strides of the faces so far lead to their indices.
use mathlib.Core.Path.{◌≡◌}
use Prim.Native.Nat.{ℕ, ◌<◌}
use Rattle.cubemap.specs.Frames.{place, layout_bytes, index}
use lib.ListN.{length}
use Rattle.strides.specs.FaceStrides.{StridesTo, strides_in}
use Rattle.strides.proofs.face_strides.Given as goal

abbrev pub invariant-loop-face : goal.invariant-loop-face
invariant-loop-face l = (length l.table ≡ 6) × ((f : ℕ) → f < l.face
    → StridesTo l.size (strides_in l.table f) (λ m n. index l.size (layout_bytes l.layout) (place f m n)))
