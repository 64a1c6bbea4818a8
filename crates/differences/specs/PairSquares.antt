-- The squared differences of two faces and of two planes, each as one thing.
use Rattle.std.specs.Prelude.{◌≡◌, ℕ}
use Rattle.strides.specs.FaceStrides.{strides_in}
use Rattle.differences.specs.declared.pairs.FacePair.{FacePair}
use Rattle.differences.specs.declared.pairs.PlanePair.{PlanePair}
use Rattle.differences.specs.RowSquares.{face_squares, faces_squares}

-- the square at column m of row n
abbrev pub face_pair_squares : FacePair → ℕ → ℕ → ℕ
face_pair_squares p n m =
    face_squares p.first.face.bytes.now p.first.face.strides p.second.face.bytes.now p.second.face.strides n m

-- and of row n of all six faces
abbrev pub plane_pair_squares : PlanePair → ℕ → ℕ → ℕ
plane_pair_squares p n m =
    faces_squares p.first.plane.bytes.now p.first.plane.strides.now p.second.plane.bytes.now p.second.plane.strides.now
    n m

-- the faces of two planes
pub record IsFace (p : PlanePair) (f : ℕ) (q : FacePair) : Type 0 where
  pub size : q.first.face.size ≡ p.first.plane.size
  pub squares : (n m : ℕ) → face_pair_squares q n m ≡ face_squares p.first.plane.bytes.now
      (strides_in p.first.plane.strides.now f) p.second.plane.bytes.now (strides_in p.second.plane.strides.now f) n m
