-- Two frames that are compared, each as one thing.
use Rattle.std.specs.Prelude.{◌≡◌, ℕ, T, length}
use Rattle.cubemap.specs.declared.Format.{Format}
use Rattle.cubemap.specs.declared.Place.{Place}
use Rattle.cubemap.specs.declared.Sums.{Sums}
use Rattle.cubemap.specs.Interface.{format_of}
use Rattle.cubemap.specs.Frames.{Frame, frame_sample}
use Rattle.cubemap.specs.Score.{error_sum, weight_sum}
use Rattle.cubemap.specs.Checks.{score_settings, size_ok, depth_ok, length_ok, samples_ok}
use Rattle.cubemap.proofs.Passed.{ScorePassed}
use Rattle.strides.specs.FaceStrides.{sample_by}
use Rattle.differences.specs.declared.scored.ScoredPlane.{ScoredPlane}

-- what the questions say of one of the frames, but for its layout
pub record Scorable (F : Frame) : Type 0 where
  pub size : T (size_ok F.shape.size)
  pub depth : T (depth_ok F.shape.depth)
  pub whole : T (length_ok F.shape (length F.bytes))
  pub samples : T (samples_ok F.shape F.bytes)

-- "size, depth and format are common", and no question ends the call
pub record Comparable (F G : Frame) : Type 0 where
  pub one-shape : F.shape ≡ G.shape
  pub passed : ScorePassed (score_settings F.shape F.layout G.layout) F.bytes G.bytes

-- the sample of a plane at a place, by its strides
abbrev pub sample_in : ScoredPlane → Place → ℕ
sample_in p P = sample_by p.plane.bytes.now p.plane.strides.now P

-- the error sum and the weight sum of two frames of one shape
abbrev pub sums_of : Frame → Frame → Sums
sums_of F G =
    let A = F.shape.size in
    let format : Format = format_of F.shape.format in
    record { errors = error_sum format A (frame_sample F) (frame_sample G); weights = weight_sum format A }
