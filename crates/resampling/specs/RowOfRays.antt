-- The rays along a row of columns, the stretches of it whose rays meet one face, and the values that are read there.
use Rattle.std.specs.Prelude.{◌≡◌, true, List, ℕ, ◌≤◌, ◌<◌, T, ℤ, nat_abs, length, ◌≤ℤ◌}
use Rattle.cubemap.specs.declared.Ray.{Ray}
use Rattle.cubemap.specs.RayToPlace.{face_of, across, down, locate}
use Rattle.cubemap.specs.Samplers.{sample_from}
use Rattle.cubemap.specs.Checks.{ray_in_range}
use Rattle.cubemap.proofs.Faces.{toward}
use Rattle.cubemap.proofs.Rotations.{along}
use Rattle.cubemap.proofs.RotatedRays.{RotatedRay}
use Rattle.positions.specs.declared.FaceLines.{FaceLines}
use Rattle.positions.specs.declared.Line.{Line}
use Rattle.positions.specs.RayLines.{coordinate_at}
use Rattle.stretches.specs.Numbers.{Evenly}
use Rattle.strides.specs.FaceStrides.{sample_by}
use Rattle.resampling.specs.declared.Reading.{Reading}
use Rattle.resampling.specs.declared.RowRays.{RowRays}

-- ---- the rays of a row

-- the ray at a column whose coordinate is a
abbrev pub ray_at : RowRays → ℤ → Ray
ray_at r a = along r.start a r.slope

-- start and slope are within question 13
pub record RaysInRange (r : RowRays) : Type 0 where
  pub start-ok : T (ray_in_range r.start)
  pub slope-ok : T (ray_in_range r.slope)

-- the columns' coordinates, which rise, and the rays there, each one that a conversion asks for
pub record RowReady (r : RowRays) (coordinates : List ℤ) : Type 0 where
  pub in-range : RaysInRange r
  pub few : length coordinates ≤ 512
  pub small : (m : ℕ) → m < length coordinates → nat_abs (coordinate_at coordinates m) ≤ 65536
  pub rising : (m n : ℕ) → m ≤ n → n < length coordinates → coordinate_at coordinates m ≤ℤ coordinate_at coordinates n
  pub leads : (m : ℕ) → m < length coordinates → RotatedRay (ray_at r (coordinate_at coordinates m))
  pub even : r.evenly ≡ true → Evenly coordinates

-- ---- a stretch of it

-- the rays at the columns from `from` on and before `to` meet one face of the source
pub record OneFace (r : RowRays) (coordinates : List ℤ) (face from to : ℕ) : Type 0 where
  pub meets : (m : ℕ) → from ≤ m → m < to → face_of (ray_at r (coordinate_at coordinates m)) ≡ face

-- a number of the rays along the row
abbrev pub line_of : RowRays → (Ray → ℤ) → Line
line_of r number = record { start = number r.start; slope = number r.slope }

-- the three of Table 4 on a face
abbrev pub lines_on : RowRays → ℕ → FaceLines
lines_on r face = record {
  across = line_of r (across face);
  down = line_of r (down face);
  distance = line_of r (toward face);
}

-- ---- what is read

-- the sampler's value where a ray meets the source
abbrev pub value_on : Reading → Ray → ℕ
value_on r v =
    let p = r.source.plane in
    sample_from r.sampler p.size r.source.depth (sample_by p.bytes.now p.strides.now) (locate r.format p.size v)
