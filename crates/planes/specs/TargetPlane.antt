-- What the plane converter is given, and what it gives at each index of the target.
use Rattle.std.specs.Prelude.{◌≡◌, List, Bool, true, false, ℕ, zero, suc, ◌+◌, ◌*◌, ◌/◌, ◌%◌, ◌≤◌, ◌<◌, T, ℤ, pos, neg_ℤ, length}
use Rattle.cubemap.specs.declared.Format.{Format}
use Rattle.cubemap.specs.declared.Ray.{Ray}
use Rattle.cubemap.specs.declared.Rotation.{Rotation}
use Rattle.cubemap.specs.Frames.{layout_bytes, face_in, quarter_turns_in, place_at}
use Rattle.cubemap.specs.PlaceToRay.{scale, face_coordinate, table3, ray_of}
use Rattle.cubemap.specs.Rotations.{rotated}
use Rattle.cubemap.specs.Checks.{layout_ok, rotation_in_range, rotation_nonzero}
use Rattle.positions.specs.RayLines.{coordinate_at}
use Rattle.resampling.specs.declared.RowRays.{RowRays}
use Rattle.resampling.specs.RowOfRays.{value_on}
use Rattle.planes.specs.declared.Target.{Target}
use Rattle.planes.specs.declared.Conversion.{Conversion}

-- ---- what it is given

-- the coordinates of a face's columns, the layout, and the rotation
pub record TargetReady (c : Conversion) (coordinates : List ℤ) : Type 0 where
  pub size-least : 1 ≤ c.target.size
  pub size-most : c.target.size ≤ 512
  pub columns : length coordinates ≡ c.target.size
  pub coordinate : (m : ℕ) → m < c.target.size
      → coordinate_at coordinates m ≡ face_coordinate c.target.format c.target.size m
  pub layout-ok : T (layout_ok (layout_bytes c.target.layout))
  pub rotation-in-range : T (rotation_in_range c.rotation)
  pub rotation-nonzero : T (rotation_nonzero c.rotation)

-- ---- rays of a slot

-- the ray at a spot of a slot that holds the face f, by the coordinates u of the spot's column and v of its row: each
-- quarter turn of the face makes v the coordinate of its column, and −u that of its row
abbrev pub slot_ray : ℕ → ℕ → ℤ → ℤ → ℤ → Ray
slot_ray f zero s u v = table3 f s u v
slot_ray f (suc k) s u v = slot_ray f k s v (neg_ℤ u)

-- a run's rotated ray where the coordinate of the column is 0: rotation, target, face and turns of the slot, the row's
-- coordinate
abbrev pub run_start : Rotation → Target → ℕ → ℕ → ℤ → Ray
run_start t b f k v = rotated t (slot_ray f k (pos (scale b.format b.size)) (pos 0) v)

-- and how far it moves for each unit of that coordinate
abbrev pub run_slope : Rotation → ℕ → ℕ → Ray
run_slope t f k = rotated t (slot_ray f k (pos 0) (pos 1) (pos 0))

-- are the columns of a target in this format evenly spaced?
abbrev pub evenly_spaced : Format → Bool
evenly_spaced Format.Cmp = true
evenly_spaced Format.Acp = false

-- run number `run`: its slot is the one that the run is a row of
abbrev pub slot_of_run : ℕ → ℕ → ℕ
slot_of_run A run = run / 3 / A * 3 + run % 3

-- its rays
abbrev pub run_rays : Conversion → List ℤ → ℕ → RowRays
run_rays c coordinates run =
    let b = c.target in
    let L = layout_bytes b.layout in
    let slot = slot_of_run b.size run in
    record {
      start = run_start c.rotation b (face_in L slot) (quarter_turns_in L slot)
          (coordinate_at coordinates (run / 3 % b.size));
      slope = run_slope c.rotation (face_in L slot) (quarter_turns_in L slot);
      evenly = evenly_spaced b.format;
    }

-- ---- what it gives

-- the target's sample at an index
abbrev pub value_at_index : Conversion → ℕ → ℕ
value_at_index c i =
    value_on c.source (rotated c.rotation (ray_of c.target.format c.target.size
    (place_at c.target.size (layout_bytes c.target.layout) i)))
