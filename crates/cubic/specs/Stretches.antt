-- A stretch of positions on one face: the values there, and the same positions along the rows of the frame.
use Rattle.std.specs.Prelude.{◌≡◌, cond, List, ℕ, ℤ}
use Rattle.cubemap.specs.declared.Sampler.{Sampler}
use Rattle.cubemap.specs.Samplers.{tap_place, sample_from}
use Rattle.cubemap.specs.RayToPlace.{located}
use Rattle.strides.specs.declared.Strides.{Strides}
use Rattle.strides.specs.FaceStrides.{strides_in, runs_along, along, sample_by}
use Rattle.cubic.specs.declared.stretch.Stretch.{Stretch}
use Rattle.cubic.specs.declared.stretch.AlongRows.{AlongRows}
use Rattle.cubic.specs.PositionTables.{position_in}

-- the sampler's value at position j
abbrev pub value_in : Sampler → Stretch → ℕ → ℕ
value_in k s j =
    let p = s.source.plane in
    sample_from k p.size s.source.depth (sample_by p.bytes.now p.strides.now)
    (located s.face (position_in s.columns.now j) (position_in s.rows.now j))

-- the sample that a tap at this column and row of its face reads
abbrev pub tap_of : Stretch → ℤ → ℤ → ℕ
tap_of s column row =
    let p = s.source.plane in
    sample_by p.bytes.now p.strides.now (tap_place p.size s.face column row)

-- the table of columns where the rows of a face with these strides run along the rows of the frame, and else that of
-- rows
abbrev pub columns_along : Strides → List ℕ → List ℕ → List ℕ
columns_along s columns rows = cond (runs_along s) columns rows

-- the strides of its face
abbrev pub strides_of : Stretch → Strides
strides_of s = strides_in s.source.plane.strides.now s.face

-- the positions of a stretch along the rows of the frame
pub record IsAlong (s : Stretch) (r : AlongRows) : Type 0 where
  pub same_size : r.face.size ≡ s.source.plane.size
  pub same_bytes : r.face.bytes.now ≡ s.source.plane.bytes.now
  pub same_depth : r.depth ≡ s.source.depth
  pub strides-are : r.face.strides ≡ along (strides_of s) (strides_of s)
  pub columns-are : r.columns.now ≡ columns_along (strides_of s) s.columns.now s.rows.now
  pub rows-are : r.rows.now ≡ columns_along (strides_of s) s.rows.now s.columns.now
