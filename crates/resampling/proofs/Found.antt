-- What is found of a stretch between two columns of a row: the positions where its rays fall.
use mathlib.Core.Path.{◌≡◌, ◌∙◌, ap, subst}
use mathlib.Core.List.{List}
use Prim.Native.Nat.{ℕ, ◌+◌, ◌-◌, ◌≤◌, ◌<◌}
use native.Mathlib.Omega.{arith}
use lib.ListN.{length, take}
use Rattle.arithmetic.specs.ListParts.{part}
use Rattle.cubemap.specs.RayToPlace.{located, locate}
use Rattle.cubemap.proofs.Faces.{chosen}
use Rattle.positions.specs.RayLines.{coordinate_at, Positioned}
use Rattle.stretches.specs.declared.rays.RayStretch.{RayStretch}
use Rattle.cubic.specs.PositionTables.{position_in, Positions}
use Rattle.resampling.specs.declared.row.Row.{Row}
use Rattle.resampling.specs.RowOfRays.{ray_at, OneFace, lines_on}
use Rattle.resampling.proofs.RowParts.{row-part, one-face-part, stretch-length, column-of}
use Rattle.resampling.proofs.StretchRays.{located-at, positions}

module _ (row : Row) {face from to : ℕ} (some : from < to) (within : to ≤ length row.coordinates.now)
    (one : OneFace row.rays row.coordinates.now face from to) where
  pub face-below : face < 6
  face-below = subst (λ f. f < 6) (one.meets from (omega arith) some)
      (chosen _ (row.ready.leads from (omega arith)).nonzero).face-ok

  order : from ≤ to
  order = omega arith

  -- the rays as they were handed on, the tables that were written, and their first numbers
  module _ (r : RayStretch) {across-table down-table columns rows : List ℕ}
      (e : (r.format ≡ row.reading.format) × (r.size ≡ row.reading.source.plane.size)
      × (r.lines ≡ lines_on row.rays face) × (r.coordinates.now ≡ part from to row.coordinates.now))
      (g : Positioned r.format r.size r.lines.across r.lines.distance r.coordinates.now across-table
      × Positioned r.format r.size r.lines.down r.lines.distance r.coordinates.now down-table)
      (c : (columns ≡ take (to - from) across-table) × (length columns ≡ to - from))
      (d : (rows ≡ take (to - from) down-table) × (length rows ≡ to - from)) where
    abbrev A : ℕ
    A = row.reading.source.plane.size

    small : A ≤ 512
    small = row.reading.source.plane.strided.size-most

    count : to - from ≡ length (part from to row.coordinates.now)
    count = omega (arith, stretch-length row.ready order within)

    across-found : Positioned row.reading.format A (lines_on row.rays face).across (lines_on row.rays face).distance
        (part from to row.coordinates.now) across-table
    across-found =
        subst (λ X. X) (λ i. Positioned (e.0 i) (e.1 i) (e.2 i).across (e.2 i).distance (e.3 i) across-table) g.0

    down-found : Positioned row.reading.format A (lines_on row.rays face).down (lines_on row.rays face).distance
        (part from to row.coordinates.now) down-table
    down-found = subst (λ X. X) (λ i. Positioned (e.0 i) (e.1 i) (e.2 i).down (e.2 i).distance (e.3 i) down-table) g.1

    pub positions-found : Positions A columns rows
    positions-found = positions A small (row-part row.ready order within) (one-face-part row.ready order within one)
        across-found down-found count c d

    pub located-found : (j : ℕ) → j < to - from
        → located face (position_in columns j) (position_in rows j)
        ≡ locate row.reading.format A (ray_at row.rays (coordinate_at row.coordinates.now (from + j)))
    located-found j h =
        located-at A small (row-part row.ready order within) (one-face-part row.ready order within one)
        across-found down-found count c d j (omega (arith, h, count))
        ∙ ap (λ z. locate row.reading.format A (ray_at row.rays z))
        (column-of row.ready order within j (omega (arith, h, count)))
