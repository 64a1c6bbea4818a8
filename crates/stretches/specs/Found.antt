-- What is found of a stretch of rays.
use Rattle.cubemap.specs.declared.Format.{Format}
use Rattle.positions.specs.RayLines.{Positioned}
use Rattle.stretches.specs.declared.rays.RayStretch.{RayStretch}
use Rattle.stretches.specs.declared.tables.Tables.{Tables}

-- the tables have T + 32 of each column, and of its row
abbrev pub Found : Format → RayStretch → Tables → Type 0
Found format s t =
    Positioned format s.size s.lines.across s.lines.distance s.coordinates.now t.columns
    × Positioned format s.size s.lines.down s.lines.distance s.coordinates.now t.rows
