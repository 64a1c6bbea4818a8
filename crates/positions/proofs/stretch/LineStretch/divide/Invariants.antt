-- `divide` meets its contract: column by column.
use Rattle.std.proofs.Common.{◌≡◌, ℕ, ◌<◌, get_or, pos, ◌-ℤ◌}
use Rattle.positions.specs.RayLines.{position_at}
use Rattle.positions.proofs.stretch.LineStretch.divide.Given as goal

abbrev pub invariant-loop-j : goal.invariant-loop-j
invariant-loop-j l =
    let s = l.self in
    (i : ℕ)
    → i < l.j
    → position_at l.format s.size s.line s.distance s.coordinates.now i ≡ pos (get_or l.table i 0) -ℤ pos 32
