-- `line_numbers` meets its contract: column by column.
use mathlib.Core.Path.{◌≡◌}
use Prim.Native.Nat.{ℕ, ◌<◌}
use lib.IntN.{nat_abs}
use lib.ListN.{get_or}
use Rattle.positions.specs.RayLines.{line_at, coordinate_at}
use Rattle.stretches.proofs.numbers.line_numbers.Given as goal

abbrev pub invariant-loop-j : goal.invariant-loop-j
invariant-loop-j l =
    (i : ℕ) → i < l.j → get_or l.numbers i 0 ≡ nat_abs (line_at l.fn.line (coordinate_at l.coordinates i))
