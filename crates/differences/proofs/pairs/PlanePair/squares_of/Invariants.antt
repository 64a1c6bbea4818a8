-- `squares_of` meets its contract: after f faces the sums have the squares of the first f.
use mathlib.Core.Path.{◌≡◌}
use Prim.Native.Nat.{ℕ, ◌<◌}
use lib.ListN.{get_or}
use Rattle.arithmetic.specs.Sums.{sum_below}
use Rattle.differences.proofs.Squares.{part}
use Rattle.differences.proofs.pairs.PlanePair.squares_of.Given as goal

abbrev pub invariant-loop-face : goal.invariant-loop-face
invariant-loop-face l =
    (m : ℕ) → m < l.self.first.plane.size
    → get_or l.squares m 0 ≡ sum_below (part l.self l.row l.mirror m) l.face
