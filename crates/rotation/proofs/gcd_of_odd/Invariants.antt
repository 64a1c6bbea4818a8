-- Both numbers stay odd, and what divides them both does not change. Each turn makes their sum smaller.
use mathlib.Core.Path.{◌≡◌}
use Prim.Native.Nat.{ℕ, ◌+◌, ◌%◌}
use Rattle.arithmetic.proofs.Divisors.{IsGcd}
use Rattle.rotation.proofs.gcd_of_odd.Given as goal

pub record Inv (a b x y : ℕ) : Type 0 where
  pub x-odd : x % 2 ≡ 1
  pub y-odd : y % 2 ≡ 1
  pub keeps : (g : ℕ) → IsGcd x y g → IsGcd a b g

abbrev pub invariant-loop-x : goal.invariant-loop-x
invariant-loop-x l = Inv l.a l.b l.x l.y

abbrev pub decreases-loop-x : goal.decreases-loop-x
decreases-loop-x l = l.x + l.y
