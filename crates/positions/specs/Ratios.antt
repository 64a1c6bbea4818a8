-- What every position is asked of: a ratio x / d of size at most 1, on a face of size A.
use Rattle.std.specs.Prelude.{ℕ, ◌≤◌, ◌<◌, ℤ, nat_abs}

-- d is the size of one of a ray's numbers, within question 13
pub record Ratio (A : ℕ) (x : ℤ) (d : ℕ) : Type 0 where
  pub size-most : A ≤ 512
  pub positive : 0 < d
  pub bounded : d ≤ 536870911
  pub at-most-1 : nat_abs x ≤ d
