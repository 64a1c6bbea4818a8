-- Reciprocals of the distances along a stretch, on a scale of 2^31 times a power of two.
use Rattle.std.specs.Prelude.{List, ℕ, ◌+◌, ◌*◌, ◌^◌, ◌≤◌, ◌<◌, length, get_or}

-- the distances of a stretch's columns are within question 13, and none is 0
pub record Distances (distances : List ℕ) : Type 0 where
  pub positive : (j : ℕ) → j < length distances → 0 < get_or distances j 0
  pub bounded : (j : ℕ) → j < length distances → get_or distances j 0 ≤ 536870911

-- r is nearly 2^(31+shift) / d: less, and by at most 4; and d is below 2^(shift+1)
pub record Reciprocal (shift d r : ℕ) : Type 0 where
  pub least : r * d < 2147483648 * 2 ^ shift
  pub most : 2147483648 * 2 ^ shift ≤ r * d + 4 * d
  pub below : d < 2 * 2 ^ shift

-- the table has such a number of each distance
pub record Reciprocals (shift : ℕ) (distances reciprocals : List ℕ) : Type 0 where
  pub entry : (j : ℕ) → j < length distances → Reciprocal shift (get_or distances j 0) (get_or reciprocals j 0)
