-- The paper, "Score".
use Rattle.std.specs.Prelude.{ℕ, ◌+◌, ◌*◌, ◌^◌, leb, pos, nat_abs, ◌-ℤ◌}
use Rattle.arithmetic.specs.Searches.{largest}
use Rattle.arithmetic.specs.Sums.{sum_below}
use Rattle.cubemap.specs.declared.Format.{Format}
use Rattle.cubemap.specs.declared.Place.{Place}
use Rattle.cubemap.specs.Frames.{place}
use Rattle.cubemap.specs.PlaceToRay.{from_centre}

-- "the largest whole W with W²·(A²+p²+q²)³ ≤ 2^32·A^6", of the sizes of p and q. (From A = 1 on, no W above 65,536 has it.)
unfoldable pub weight_of : ℕ → ℕ → ℕ → ℕ
weight_of A p q = largest (λ W. leb (W * W * (A * A + p * p + q * q) ^ 3) (2 ^ 32 * A ^ 6)) 65536

-- "The weight of a place": of column m and row n. "ACP frames use the same weight at the same m, n."
unfoldable pub weight : Format → ℕ → ℕ → ℕ → ℕ
weight format A m n = weight_of A (nat_abs (from_centre A m)) (nat_abs (from_centre A n))

-- |x − y|
abbrev pub difference : ℕ → ℕ → ℕ
difference x y = nat_abs (pos x -ℤ pos y)

unfoldable pub squared_difference : ℕ → ℕ → ℕ
squared_difference x y = difference x y * difference x y

-- the sum "over all places (f, m, n)"
unfoldable pub over_places : ℕ → (Place → ℕ) → ℕ
over_places A g = sum_below (λ f. sum_below (λ n. sum_below (λ m. g (place f m n)) A) A) 6

-- "the sum of W × squared difference over all places": format, size, and the two frames' samples at each place
unfoldable pub error_sum : Format → ℕ → (Place → ℕ) → (Place → ℕ) → ℕ
error_sum format A first second =
    over_places A (λ P. weight format A P.column P.row * squared_difference (first P) (second P))

-- "and the sum of the weights"
unfoldable pub weight_sum : Format → ℕ → ℕ
weight_sum format A = over_places A (λ P. weight format A P.column P.row)
