-- The paper, "From ray to place". Its T is position64 here: a position in 64ths of a sample. What its look-up finds is locate.
use Rattle.std.specs.Prelude.{Bool, ◌&&◌, cond, ℕ, ◌*◌, leb, ℤ, pos, neg_ℤ, nat_abs, ◌+ℤ◌, ◌-ℤ◌, ◌*ℤ◌}
use Rattle.arithmetic.specs.Integers.{floor_div, is_positive, is_negative}
use Rattle.cubemap.specs.declared.Format.{Format}
use Rattle.cubemap.specs.declared.Located.{Located}
use Rattle.cubemap.specs.declared.Ray.{Ray}
use Rattle.cubemap.specs.PlaceToRay.{row_of}

-- ---- the face

-- "the axis with the largest size": |a| ≥ |b| and |a| ≥ |c|
abbrev pub is_largest : ℤ → ℤ → ℤ → Bool
is_largest a b c = leb (nat_abs b) (nat_abs a) && leb (nat_abs c) (nat_abs a)

-- The six rows of Table 4 of document 000. "Its rows overlap at equal sizes; the earlier row wins (X, then Y, then Z)."
-- Only the ray (0, 0, 0), which check 14 refuses, has no row.
unfoldable pub face_of : Ray → ℕ
face_of v =
    cond (is_largest v.x v.y v.z && is_positive v.x) 0 (
    cond (is_largest v.x v.y v.z && is_negative v.x) 1 (
    cond (is_largest v.y v.x v.z && is_positive v.y) 2 (
    cond (is_largest v.y v.x v.z && is_negative v.y) 3 (
    cond (is_largest v.z v.x v.y && is_positive v.z) 4 (
    cond (is_largest v.z v.x v.y && is_negative v.z) 5 6)))))

-- "With d the size of the chosen number"
unfoldable pub chosen_size : ℕ → Ray → ℕ
chosen_size face v = nat_abs (row_of face v.x v.x v.y v.y v.z v.z)

-- u × d
unfoldable pub across : ℕ → Ray → ℤ
across face v = row_of face (neg_ℤ v.z) v.z v.x v.x v.x (neg_ℤ v.x)

-- v × d
unfoldable pub down : ℕ → Ray → ℤ
down face v = row_of face (neg_ℤ v.y) (neg_ℤ v.y) v.z (neg_ℤ v.z) (neg_ℤ v.y) (neg_ℤ v.y)

-- ---- the position on it

-- a ratio of whole numbers
pub record Ratio : Type 0 where
  pub numerator : ℤ
  pub denominator : ℕ

abbrev pub ratio : ℤ → ℕ → Ratio
ratio n d = record { numerator = n; denominator = d }

-- g of u = x / d. "CMP: g = u. ACP: g = u·(34 − 9|u|)/25 (equation 14)."
unfoldable pub adjusted : Format → ℤ → ℕ → Ratio
adjusted Format.Cmp x d = ratio x d
adjusted Format.Acp x d = ratio (x *ℤ (pos (34 * d) -ℤ pos (9 * nat_abs x))) (25 * d * d)

-- "The exact position is A·(g+1)/2 − 1/2 samples."
abbrev pub exact_position : ℕ → Ratio → Ratio
exact_position A g =
    ratio (pos A *ℤ (g.numerator +ℤ pos g.denominator) -ℤ pos g.denominator) (2 * g.denominator)

-- z / d, "rounded to the nearest whole number, halves upward": z / d + 1/2 rounded down. "Division below zero rounds down"
abbrev pub round_half_up : ℤ → ℕ → ℤ
round_half_up z d = floor_div (pos 2 *ℤ z +ℤ pos d) (2 * d)

-- "T is 64 times that, rounded to the nearest whole number, halves upward": of x / d, in a format at a face size
unfoldable pub position64 : Format → ℕ → ℤ → ℕ → ℤ
position64 format A x d =
    let exact = exact_position A (adjusted format x d) in
    round_half_up (pos 64 *ℤ exact.numerator) exact.denominator

abbrev pub located : ℕ → ℤ → ℤ → Located
located f column row = record { face = f; column = column; row = row }

-- the face, column T and row T of a ray, in a format at a face size. "Rows from v likewise."
unfoldable pub locate : Format → ℕ → Ray → Located
locate format A v =
    let f = face_of v in
    let d = chosen_size f v in
    located f (position64 format A (across f v) d) (position64 format A (down f v) d)
