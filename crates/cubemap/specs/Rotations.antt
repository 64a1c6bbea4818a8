-- The paper, "Turns". A turn is a rotation here, a whole-cube turn a cube rotation, a fold a composition.
use Rattle.std.specs.Prelude.{Bool, true, false, ◌&&◌, ◌||◌, cond, List, [], ◌∷◌, ℕ, zero, suc, ◌+◌, ◌*◌, ◌/◌, ◌%◌, T, eqb, ℤ, pos, negsuc, neg_ℤ, nat_abs, ◌+ℤ◌, ◌-ℤ◌, ◌*ℤ◌}
use Rattle.arithmetic.specs.Integers.{with_sign_of, equalℤ}
use Rattle.arithmetic.specs.Searches.{largest}
use Rattle.cubemap.specs.declared.Ray.{Ray}
use Rattle.cubemap.specs.declared.Rotation.{Rotation}
use Rattle.cubemap.specs.PlaceToRay.{ray}

-- "A turn is four whole numbers (e0, e1, e2, e3)"
abbrev pub rotation : ℤ → ℤ → ℤ → ℤ → Rotation
rotation e0 e1 e2 e3 = record { e0 = e0; e1 = e1; e2 = e2; e3 = e3 }

-- (1,0,0,0)
abbrev pub identity : Rotation
identity = rotation (pos 1) (pos 0) (pos 0) (pos 0)

-- "the sum of the four squares"
unfoldable pub sum_of_squares : Rotation → ℕ
sum_of_squares t =
    nat_abs t.e0 * nat_abs t.e0 + nat_abs t.e1 * nat_abs t.e1
    + nat_abs t.e2 * nat_abs t.e2 + nat_abs t.e3 * nat_abs t.e3

-- ---- "Its matrix rows"

-- e0²+e1²−e2²−e3², 2(e1e2−e0e3), 2(e1e3+e0e2)
abbrev pub row1 : Rotation → Ray
row1 t = ray
    (t.e0 *ℤ t.e0 +ℤ t.e1 *ℤ t.e1 -ℤ t.e2 *ℤ t.e2 -ℤ t.e3 *ℤ t.e3)
    (pos 2 *ℤ (t.e1 *ℤ t.e2 -ℤ t.e0 *ℤ t.e3))
    (pos 2 *ℤ (t.e1 *ℤ t.e3 +ℤ t.e0 *ℤ t.e2))

-- 2(e1e2+e0e3), e0²−e1²+e2²−e3², 2(e2e3−e0e1)
abbrev pub row2 : Rotation → Ray
row2 t = ray
    (pos 2 *ℤ (t.e1 *ℤ t.e2 +ℤ t.e0 *ℤ t.e3))
    (t.e0 *ℤ t.e0 -ℤ t.e1 *ℤ t.e1 +ℤ t.e2 *ℤ t.e2 -ℤ t.e3 *ℤ t.e3)
    (pos 2 *ℤ (t.e2 *ℤ t.e3 -ℤ t.e0 *ℤ t.e1))

-- 2(e1e3−e0e2), 2(e2e3+e0e1), e0²−e1²−e2²+e3²
abbrev pub row3 : Rotation → Ray
row3 t = ray
    (pos 2 *ℤ (t.e1 *ℤ t.e3 -ℤ t.e0 *ℤ t.e2))
    (pos 2 *ℤ (t.e2 *ℤ t.e3 +ℤ t.e0 *ℤ t.e1))
    (t.e0 *ℤ t.e0 -ℤ t.e1 *ℤ t.e1 -ℤ t.e2 *ℤ t.e2 +ℤ t.e3 *ℤ t.e3)

abbrev pub dot : Ray → Ray → ℤ
dot r v = r.x *ℤ v.x +ℤ r.y *ℤ v.y +ℤ r.z *ℤ v.z

-- the matrix applied to a ray
unfoldable pub rotated : Rotation → Ray → Ray
rotated t v = ray (dot (row1 t) v) (dot (row2 t) v) (dot (row3 t) v)

-- ---- "A whole-cube turn is one whose nine entries are each 0 or ± the sum of the four squares." (Check 7 refuses four zeros.)

abbrev pub cube_entry : ℕ → ℤ → Bool
cube_entry S x = eqb (nat_abs x) 0 || eqb (nat_abs x) S

abbrev pub cube_row : ℕ → Ray → Bool
cube_row S r = cube_entry S r.x && cube_entry S r.y && cube_entry S r.z

unfoldable pub is_cube_rotation : Rotation → Bool
is_cube_rotation t = cube_row (sum_of_squares t) (row1 t) && cube_row (sum_of_squares t) (row2 t) && cube_row (sum_of_squares t) (row3 t)

abbrev pub CubeRotation : Rotation → Type 0
CubeRotation t = T (is_cube_rotation t)

-- ---- the fold

-- "Folding a first and a later turn is the quaternion product, first on the left."
unfoldable pub product : Rotation → Rotation → Rotation
product a b = rotation
    (a.e0 *ℤ b.e0 -ℤ a.e1 *ℤ b.e1 -ℤ a.e2 *ℤ b.e2 -ℤ a.e3 *ℤ b.e3)
    (a.e0 *ℤ b.e1 +ℤ a.e1 *ℤ b.e0 +ℤ a.e2 *ℤ b.e3 -ℤ a.e3 *ℤ b.e2)
    (a.e0 *ℤ b.e2 -ℤ a.e1 *ℤ b.e3 +ℤ a.e2 *ℤ b.e0 +ℤ a.e3 *ℤ b.e1)
    (a.e0 *ℤ b.e3 +ℤ a.e1 *ℤ b.e2 -ℤ a.e2 *ℤ b.e1 +ℤ a.e3 *ℤ b.e0)

-- does d divide all four?
abbrev pub divides_all : Rotation → ℕ → Bool
divides_all t d =
    eqb (nat_abs t.e0 % d) 0 && eqb (nat_abs t.e1 % d) 0 && eqb (nat_abs t.e2 % d) 0 && eqb (nat_abs t.e3 % d) 0

-- "the greatest whole number that divides all four": none above the sum of the four sizes does, unless all four are 0.
-- Check 7 refuses four zeros; their divisor is 1 here.
unfoldable pub common_divisor : Rotation → ℕ
common_divisor t = largest (divides_all t) (suc (nat_abs t.e0 + nat_abs t.e1 + nat_abs t.e2 + nat_abs t.e3))

-- x / d, where d divides x
abbrev pub divided_by : ℕ → ℤ → ℤ
divided_by d x = with_sign_of x (nat_abs x / d)

-- "A folded turn is divided by the greatest whole number that divides all four"
unfoldable pub divided : Rotation → Rotation
divided t =
    let d = common_divisor t in
    rotation (divided_by d t.e0) (divided_by d t.e1) (divided_by d t.e2) (divided_by d t.e3)

-- is the first nonzero number negative, where `rest` says so of those behind?
abbrev pub lead_negative : ℤ → Bool → Bool
lead_negative (pos zero) rest = rest
lead_negative (pos (suc n)) rest = false
lead_negative (negsuc n) rest = true

abbrev pub first_negative : Rotation → Bool
first_negative t = lead_negative t.e0 (lead_negative t.e1 (lead_negative t.e2 (lead_negative t.e3 false)))

abbrev pub opposite : Rotation → Rotation
opposite t = rotation (neg_ℤ t.e0) (neg_ℤ t.e1) (neg_ℤ t.e2) (neg_ℤ t.e3)

-- "then, if its first nonzero number is negative, all four change sign"
unfoldable pub sign_normalized : Rotation → Rotation
sign_normalized t = cond (first_negative t) (opposite t) t

abbrev pub reduced : Rotation → Rotation
reduced t = sign_normalized (divided t)

-- the fold of a first and a later turn
unfoldable pub compose : Rotation → Rotation → Rotation
compose first later = reduced (product first later)

-- "A sequence of turns folds one by one from (1,0,0,0), which is also the fold of none."
unfoldable pub compose_from : Rotation → List Rotation → Rotation
compose_from t [] = t
compose_from t (u ∷ us) = compose_from (compose t u) us

abbrev pub compose_all : List Rotation → Rotation
compose_all ts = compose_from identity ts

-- the four numbers are the same
abbrev pub same_numbers : Rotation → Rotation → Bool
same_numbers a b = equalℤ a.e0 b.e0 && equalℤ a.e1 b.e1 && equalℤ a.e2 b.e2 && equalℤ a.e3 b.e3

-- "Two turns are equal when both, so reduced, are the same."
unfoldable pub same_rotation : Rotation → Rotation → Bool
same_rotation a b = same_numbers (reduced a) (reduced b)
