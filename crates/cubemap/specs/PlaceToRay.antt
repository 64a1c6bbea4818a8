-- The paper, "From place to ray".
use Rattle.std.specs.Prelude.{ℕ, zero, suc, ◌+◌, ◌*◌, ◌-◌, leb, ℤ, pos, neg_ℤ, nat_abs, ◌-ℤ◌, ◌*ℤ◌}
use Rattle.arithmetic.specs.Integers.{with_sign_of}
use Rattle.arithmetic.specs.Searches.{largest}
use Rattle.cubemap.specs.declared.Format.{Format}
use Rattle.cubemap.specs.declared.Place.{Place}
use Rattle.cubemap.specs.declared.Ray.{Ray}
use Rattle.cubemap.specs.declared.Shape.{Shape}
use Rattle.cubemap.specs.Interface.{format_of}

-- "Axes: X front, Y top, Z right."
abbrev pub ray : ℤ → ℤ → ℤ → Ray
ray x y z = record { x = x; y = y; z = z }

-- k times a ray
unfoldable pub times : ℕ → Ray → Ray
times k v = ray (pos k *ℤ v.x) (pos k *ℤ v.y) (pos k *ℤ v.z)

-- "p = 2m+1−A and q = 2n+1−A": of a column or a row
abbrev pub from_centre : ℕ → ℕ → ℤ
from_centre A m = pos (2 * m + 1) -ℤ pos A

-- "N = 65,536"
abbrev pub N : ℕ
N = 65536

-- ACP: "the size of a is the largest whole c from 0 to N with c·(34N − 9c)·A ≤ 25·N²·|p|", with k for |p|.
-- "This is equation 12 of document 000, rounded towards zero."
unfoldable pub curve : ℕ → ℕ → ℕ
curve A k = largest (λ c. leb (c * (34 * N - 9 * c) * A) (25 * N * N * k)) N

-- "CMP: scale s = A .. ACP: s = N"
abbrev pub scale : Format → ℕ → ℕ
scale Format.Cmp A = A
scale Format.Acp A = N

-- a of column m, and b of row m. "CMP: .. a = p, b = q." ACP: the curve is its size, "its sign that of p; b likewise from q"
abbrev pub face_coordinate : Format → ℕ → ℕ → ℤ
face_coordinate Format.Cmp A m = from_centre A m
face_coordinate Format.Acp A m = with_sign_of (from_centre A m) (curve A (nat_abs (from_centre A m)))

-- the row of a face in a table of six rows, faces 0 to 5. (A face above 5 takes the last one; no layout that passes check 5 names it, and no ray that
-- passes check 14 has it.)
abbrev pub row_of {ℓ} : {E : Type ℓ} → ℕ → E → E → E → E → E → E → E
row_of zero r0 r1 r2 r3 r4 r5 = r0
row_of (suc zero) r0 r1 r2 r3 r4 r5 = r1
row_of (suc (suc zero)) r0 r1 r2 r3 r4 r5 = r2
row_of (suc (suc (suc zero))) r0 r1 r2 r3 r4 r5 = r3
row_of (suc (suc (suc (suc zero)))) r0 r1 r2 r3 r4 r5 = r4
row_of (suc (suc (suc (suc (suc f))))) r0 r1 r2 r3 r4 r5 = r5

-- "Rays by its Table 3": face, s, a, b
unfoldable pub table3 : ℕ → ℤ → ℤ → ℤ → Ray
table3 face s a b = row_of face
    (ray s (neg_ℤ b) (neg_ℤ a))
    (ray (neg_ℤ s) (neg_ℤ b) a)
    (ray a s b)
    (ray a (neg_ℤ s) (neg_ℤ b))
    (ray a (neg_ℤ b) s)
    (ray (neg_ℤ a) (neg_ℤ b) (neg_ℤ s))

-- the ray of a place, in a format at a face size
unfoldable pub ray_of : Format → ℕ → Place → Ray
ray_of format A P =
    table3 P.face (pos (scale format A)) (face_coordinate format A P.column) (face_coordinate format A P.row)

-- the ray of a place of a frame with this shape
abbrev pub ray_in : Shape → Place → Ray
ray_in z P = ray_of (format_of z.format) z.size P
