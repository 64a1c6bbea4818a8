-- A cube rotation is one signed permutation of the axes, the same for all rays, times the sum of its four squares: each row and each column of its
-- matrix has one entry that is not 0.
use mathlib.Core.Path.{◌≡◌, refl, sym, ◌∙◌, ap, subst₂}
use mathlib.Core.Logic.{◌⊎◌, inl, inr}
use mathlib.Core.Bool.{Bool, true, false}
use mathlib.Core.List.{[], ◌∷◌}
use Prim.Native.Nat.{ℕ, ◌+◌, ◌*◌, ◌≤◌, ◌<◌}
use native.Mathlib.Nat.{mul-pos}
use native.Mathlib.Omega.{arith}
use lib.Dec.{T, eqb, eqb→eq}
use lib.IntN.{ℤ, pos, neg_ℤ, nat_abs, ◌*ℤ◌, zero-*ℤ, +ℤ_idl, +ℤ_idr}
use Rattle.arithmetic.proofs.Tests.{or_cases, and3}
use Rattle.arithmetic.proofs.Integers.{neg-mul, mul-neg}
use Rattle.arithmetic.proofs.Sizes.{nat_abs-zero, square-of, Signed, plus, minus, signed, signed-neg}
use Rattle.arithmetic.proofs.Ring.{Expr, var, con, solve}
use Rattle.cubemap.specs.declared.Format.{Format}
use Rattle.cubemap.specs.declared.Ray.{Ray}
use Rattle.cubemap.specs.declared.Rotation.{Rotation}
use Rattle.cubemap.specs.PlaceToRay.{ray, times}
use Rattle.cubemap.specs.Rotations.{sum_of_squares, row1, row2, row3, dot, rotated, cube_entry, cube_row, is_cube_rotation, CubeRotation}
use Rattle.cubemap.proofs.Rotations.{ray-eq, ray_e, dot_e, LeadsTo, size_squared, rotated-size, column1, column2, column3}
use Rattle.cubemap.proofs.Rotations.{inverse, inverse-inverse, sum-inverse, Transposed, transposed}
use Rattle.cubemap.proofs.CubeRays.{Inner, CubeRay, along_x, along_y, along_z, inner-neg}

-- ---- signed permutations of the axes

-- the six orders of three axes
pub data Order : Type 0 where
  xyz xzy yxz yzx zxy zyx : Order

abbrev pub in_order : Order → Ray → Ray
in_order xyz v = ray v.x v.y v.z
in_order xzy v = ray v.x v.z v.y
in_order yxz v = ray v.y v.x v.z
in_order yzx v = ray v.y v.z v.x
in_order zxy v = ray v.z v.x v.y
in_order zyx v = ray v.z v.y v.x

-- the opposite where the flag says so
abbrev pub flipped : Bool → ℤ → ℤ
flipped true x = neg_ℤ x
flipped false x = x

-- an order, and which of the three numbers then change sign
pub record Permutation : Type 0 where
  pub order : Order
  pub flip_x : Bool
  pub flip_y : Bool
  pub flip_z : Bool

unfoldable pub permuted : Permutation → Ray → Ray
permuted p v =
    let w = in_order p.order v in
    ray (flipped p.flip_x w.x) (flipped p.flip_y w.y) (flipped p.flip_z w.z)

-- ---- a permutation takes rays of places to rays of places

signed-flipped : (b : Bool) {x : ℤ} {n : ℕ} → Signed x n → Signed (flipped b x) n
signed-flipped true i = signed-neg i
signed-flipped false i = i

module _ (format : Format) (A : ℕ) where
  inner-flipped : (b : Bool) {x : ℤ} → Inner format A x → Inner format A (flipped b x)
  inner-flipped true i = inner-neg format A i
  inner-flipped false i = i

  cube-in-order : (o : Order) (v : Ray) → CubeRay format A v → CubeRay format A (in_order o v)
  cube-in-order xyz v (along_x x y z) = along_x x y z
  cube-in-order xyz v (along_y x y z) = along_y x y z
  cube-in-order xyz v (along_z x y z) = along_z x y z
  cube-in-order xzy v (along_x x y z) = along_x x z y
  cube-in-order xzy v (along_y x y z) = along_z x z y
  cube-in-order xzy v (along_z x y z) = along_y x z y
  cube-in-order yxz v (along_x x y z) = along_y y x z
  cube-in-order yxz v (along_y x y z) = along_x y x z
  cube-in-order yxz v (along_z x y z) = along_z y x z
  cube-in-order yzx v (along_x x y z) = along_z y z x
  cube-in-order yzx v (along_y x y z) = along_x y z x
  cube-in-order yzx v (along_z x y z) = along_y y z x
  cube-in-order zxy v (along_x x y z) = along_y z x y
  cube-in-order zxy v (along_y x y z) = along_z z x y
  cube-in-order zxy v (along_z x y z) = along_x z x y
  cube-in-order zyx v (along_x x y z) = along_z z y x
  cube-in-order zyx v (along_y x y z) = along_y z y x
  cube-in-order zyx v (along_z x y z) = along_x z y x

  pub cube-permuted : (p : Permutation) (v : Ray) → CubeRay format A v → CubeRay format A (permuted p v)
  unfolding permuted
  cube-permuted p v r = go (cube-in-order p.order v r)
    where
      go : {w : Ray} → CubeRay format A w → CubeRay format A (ray (flipped p.flip_x w.x) (flipped p.flip_y w.y) (flipped p.flip_z w.z))
      go (along_x x y z) = along_x (signed-flipped p.flip_x x) (inner-flipped p.flip_y y) (inner-flipped p.flip_z z)
      go (along_y x y z) = along_y (inner-flipped p.flip_x x) (signed-flipped p.flip_y y) (inner-flipped p.flip_z z)
      go (along_z x y z) = along_z (inner-flipped p.flip_x x) (inner-flipped p.flip_y y) (signed-flipped p.flip_z z)

-- ---- the nine entries

-- 0, or plus or minus S
pub data Entry (S : ℕ) (x : ℤ) : Type 0 where
  none : nat_abs x ≡ 0 → Entry S x
  full : nat_abs x ≡ S → Entry S x

pub record Entries (S : ℕ) (r : Ray) : Type 0 where
  pub first : Entry S r.x
  pub second : Entry S r.y
  pub third : Entry S r.z

pub record CubeMatrix (t : Rotation) : Type 0 where
  pub in-row1 : Entries (sum_of_squares t) (row1 t)
  pub in-row2 : Entries (sum_of_squares t) (row2 t)
  pub in-row3 : Entries (sum_of_squares t) (row3 t)

entry-is : (S : ℕ) (x : ℤ) → T (cube_entry S x) → Entry S x
entry-is S x t = go (or_cases (eqb (nat_abs x) 0) (eqb (nat_abs x) S) t)
  where
    go : T (eqb (nat_abs x) 0) ⊎ T (eqb (nat_abs x) S) → Entry S x
    go (inl p) = none (eqb→eq (nat_abs x) 0 p)
    go (inr p) = full (eqb→eq (nat_abs x) S p)

row_is : (S : ℕ) (r : Ray) → T (cube_row S r) → Entries S r
row_is S r t =
    let h = and3 (cube_entry S r.x) (cube_entry S r.y) (cube_entry S r.z) t in
    record { first = entry-is S r.x h.first; second = entry-is S r.y h.second; third = entry-is S r.z h.third }

pub cube-matrix : (t : Rotation) → CubeRotation t → CubeMatrix t
unfolding is_cube_rotation
cube-matrix t c =
    let S : ℕ = sum_of_squares t in
    let h = and3 (cube_row S (row1 t)) (cube_row S (row2 t)) (cube_row S (row3 t)) c in
    record { in-row1 = row_is S (row1 t) h.first; in-row2 = row_is S (row2 t) h.second; in-row3 = row_is S (row3 t) h.third }

-- the inverse of a cube rotation has the transposed matrix
pub inverse-matrix : (t : Rotation) → CubeMatrix t → CubeMatrix (inverse t)
inverse-matrix t w = record {
  in-row1 = over m.in-row1 (record { first = w.in-row1.first; second = w.in-row2.first; third = w.in-row3.first });
  in-row2 = over m.in-row2 (record { first = w.in-row1.second; second = w.in-row2.second; third = w.in-row3.second });
  in-row3 = over m.in-row3 (record { first = w.in-row1.third; second = w.in-row2.third; third = w.in-row3.third });
}
  where
    m : Transposed t
    m = transposed t

    over : {r s : Ray} → r ≡ s → Entries (sum_of_squares t) s → Entries (sum_of_squares (inverse t)) r
    over e n = subst₂ Entries (sym (sum-inverse t)) (sym e) n

-- ---- the columns have the length S, for they are the rotated axes; and so have the rows, the columns of the inverse

column-size : (t : Rotation) (axis column : Ray) → size_squared axis ≡ 1 → rotated t axis ≡ column
    → size_squared column ≡ sum_of_squares t * sum_of_squares t
column-size t axis column e r =
    sym (ap size_squared r) ∙ rotated-size t axis ∙ ap (λ n. sum_of_squares t * sum_of_squares t * n) e ∙ omega arith

record Columns (t : Rotation) : Type 0 where
  of-x : size_squared (column1 t) ≡ sum_of_squares t * sum_of_squares t
  of-y : size_squared (column2 t) ≡ sum_of_squares t * sum_of_squares t
  of-z : size_squared (column3 t) ≡ sum_of_squares t * sum_of_squares t

columns : (t : Rotation) → Columns t
unfolding rotated
columns t = record {
  of-x = column-size t (ray (pos 1) (pos 0) (pos 0)) (column1 t) refl (ray-eq (at_x (row1 t)) (at_x (row2 t)) (at_x (row3 t)));
  of-y = column-size t (ray (pos 0) (pos 1) (pos 0)) (column2 t) refl (ray-eq (at_y (row1 t)) (at_y (row2 t)) (at_y (row3 t)));
  of-z = column-size t (ray (pos 0) (pos 0) (pos 1)) (column3 t) refl (ray-eq (at-z (row1 t)) (at-z (row2 t)) (at-z (row3 t)));
}
  where
    one : Expr
    one = con (pos 1)

    none : Expr
    none = con (pos 0)

    at_x : (r : Ray) → dot r (ray (pos 1) (pos 0) (pos 0)) ≡ r.x
    at_x r = solve (r.x ∷ r.y ∷ r.z ∷ []) (dot_e (ray_e 0) (record { x = one; y = none; z = none })) (var 0) tt

    at_y : (r : Ray) → dot r (ray (pos 0) (pos 1) (pos 0)) ≡ r.y
    at_y r = solve (r.x ∷ r.y ∷ r.z ∷ []) (dot_e (ray_e 0) (record { x = none; y = one; z = none })) (var 1) tt

    at-z : (r : Ray) → dot r (ray (pos 0) (pos 0) (pos 1)) ≡ r.z
    at-z r = solve (r.x ∷ r.y ∷ r.z ∷ []) (dot_e (ray_e 0) (record { x = none; y = none; z = one })) (var 2) tt

row-size : (t : Rotation) (row column : Rotation → Ray) → row (inverse (inverse t)) ≡ column (inverse t)
    → size_squared (column (inverse t)) ≡ sum_of_squares (inverse t) * sum_of_squares (inverse t) → size_squared (row t) ≡ sum_of_squares t * sum_of_squares t
row-size t row column e n =
    ap (λ u. size_squared (row u)) (sym (inverse-inverse t)) ∙ ap size_squared e ∙ n ∙ ap (λ k. k * k) (sum-inverse t)

record Rows (t : Rotation) : Type 0 where
  of-1 : size_squared (row1 t) ≡ sum_of_squares t * sum_of_squares t
  of-2 : size_squared (row2 t) ≡ sum_of_squares t * sum_of_squares t
  of-3 : size_squared (row3 t) ≡ sum_of_squares t * sum_of_squares t

rows : (t : Rotation) → Rows t
rows t =
    let m = transposed (inverse t) in
    let c = columns (inverse t) in
    record {
      of-1 = row-size t row1 column1 m.in-row1 c.of-x;
      of-2 = row-size t row2 column2 m.in-row2 c.of-y;
      of-3 = row-size t row3 column3 m.in-row3 c.of-z;
    }

-- ---- a row has one entry that is not 0: it picks one number of the ray, and gives plus or minus S times it

record Picks (S : ℕ) (r : Ray) (number : Ray → ℤ) : Type 0 where
  flip : Bool
  is : (v : Ray) → dot r v ≡ pos S *ℤ flipped flip (number v)

picks : (S : ℕ) (r : Ray) (a : ℤ) (number : Ray → ℤ) → nat_abs a ≡ S → ((v : Ray) → dot r v ≡ a *ℤ number v) → Picks S r number
picks S r a number e d = go (signed a)
  where
    go : Signed a (nat_abs a) → Picks S r number
    go (plus p) = record { flip = false; is = λ v. d v ∙ ap (λ k. k *ℤ number v) (p ∙ ap pos e) }
    go (minus p) = record {
      flip = true;
      is = λ v. d v ∙ ap (λ k. k *ℤ number v) (p ∙ ap (λ n. neg_ℤ (pos n)) e) ∙ neg-mul (pos S) (number v) ∙ sym (mul-neg (pos S) (number v));
    }

-- which entry it is, and what the row picks
data Line (S : ℕ) (r : Ray) : Type 0 where
  in_x : nat_abs r.x ≡ S → Picks S r (λ v. v.x) → Line S r
  in_y : nat_abs r.y ≡ S → Picks S r (λ v. v.y) → Line S r
  in_z : nat_abs r.z ≡ S → Picks S r (λ v. v.z) → Line S r

line : (S : ℕ) (r : Ray) → 0 < S → Entries S r → size_squared r ≡ S * S → Line S r
line S r h e n = go e.first e.second e.third
  where
    only_x : (v : Ray) → r.y ≡ pos 0 → r.z ≡ pos 0 → dot r v ≡ r.x *ℤ v.x
    only_x v q s = rw (q, s, zero-*ℤ v.y, zero-*ℤ v.z, +ℤ_idr (r.x *ℤ v.x), +ℤ_idr (r.x *ℤ v.x))

    only-y : (v : Ray) → r.x ≡ pos 0 → r.z ≡ pos 0 → dot r v ≡ r.y *ℤ v.y
    only-y v p s = rw (p, s, zero-*ℤ v.x, zero-*ℤ v.z, +ℤ_idl (r.y *ℤ v.y), +ℤ_idr (r.y *ℤ v.y))

    only-z : (v : Ray) → r.x ≡ pos 0 → r.y ≡ pos 0 → dot r v ≡ r.z *ℤ v.z
    only-z v p q = rw (p, q, zero-*ℤ v.x, zero-*ℤ v.y, +ℤ_idl (pos 0), +ℤ_idl (r.z *ℤ v.z))

    go : Entry S r.x → Entry S r.y → Entry S r.z → Line S r
    go (full p) (none q) (none s) = in_x p (picks S r r.x (λ v. v.x) p (λ v. only_x v (nat_abs-zero r.y q) (nat_abs-zero r.z s)))
    go (none p) (full q) (none s) = in_y q (picks S r r.y (λ v. v.y) q (λ v. only-y v (nat_abs-zero r.x p) (nat_abs-zero r.z s)))
    go (none p) (none q) (full s) = in_z s (picks S r r.z (λ v. v.z) s (λ v. only-z v (nat_abs-zero r.x p) (nat_abs-zero r.y q)))
    go (none p) (none q) (none s) = absurd (omega (arith, mul-pos h h, square-of p, square-of q, square-of s))
    go (full p) (full q) s = absurd (omega (arith, mul-pos h h, square-of p, square-of q))
    go (full p) (none q) (full s) = absurd (omega (arith, mul-pos h h, square-of p, square-of s))
    go (none p) (full q) (full s) = absurd (omega (arith, mul-pos h h, square-of q, square-of s))

-- ---- the law

-- one permutation for all rays
pub record Permutes (t : Rotation) : Type 0 where
  pub by : Permutation
  pub leads : (v : Ray) → LeadsTo t v (permuted by v)

module _ (t : Rotation) (h : 0 < sum_of_squares t) (w : CubeMatrix t) where
  abbrev S : ℕ
  S = sum_of_squares t

  -- three rows that pick the numbers of an order
  permutes : {f g k : Ray → ℤ} (o : Order) → ((v : Ray) → in_order o v ≡ ray (f v) (g v) (k v))
      → Picks S (row1 t) f → Picks S (row2 t) g → Picks S (row3 t) k → Permutes t
  unfolding rotated times permuted
  permutes o e a b c = record {
    by = record { order = o; flip_x = a.flip; flip_y = b.flip; flip_z = c.flip };
    leads = λ v. ray-eq
        (a.is v ∙ ap (λ r. pos S *ℤ flipped a.flip r.x) (sym (e v)))
        (b.is v ∙ ap (λ r. pos S *ℤ flipped b.flip r.y) (sym (e v)))
        (c.is v ∙ ap (λ r. pos S *ℤ flipped c.flip r.z) (sym (e v)));
  }

  -- two entries of size S do not fit into one column of length S
  clash : (x y : ℤ) → nat_abs x * nat_abs x + nat_abs y * nat_abs y ≤ S * S → nat_abs x ≡ S → nat_abs y ≡ S → ⊥
  clash x y l p q = absurd (omega (arith, mul-pos h h, square-of p, square-of q))

  -- so the three rows have their entries in three columns, in one of six orders
  pub matrix-permutes : Permutes t
  matrix-permutes =
      go (line S (row1 t) h w.in-row1 (rows t).of-1) (line S (row2 t) h w.in-row2 (rows t).of-2)
      (line S (row3 t) h w.in-row3 (rows t).of-3)
    where
      go : Line S (row1 t) → Line S (row2 t) → Line S (row3 t) → Permutes t
      go (in_x e1 p1) (in_y e2 p2) (in_z e3 p3) = permutes xyz (λ v. refl) p1 p2 p3
      go (in_x e1 p1) (in_z e2 p2) (in_y e3 p3) = permutes xzy (λ v. refl) p1 p2 p3
      go (in_y e1 p1) (in_x e2 p2) (in_z e3 p3) = permutes yxz (λ v. refl) p1 p2 p3
      go (in_y e1 p1) (in_z e2 p2) (in_x e3 p3) = permutes yzx (λ v. refl) p1 p2 p3
      go (in_z e1 p1) (in_x e2 p2) (in_y e3 p3) = permutes zxy (λ v. refl) p1 p2 p3
      go (in_z e1 p1) (in_y e2 p2) (in_x e3 p3) = permutes zyx (λ v. refl) p1 p2 p3
      go (in_x e1 p1) (in_x e2 p2) l3 = absurd (clash (row1 t).x (row2 t).x (omega (arith, (columns t).of-x)) e1 e2)
      go (in_y e1 p1) (in_y e2 p2) l3 = absurd (clash (row1 t).y (row2 t).y (omega (arith, (columns t).of-y)) e1 e2)
      go (in_z e1 p1) (in_z e2 p2) l3 = absurd (clash (row1 t).z (row2 t).z (omega (arith, (columns t).of-z)) e1 e2)
      go (in_x e1 p1) (in_y e2 p2) (in_x e3 p3) = absurd (clash (row1 t).x (row3 t).x (omega (arith, (columns t).of-x)) e1 e3)
      go (in_x e1 p1) (in_y e2 p2) (in_y e3 p3) = absurd (clash (row2 t).y (row3 t).y (omega (arith, (columns t).of-y)) e2 e3)
      go (in_x e1 p1) (in_z e2 p2) (in_x e3 p3) = absurd (clash (row1 t).x (row3 t).x (omega (arith, (columns t).of-x)) e1 e3)
      go (in_x e1 p1) (in_z e2 p2) (in_z e3 p3) = absurd (clash (row2 t).z (row3 t).z (omega (arith, (columns t).of-z)) e2 e3)
      go (in_y e1 p1) (in_x e2 p2) (in_y e3 p3) = absurd (clash (row1 t).y (row3 t).y (omega (arith, (columns t).of-y)) e1 e3)
      go (in_y e1 p1) (in_x e2 p2) (in_x e3 p3) = absurd (clash (row2 t).x (row3 t).x (omega (arith, (columns t).of-x)) e2 e3)
      go (in_y e1 p1) (in_z e2 p2) (in_y e3 p3) = absurd (clash (row1 t).y (row3 t).y (omega (arith, (columns t).of-y)) e1 e3)
      go (in_y e1 p1) (in_z e2 p2) (in_z e3 p3) = absurd (clash (row2 t).z (row3 t).z (omega (arith, (columns t).of-z)) e2 e3)
      go (in_z e1 p1) (in_x e2 p2) (in_z e3 p3) = absurd (clash (row1 t).z (row3 t).z (omega (arith, (columns t).of-z)) e1 e3)
      go (in_z e1 p1) (in_x e2 p2) (in_x e3 p3) = absurd (clash (row2 t).x (row3 t).x (omega (arith, (columns t).of-x)) e2 e3)
      go (in_z e1 p1) (in_y e2 p2) (in_z e3 p3) = absurd (clash (row1 t).z (row3 t).z (omega (arith, (columns t).of-z)) e1 e3)
      go (in_z e1 p1) (in_y e2 p2) (in_y e3 p3) = absurd (clash (row2 t).y (row3 t).y (omega (arith, (columns t).of-y)) e2 e3)

pub cube-permutes : (t : Rotation) → 0 < sum_of_squares t → CubeRotation t → Permutes t
cube-permutes t h c = matrix-permutes t h (cube-matrix t c)
