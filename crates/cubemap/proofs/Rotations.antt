-- Rotations as matrices: M(a·b) = M(a)·M(b), a multiple of a rotation leads where it does, every rotation has an inverse, and a rotated ray
-- has S times the ray's length. They rest on identities between polynomials.
use mathlib.Core.Path.{◌≡◌, refl, sym, ◌∙◌, ap, ap₂, subst}
use mathlib.Core.Bool.{◌&&◌, not}
use mathlib.Core.List.{List, [], ◌∷◌}
use Prim.Native.Nat.{ℕ, zero, suc, ◌+◌, ◌*◌, ◌≤◌, ◌<◌}
use native.Mathlib.Nat.{mul_comm, mul-pos, mul-le-mul}
use native.Mathlib.Omega.{arith}
use lib.Dec.{T, eqb}
use lib.IntN.{ℤ, pos, neg_ℤ, nat_abs, ◌+ℤ◌, ◌-ℤ◌, ◌*ℤ◌, neg_ℤ-neg_ℤ}
use Rattle.arithmetic.proofs.Integers.{one-mul, mul_assoc}
use Rattle.arithmetic.proofs.Sizes.{pos_inj, nat_abs-neg, nat_abs_mul, square, mul-cancel, root_below}
use Rattle.arithmetic.proofs.Ring.{Expr, var, con, ◌⊕◌, ◌⊗◌, ◌⊝◌, ⊖, eval, identical, solve}
use Rattle.cubemap.specs.declared.Ray.{Ray}
use Rattle.cubemap.specs.declared.Rotation.{Rotation}
use Rattle.cubemap.specs.PlaceToRay.{ray, times}
use Rattle.cubemap.specs.Rotations.{rotation, identity, sum_of_squares, row1, row2, row3, dot, rotated, product}
use Rattle.cubemap.specs.Checks.{rotation_in_range, rotation_nonzero, ray_in_range}
use Rattle.cubemap.proofs.Ranges.{Within, rotation-range, in-range-rotation, ray-range, in-range-ray}

pub ray-eq : {v w : Ray} → v.x ≡ w.x → v.y ≡ w.y → v.z ≡ w.z → v ≡ w
ray-eq p q r = λ i. ray (p i) (q i) (r i)

pub rotation-eq : {t u : Rotation} → t.e0 ≡ u.e0 → t.e1 ≡ u.e1 → t.e2 ≡ u.e2 → t.e3 ≡ u.e3 → t ≡ u
rotation-eq p q r s = λ i. rotation (p i) (q i) (r i) (s i)

-- ---- rotations and rays as expressions, for the ring solver

pub record RotationE : Type 0 where
  pub e0 : Expr
  pub e1 : Expr
  pub e2 : Expr
  pub e3 : Expr

pub record RayE : Type 0 where
  pub x : Expr
  pub y : Expr
  pub z : Expr

-- the rotation of four unknowns, and the ray of three, from variable i on
abbrev pub rotation_e : ℕ → RotationE
rotation_e i = record { e0 = var i; e1 = var (i + 1); e2 = var (i + 2); e3 = var (i + 3) }

abbrev pub ray_e : ℕ → RayE
ray_e i = record { x = var i; y = var (i + 1); z = var (i + 2) }

abbrev pub sum_of_squares_e : RotationE → Expr
sum_of_squares_e t = t.e0 ⊗ t.e0 ⊕ t.e1 ⊗ t.e1 ⊕ t.e2 ⊗ t.e2 ⊕ t.e3 ⊗ t.e3

abbrev pub row1_e : RotationE → RayE
row1_e t = record {
  x = t.e0 ⊗ t.e0 ⊕ t.e1 ⊗ t.e1 ⊝ t.e2 ⊗ t.e2 ⊝ t.e3 ⊗ t.e3;
  y = con (pos 2) ⊗ (t.e1 ⊗ t.e2 ⊝ t.e0 ⊗ t.e3);
  z = con (pos 2) ⊗ (t.e1 ⊗ t.e3 ⊕ t.e0 ⊗ t.e2);
}

abbrev pub row2_e : RotationE → RayE
row2_e t = record {
  x = con (pos 2) ⊗ (t.e1 ⊗ t.e2 ⊕ t.e0 ⊗ t.e3);
  y = t.e0 ⊗ t.e0 ⊝ t.e1 ⊗ t.e1 ⊕ t.e2 ⊗ t.e2 ⊝ t.e3 ⊗ t.e3;
  z = con (pos 2) ⊗ (t.e2 ⊗ t.e3 ⊝ t.e0 ⊗ t.e1);
}

abbrev pub row3_e : RotationE → RayE
row3_e t = record {
  x = con (pos 2) ⊗ (t.e1 ⊗ t.e3 ⊝ t.e0 ⊗ t.e2);
  y = con (pos 2) ⊗ (t.e2 ⊗ t.e3 ⊕ t.e0 ⊗ t.e1);
  z = t.e0 ⊗ t.e0 ⊝ t.e1 ⊗ t.e1 ⊝ t.e2 ⊗ t.e2 ⊕ t.e3 ⊗ t.e3;
}

abbrev pub dot_e : RayE → RayE → Expr
dot_e r v = r.x ⊗ v.x ⊕ r.y ⊗ v.y ⊕ r.z ⊗ v.z

abbrev pub rotated_e : RotationE → RayE → RayE
rotated_e t v = record { x = dot_e (row1_e t) v; y = dot_e (row2_e t) v; z = dot_e (row3_e t) v }

abbrev pub times_e : Expr → RayE → RayE
times_e k v = record { x = k ⊗ v.x; y = k ⊗ v.y; z = k ⊗ v.z }

abbrev pub product_e : RotationE → RotationE → RotationE
product_e a b = record {
  e0 = a.e0 ⊗ b.e0 ⊝ a.e1 ⊗ b.e1 ⊝ a.e2 ⊗ b.e2 ⊝ a.e3 ⊗ b.e3;
  e1 = a.e0 ⊗ b.e1 ⊕ a.e1 ⊗ b.e0 ⊕ a.e2 ⊗ b.e3 ⊝ a.e3 ⊗ b.e2;
  e2 = a.e0 ⊗ b.e2 ⊝ a.e1 ⊗ b.e3 ⊕ a.e2 ⊗ b.e0 ⊕ a.e3 ⊗ b.e1;
  e3 = a.e0 ⊗ b.e3 ⊕ a.e1 ⊗ b.e2 ⊝ a.e2 ⊗ b.e1 ⊕ a.e3 ⊗ b.e0;
}

abbrev pub multiple_e : Expr → RotationE → RotationE
multiple_e k t = record { e0 = k ⊗ t.e0; e1 = k ⊗ t.e1; e2 = k ⊗ t.e2; e3 = k ⊗ t.e3 }

abbrev pub inverse_e : RotationE → RotationE
inverse_e t = record { e0 = t.e0; e1 = ⊖ t.e1; e2 = ⊖ t.e2; e3 = ⊖ t.e3 }

abbrev eval_ray : List ℤ → RayE → Ray
eval_ray ρ v = ray (eval ρ v.x) (eval ρ v.y) (eval ρ v.z)

-- two rays of polynomials are one ray where each of the three is one polynomial
solve_ray : (ρ : List ℤ) (l r : RayE) → T (identical ρ l.x r.x) → T (identical ρ l.y r.y) → T (identical ρ l.z r.z)
    → eval_ray ρ l ≡ eval_ray ρ r
solve_ray ρ l r p q s = ray-eq (solve ρ l.x r.x p) (solve ρ l.y r.y q) (solve ρ l.z r.z s)

-- the values of the variables: the numbers of rotations and rays, one after the other
abbrev numbers_and : Rotation → List ℤ → List ℤ
numbers_and t ρ = t.e0 ∷ t.e1 ∷ t.e2 ∷ t.e3 ∷ ρ

abbrev numbers : Rotation → List ℤ
numbers t = numbers_and t []

abbrev ray_numbers : Ray → List ℤ → List ℤ
ray_numbers v ρ = v.x ∷ v.y ∷ v.z ∷ ρ

-- ---- the sum of the four squares

pub sum-ℤ : (t : Rotation) → pos (sum_of_squares t) ≡ t.e0 *ℤ t.e0 +ℤ t.e1 *ℤ t.e1 +ℤ t.e2 *ℤ t.e2 +ℤ t.e3 *ℤ t.e3
unfolding sum_of_squares
sum-ℤ t = sym (ap₂ ◌+ℤ◌ (ap₂ ◌+ℤ◌ (ap₂ ◌+ℤ◌ (square t.e0) (square t.e1)) (square t.e2)) (square t.e3))

-- check 7: it is not 0
pub sum-positive : (t : Rotation) → T (rotation_nonzero t) → 0 < sum_of_squares t
unfolding rotation_nonzero sum_of_squares
sum-positive t h = go (nat_abs t.e0) (nat_abs t.e1) (nat_abs t.e2) (nat_abs t.e3) h
  where
    go : (a b c d : ℕ) → T (not (eqb a 0 && eqb b 0 && eqb c 0 && eqb d 0)) → 0 < a * a + b * b + c * c + d * d
    go zero zero zero zero h = absurd h
    go (suc a) b c d h = omega arith
    go zero (suc b) c d h = omega arith
    go zero zero (suc c) d h = omega arith
    go zero zero zero (suc d) h = omega arith

-- check 6: it is at most 4·31²
pub squares-bounded : (t : Rotation) → T (rotation_in_range t) → sum_of_squares t ≤ 3844
unfolding sum_of_squares
squares-bounded t h =
    let w = rotation-range t h in
    omega (arith, one t.e0 w.s0, one t.e1 w.s1, one t.e2 w.s2, one t.e3 w.s3)
  where
    one : (x : ℤ) → nat_abs x ≤ 31 → nat_abs x * nat_abs x ≤ 961
    one x l = mul-le-mul {n₂ = 31} {m₂ = 31} l l

-- no number's size is greater than a bound whose square is at least the sum
pub sum-within : (B : ℕ) (t : Rotation) → sum_of_squares t ≤ B * B → Within B t
unfolding sum_of_squares
sum-within B t h = record {
  s0 = root_below (nat_abs t.e0) B (omega arith);
  s1 = root_below (nat_abs t.e1) B (omega arith);
  s2 = root_below (nat_abs t.e2) B (omega arith);
  s3 = root_below (nat_abs t.e3) B (omega arith);
}

-- ---- the three axes moved round: rotations and rays have no first axis

abbrev pub next_axis : Rotation → Rotation
next_axis t = rotation t.e0 t.e2 t.e3 t.e1

abbrev pub next_axis_ray : Ray → Ray
next_axis_ray v = ray v.y v.z v.x

abbrev next_axis_e : RotationE → RotationE
next_axis_e t = record { e0 = t.e0; e1 = t.e2; e2 = t.e3; e3 = t.e1 }

abbrev next_axis_ray_e : RayE → RayE
next_axis_ray_e v = record { x = v.y; y = v.z; z = v.x }

-- the first of the three, by its formula
pub rotated-first : (t : Rotation) (v : Ray) → (rotated t v).x ≡ dot (row1 t) v
unfolding rotated
rotated-first t v = refl

pub product-first : (a b : Rotation) → (product a b).e1 ≡ a.e0 *ℤ b.e1 +ℤ a.e1 *ℤ b.e0 +ℤ a.e2 *ℤ b.e3 -ℤ a.e3 *ℤ b.e2
unfolding product
product-first a b = refl

-- the number without an axis
pub product-axisless : (a b : Rotation) → (product a b).e0 ≡ a.e0 *ℤ b.e0 -ℤ a.e1 *ℤ b.e1 -ℤ a.e2 *ℤ b.e2 -ℤ a.e3 *ℤ b.e3
unfolding product
product-axisless a b = refl

-- and so the others, by moving the axes round
rotated-next : (t : Rotation) (v : Ray) → rotated (next_axis t) (next_axis_ray v) ≡ next_axis_ray (rotated t v)
unfolding rotated
rotated-next t v =
    solve_ray (numbers_and t (ray_numbers v []))
    (rotated_e (next_axis_e (rotation_e 0)) (next_axis_ray_e (ray_e 4))) (next_axis_ray_e (rotated_e (rotation_e 0) (ray_e 4))) tt tt tt

product-next : (a b : Rotation) → product (next_axis a) (next_axis b) ≡ next_axis (product a b)
unfolding product
product-next a b = rotation-eq (at (λ t. t.e0) tt) (at (λ t. t.e1) tt) (at (λ t. t.e2) tt) (at (λ t. t.e3) tt)
  where
    ρ : List ℤ
    ρ = numbers_and a (numbers b)

    l : RotationE
    l = product_e (next_axis_e (rotation_e 0)) (next_axis_e (rotation_e 4))

    r : RotationE
    r = next_axis_e (product_e (rotation_e 0) (rotation_e 4))

    at : (f : RotationE → Expr) → T (identical ρ (f l) (f r)) → eval ρ (f l) ≡ eval ρ (f r)
    at f t = solve ρ (f l) (f r) t

pub rotated-axes : (t : Rotation) (v : Ray)
    → rotated t v ≡ ray (rotated t v).x (rotated (next_axis t) (next_axis_ray v)).x (rotated (next_axis (next_axis t)) (next_axis_ray (next_axis_ray v))).x
rotated-axes t v = ray-eq refl (sym (ap (λ w. w.x) (rotated-next t v)))
    (sym (ap (λ w. w.x) (rotated-next (next_axis t) (next_axis_ray v)) ∙ ap (λ w. w.y) (rotated-next t v)))

pub product-axes : (a b : Rotation)
    → product a b
    ≡ rotation (product a b).e0 (product a b).e1
    (product (next_axis a) (next_axis b)).e1 (product (next_axis (next_axis a)) (next_axis (next_axis b))).e1
product-axes a b = rotation-eq refl refl (sym (ap (λ t. t.e1) (product-next a b)))
    (sym (ap (λ t. t.e1) (product-next (next_axis a) (next_axis b)) ∙ ap (λ t. t.e2) (product-next a b)))

pub next-in-range : (t : Rotation) → T (rotation_in_range t) → T (rotation_in_range (next_axis t))
next-in-range t h =
    let w = rotation-range t h in
    in-range-rotation (next_axis t) (record { s0 = w.s0; s1 = w.s2; s2 = w.s3; s3 = w.s1 })

pub next-ray-in-range : (v : Ray) → T (ray_in_range v) → T (ray_in_range (next_axis_ray v))
next-ray-in-range v h = let w = ray-range v h in in-range-ray (next_axis_ray v) (record { x = w.y; y = w.z; z = w.x })

-- ---- products: M(a·b) = M(a)·M(b)

-- the columns of the matrix
abbrev pub column1 : Rotation → Ray
column1 t = ray (row1 t).x (row2 t).x (row3 t).x

abbrev pub column2 : Rotation → Ray
column2 t = ray (row1 t).y (row2 t).y (row3 t).y

abbrev pub column3 : Rotation → Ray
column3 t = ray (row1 t).z (row2 t).z (row3 t).z

-- a row times the matrix of t
abbrev pub row_times : Ray → Rotation → Ray
row_times r t = ray (dot r (column1 t)) (dot r (column2 t)) (dot r (column3 t))

abbrev column1_e : RotationE → RayE
column1_e t = record { x = (row1_e t).x; y = (row2_e t).x; z = (row3_e t).x }

abbrev column2_e : RotationE → RayE
column2_e t = record { x = (row1_e t).y; y = (row2_e t).y; z = (row3_e t).y }

abbrev column3_e : RotationE → RayE
column3_e t = record { x = (row1_e t).z; y = (row2_e t).z; z = (row3_e t).z }

abbrev row_times_e : RayE → RotationE → RayE
row_times_e r t = record { x = dot_e r (column1_e t); y = dot_e r (column2_e t); z = dot_e r (column3_e t) }

pub record MatrixProduct (a b : Rotation) : Type 0 where
  pub in-row1 : row1 (product a b) ≡ row_times (row1 a) b
  pub in-row2 : row2 (product a b) ≡ row_times (row2 a) b
  pub in-row3 : row3 (product a b) ≡ row_times (row3 a) b

pub matrix-product : (a b : Rotation) → MatrixProduct a b
unfolding product
matrix-product a b = record {
  in-row1 = solve_ray ρ (row1_e ab) (row_times_e (row1_e (rotation_e 0)) (rotation_e 4)) tt tt tt;
  in-row2 = solve_ray ρ (row2_e ab) (row_times_e (row2_e (rotation_e 0)) (rotation_e 4)) tt tt tt;
  in-row3 = solve_ray ρ (row3_e ab) (row_times_e (row3_e (rotation_e 0)) (rotation_e 4)) tt tt tt;
}
  where
    ρ : List ℤ
    ρ = numbers_and a (numbers b)

    ab : RotationE
    ab = product_e (rotation_e 0) (rotation_e 4)

-- a row times a matrix, applied to a ray, is the row applied to the rotated ray: for any nine entries
row-rotated : (r u v w s : Ray)
    → dot (ray (dot r (ray u.x v.x w.x)) (dot r (ray u.y v.y w.y)) (dot r (ray u.z v.z w.z))) s
    ≡ dot r (ray (dot u s) (dot v s) (dot w s))
row-rotated r u v w s =
    solve (ray_numbers r (ray_numbers u (ray_numbers v (ray_numbers w (ray_numbers s [])))))
    (dot_e (record {
      x = dot_e (ray_e 0) (record { x = var 3; y = var 6; z = var 9 });
      y = dot_e (ray_e 0) (record { x = var 4; y = var 7; z = var 10 });
      z = dot_e (ray_e 0) (record { x = var 5; y = var 8; z = var 11 });
    }) (ray_e 12))
    (dot_e (ray_e 0) (record { x = dot_e (ray_e 3) (ray_e 12); y = dot_e (ray_e 6) (ray_e 12); z = dot_e (ray_e 9) (ray_e 12) })) tt

pub rotated-product : (a b : Rotation) (v : Ray) → rotated (product a b) v ≡ rotated a (rotated b v)
unfolding rotated
rotated-product a b v = ray-eq (line (row1 a) m.in-row1) (line (row2 a) m.in-row2) (line (row3 a) m.in-row3)
  where
    m : MatrixProduct a b
    m = matrix-product a b

    line : (r : Ray) {s : Ray} → s ≡ row_times r b → dot s v ≡ dot r (rotated b v)
    line r e = ap (λ s. dot s v) e ∙ row-rotated r (row1 b) (row2 b) (row3 b) v

-- ---- a ray moved by w times another one, and rotated

abbrev pub along : Ray → ℤ → Ray → Ray
along r w e = ray (r.x +ℤ w *ℤ e.x) (r.y +ℤ w *ℤ e.y) (r.z +ℤ w *ℤ e.z)

dot-along : (row r e : Ray) (w : ℤ) → dot row (along r w e) ≡ dot row r +ℤ w *ℤ dot row e
dot-along row r e w = solve (ray_numbers row (ray_numbers r (ray_numbers e (w ∷ []))))
    (dot_e (ray_e 0) (record { x = var 3 ⊕ var 9 ⊗ var 6; y = var 4 ⊕ var 9 ⊗ var 7; z = var 5 ⊕ var 9 ⊗ var 8 }))
    (dot_e (ray_e 0) (ray_e 3) ⊕ var 9 ⊗ dot_e (ray_e 0) (ray_e 6)) tt

pub rotated-along : (t : Rotation) (r e : Ray) (w : ℤ) → rotated t (along r w e) ≡ along (rotated t r) w (rotated t e)
unfolding rotated
rotated-along t r e w = ray-eq (dot-along (row1 t) r e w) (dot-along (row2 t) r e w) (dot-along (row3 t) r e w)

pub sum-product : (a b : Rotation) → sum_of_squares (product a b) ≡ sum_of_squares a * sum_of_squares b
unfolding product
sum-product a b = pos_inj (sum_of_squares (product a b)) (sum_of_squares a * sum_of_squares b)
    (sum-ℤ (product a b)
    ∙ solve (numbers_and a (numbers b)) (sum_of_squares_e (product_e (rotation_e 0) (rotation_e 4)))
    (sum_of_squares_e (rotation_e 0) ⊗ sum_of_squares_e (rotation_e 4)) tt
    ∙ sym (ap₂ ◌*ℤ◌ (sum-ℤ a) (sum-ℤ b)))

-- so the numbers of a product of two rotations within check 6 have sizes of at most 4·31²
pub product-within : (a b : Rotation) → T (rotation_in_range a) → T (rotation_in_range b) → Within 3844 (product a b)
product-within a b p q =
    sum-within 3844 (product a b) (subst (λ n. n ≤ 3844 * 3844) (sym (sum-product a b)) (mul-le-mul (squares-bounded a p) (squares-bounded b q)))

-- ---- multiples of rays

pub times-times : (j k : ℕ) (v : Ray) → times j (times k v) ≡ times (j * k) v
unfolding times
times-times j k v =
    ray-eq (sym (mul_assoc (pos j) (pos k) v.x)) (sym (mul_assoc (pos j) (pos k) v.y)) (sym (mul_assoc (pos j) (pos k) v.z))

pub times-cancel : (k : ℕ) (v w : Ray) → 0 < k → times k v ≡ times k w → v ≡ w
unfolding times
times-cancel k v w h e =
    ray-eq
    (mul-cancel k v.x w.x h (ap (λ r. r.x) e))
    (mul-cancel k v.y w.y h (ap (λ r. r.y) e))
    (mul-cancel k v.z w.z h (ap (λ r. r.z) e))

pub rotated-times : (k : ℕ) (t : Rotation) (v : Ray) → rotated t (times k v) ≡ times k (rotated t v)
unfolding rotated times
rotated-times k t v =
    solve_ray (numbers_and t (ray_numbers v (pos k ∷ []))) (rotated_e (rotation_e 0) (times_e (var 7) (ray_e 4)))
    (times_e (var 7) (rotated_e (rotation_e 0) (ray_e 4))) tt tt tt

-- ---- multiples of rotations

unfoldable pub multiple : ℤ → Rotation → Rotation
multiple k t = rotation (k *ℤ t.e0) (k *ℤ t.e1) (k *ℤ t.e2) (k *ℤ t.e3)

pub sum-multiple : (k : ℤ) (t : Rotation) → sum_of_squares (multiple k t) ≡ nat_abs k * nat_abs k * sum_of_squares t
unfolding sum_of_squares multiple
sum-multiple k t = rw (nat_abs_mul k t.e0, nat_abs_mul k t.e1, nat_abs_mul k t.e2, nat_abs_mul k t.e3) (omega arith)

pub rotated-multiple : (k : ℤ) (t : Rotation) (v : Ray) → rotated (multiple k t) v ≡ times (nat_abs k * nat_abs k) (rotated t v)
unfolding rotated multiple times
rotated-multiple k t v =
    solve_ray (numbers_and t (ray_numbers v (k ∷ []))) (rotated_e (multiple_e (var 7) (rotation_e 0)) (ray_e 4))
    (times_e (var 7 ⊗ var 7) (rotated_e (rotation_e 0) (ray_e 4))) tt tt tt
    ∙ ap (λ n. ray (n *ℤ dot (row1 t) v) (n *ℤ dot (row2 t) v) (n *ℤ dot (row3 t) v)) (square k)

-- ---- where a rotation leads: from the ray v to the ray R·v/S

abbrev pub LeadsTo : Rotation → Ray → Ray → Type 0
LeadsTo t v w = rotated t v ≡ times (sum_of_squares t) w

-- a nonzero multiple leads to the same rays
pub multiple-leads : (k : ℤ) (t : Rotation) (v w : Ray) → LeadsTo t v w → LeadsTo (multiple k t) v w
multiple-leads k t v w e =
    rotated-multiple k t v ∙ ap (times (nat_abs k * nat_abs k)) e ∙ times-times (nat_abs k * nat_abs k) (sum_of_squares t) w
    ∙ ap (λ n. times n w) (sym (sum-multiple k t))

pub leads-multiple : (k : ℤ) (t : Rotation) (v w : Ray) → 0 < nat_abs k → LeadsTo (multiple k t) v w → LeadsTo t v w
leads-multiple k t v w h e = times-cancel (nat_abs k * nat_abs k) (rotated t v) (times (sum_of_squares t) w) (mul-pos h h)
    (sym (rotated-multiple k t v) ∙ e ∙ ap (λ n. times n w) (sum-multiple k t) ∙ sym (times-times (nat_abs k * nat_abs k) (sum_of_squares t) w))

-- a product leads where its second and then its first lead
pub product-leads : (a b : Rotation) (u v w : Ray) → LeadsTo b u v → LeadsTo a v w → LeadsTo (product a b) u w
product-leads a b u v w e f =
    rotated-product a b u ∙ ap (rotated a) e ∙ rotated-times (sum_of_squares b) a v ∙ ap (times (sum_of_squares b)) f
    ∙ times-times (sum_of_squares b) (sum_of_squares a) w ∙ ap (λ n. times n w) (mul_comm (sum_of_squares b) (sum_of_squares a) ∙ sym (sum-product a b))

-- no rotation but (0, 0, 0, 0) leads to two rays
pub leads-only : (t : Rotation) (u v w : Ray) → 0 < sum_of_squares t → LeadsTo t u v → LeadsTo t u w → v ≡ w
leads-only t u v w h e f = times-cancel (sum_of_squares t) v w h (sym e ∙ f)

-- ---- the identity and the inverse

pub rotated-identity : (v : Ray) → rotated identity v ≡ v
unfolding rotated
rotated-identity v = solve_ray (ray_numbers v []) (rotated_e one (ray_e 0)) (ray_e 0) tt tt tt
  where
    one : RotationE
    one = record { e0 = con (pos 1); e1 = con (pos 0); e2 = con (pos 0); e3 = con (pos 0) }

pub identity-positive : 0 < sum_of_squares identity
unfolding sum_of_squares
identity-positive = omega arith

pub identity-leads : (v : Ray) → LeadsTo identity v v
unfolding sum_of_squares times
identity-leads v = rotated-identity v ∙ sym (ray-eq (one-mul v.x) (one-mul v.y) (one-mul v.z))

unfoldable pub inverse : Rotation → Rotation
inverse t = rotation t.e0 (neg_ℤ t.e1) (neg_ℤ t.e2) (neg_ℤ t.e3)

pub sum-inverse : (t : Rotation) → sum_of_squares (inverse t) ≡ sum_of_squares t
unfolding sum_of_squares inverse
sum-inverse t = rw (nat_abs-neg t.e1, nat_abs-neg t.e2, nat_abs-neg t.e3)

-- t and its inverse make S times the identity
inverse-product : (t : Rotation) → product (inverse t) t ≡ multiple (pos (sum_of_squares t)) identity
unfolding product inverse multiple
inverse-product t = subst (λ S. product (inverse t) t ≡ rotation (S *ℤ pos 1) (S *ℤ pos 0) (S *ℤ pos 0) (S *ℤ pos 0)) (sym (sum-ℤ t))
    (rotation-eq
    (solve (numbers t) p.e0 (S ⊗ con (pos 1)) tt)
    (solve (numbers t) p.e1 (S ⊗ con (pos 0)) tt)
    (solve (numbers t) p.e2 (S ⊗ con (pos 0)) tt)
    (solve (numbers t) p.e3 (S ⊗ con (pos 0)) tt))
  where
    p : RotationE
    p = product_e (inverse_e (rotation_e 0)) (rotation_e 0)

    S : Expr
    S = sum_of_squares_e (rotation_e 0)

pub inverse-inverse : (t : Rotation) → inverse (inverse t) ≡ t
unfolding inverse
inverse-inverse t = rotation-eq refl (neg_ℤ-neg_ℤ t.e1) (neg_ℤ-neg_ℤ t.e2) (neg_ℤ-neg_ℤ t.e3)

pub inverse-rotated : (t : Rotation) (v : Ray) → rotated (inverse t) (rotated t v) ≡ times (sum_of_squares t * sum_of_squares t) v
inverse-rotated t v =
    sym (rotated-product (inverse t) t v) ∙ ap (λ u. rotated u v) (inverse-product t)
    ∙ rotated-multiple (pos (sum_of_squares t)) identity v ∙ ap (times (sum_of_squares t * sum_of_squares t)) (rotated-identity v)

-- the inverse leads back
pub inverse-leads : (t : Rotation) (v w : Ray) → 0 < sum_of_squares t → LeadsTo t v w → LeadsTo (inverse t) w v
inverse-leads t v w h e =
    times-cancel S (rotated (inverse t) w) (times S v) h
    (sym (rotated-times S (inverse t) w) ∙ ap (rotated (inverse t)) (sym e) ∙ inverse-rotated t v ∙ sym (times-times S S v))
    ∙ ap (λ n. times n v) (sym (sum-inverse t))
  where
    S : ℕ
    S = sum_of_squares t

-- the inverse's matrix is the transposed one
pub record Transposed (t : Rotation) : Type 0 where
  pub in-row1 : row1 (inverse t) ≡ column1 t
  pub in-row2 : row2 (inverse t) ≡ column2 t
  pub in-row3 : row3 (inverse t) ≡ column3 t

pub transposed : (t : Rotation) → Transposed t
unfolding inverse
transposed t = record {
  in-row1 = solve_ray (numbers t) (row1_e (inverse_e (rotation_e 0))) (column1_e (rotation_e 0)) tt tt tt;
  in-row2 = solve_ray (numbers t) (row2_e (inverse_e (rotation_e 0))) (column2_e (rotation_e 0)) tt tt tt;
  in-row3 = solve_ray (numbers t) (row3_e (inverse_e (rotation_e 0))) (column3_e (rotation_e 0)) tt tt tt;
}

-- ---- lengths: |R·r|² = S²·|r|²

abbrev pub size_squared : Ray → ℕ
size_squared r = nat_abs r.x * nat_abs r.x + nat_abs r.y * nat_abs r.y + nat_abs r.z * nat_abs r.z

pub size-ℤ : (r : Ray) → dot r r ≡ pos (size_squared r)
size-ℤ r = ap₂ ◌+ℤ◌ (ap₂ ◌+ℤ◌ (square r.x) (square r.y)) (square r.z)

-- a rotation moves to the other side of a product of rays as its inverse
dot-rotated : (t : Rotation) (u w : Ray) → dot (rotated t u) w ≡ dot u (rotated (inverse t) w)
unfolding rotated inverse
dot-rotated t u w =
    solve (numbers_and t (ray_numbers u (ray_numbers w []))) (dot_e (rotated_e (rotation_e 0) (ray_e 4)) (ray_e 7))
    (dot_e (ray_e 4) (rotated_e (inverse_e (rotation_e 0)) (ray_e 7))) tt

dot-times : (k : ℕ) (u w : Ray) → dot u (times k w) ≡ pos k *ℤ dot u w
unfolding times
dot-times k u w = solve (pos k ∷ ray_numbers u (ray_numbers w [])) (dot_e (ray_e 1) (times_e (var 0) (ray_e 4))) (var 0 ⊗ dot_e (ray_e 1) (ray_e 4)) tt

pub rotated-size : (t : Rotation) (r : Ray) → size_squared (rotated t r) ≡ sum_of_squares t * sum_of_squares t * size_squared r
rotated-size t r = pos_inj (size_squared (rotated t r)) (S * S * size_squared r)
    (sym (size-ℤ (rotated t r)) ∙ dot-rotated t r (rotated t r) ∙ ap (dot r) (inverse-rotated t r) ∙ dot-times (S * S) r r
    ∙ ap (λ z. pos (S * S) *ℤ z) (size-ℤ r))
  where
    S : ℕ
    S = sum_of_squares t
