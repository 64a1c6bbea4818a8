-- The weight of a place: the largest whole number under equation 109, of all whole numbers; symmetric, for every format; and the same at the place to
-- which a cube rotation leads.
use mathlib.Core.Path.{◌≡◌, refl, sym, ◌∙◌, ap, subst}
use mathlib.Core.List.{[], ◌∷◌}
use mathlib.Core.Logic.{◌⊎◌, inl, inr}
use mathlib.Core.Bool.{Bool, true, false}
use Prim.Native.Nat.{ℕ, suc, ◌+◌, ◌*◌, ◌-◌, ◌^◌, ◌≤◌, ◌<◌}
use native.Mathlib.Decide.{ℕ_discrete}
use native.Mathlib.Nat.{mul-le-mul, mul-le-mul_left, mul-lt-mul_of_pos_right, one-mul, pow-le-pow_left, one-le-pow, pow-suc, pow-zero}
use native.Mathlib.Nat.{le_refl, le_trans, lt_of_not-le, not-le_of_lt, lt_of_lt_of_le}
use native.Mathlib.Omega.{arith}
use lib.Dec.{leb, leb→le, le→leb}
use lib.IntN.{ℤ, pos, neg_ℤ, nat_abs, neg_ℤ-neg_ℤ}
use Rattle.arithmetic.specs.Searches.{largest}
use Rattle.arithmetic.proofs.Sizes.{pos_inj, nat_abs-neg, Signed, plus, minus, signed}
use Rattle.arithmetic.proofs.Ring.{Expr, var, ◌⊗◌, solve}
use Rattle.arithmetic.proofs.Searches.{IsLargest, largest-is}
use Rattle.arithmetic.proofs.Sums.{only_at, only_at-same, only_at-other}
use Rattle.cubemap.specs.declared.Format.{Format}
use Rattle.cubemap.specs.declared.Place.{Place}
use Rattle.cubemap.specs.declared.Ray.{Ray}
use Rattle.cubemap.specs.declared.Rotation.{Rotation}
use Rattle.cubemap.specs.Frames.{IsPlace}
use Rattle.cubemap.specs.PlaceToRay.{from_centre, scale, face_coordinate, ray_of}
use Rattle.cubemap.specs.Rotations.{sum_of_squares, CubeRotation}
use Rattle.cubemap.specs.Score.{weight_of, weight}
use Rattle.cubemap.proofs.FaceCoordinates.{from_centre-mirror, from_centre-inside, coordinates}
use Rattle.cubemap.proofs.Positions.{coordinate-apart}
use Rattle.cubemap.proofs.Faces.{over_sizes, table3-sizes}
use Rattle.cubemap.proofs.Rotations.{LeadsTo, leads-only}
use Rattle.cubemap.proofs.CubeRotations.{Order, xyz, xzy, yxz, yzx, zxy, zyx, in_order, flipped, Permutation, permuted, Permutes, cube-permutes}

-- ---- the largest whole number under equation 109

-- K = A² + p² + q²
abbrev pub length_squared : ℕ → ℕ → ℕ → ℕ
length_squared A p q = A * A + p * p + q * q

-- W passes the paper's test
abbrev pub Passes : ℕ → ℕ → ℕ → ℕ → Type 0
Passes A p q W = W * W * length_squared A p q ^ 3 ≤ 2 ^ 32 * A ^ 6

pub record IsWeight (A p q W : ℕ) : Type 0 where
  pub passes : Passes A p q W
  pub most : (U : ℕ) → Passes A p q U → U ≤ W

pub cube : (a : ℕ) → a ^ 3 ≡ a * a * a
cube a = pow-suc a 2 ∙ ap (λ m. m * a) (pow-suc a 1 ∙ ap (λ m. m * a) (pow-suc a 0 ∙ ap (λ m. m * a) (pow-zero a) ∙ one-mul a))

pub sixth : (A : ℕ) → (A * A) ^ 3 ≡ A ^ 6
sixth A =
    cube (A * A)
    ∙ pos_inj (A * A * (A * A) * (A * A)) (A * A * A * A * A * A)
    (let S : Expr = var 0 ⊗ var 0 in solve (pos A ∷ []) (S ⊗ S ⊗ S) (var 0 ⊗ var 0 ⊗ var 0 ⊗ var 0 ⊗ var 0 ⊗ var 0) tt)
    ∙ sym (pow-suc A 5 ∙ ap (λ m. m * A) (pow-suc A 4 ∙ ap (λ m. m * A) (pow-suc A 3 ∙ ap (λ m. m * A) (cube A))))

-- no number above 65,536 passes
pub passes-bound : (A p q U : ℕ) → 1 ≤ A → Passes A p q U → U ≤ 65536
passes-bound A p q U h_a h = at_most (lt_of_not-le (λ l.
    let s : 65536 * 65536 < U * U = lt_of_lt_of_le (omega arith) (mul-le-mul {n₁ = 65537} {m₁ = 65537} l l) in
    let a : 0 < A ^ 6 = one-le-pow 6 A h_a in
    let x : A ^ 6 ≤ length_squared A p q ^ 3 = subst (λ m. m ≤ length_squared A p q ^ 3) (sixth A) (pow-le-pow_left {n = A * A} (omega arith) 3) in
    let y : 2 ^ 32 * A ^ 6 < U * U * A ^ 6 = mul-lt-mul_of_pos_right s a in
    let z : U * U * A ^ 6 ≤ U * U * length_squared A p q ^ 3 = mul-le-mul_left (U * U) x in
    not-le_of_lt (lt_of_lt_of_le y z) h))
  where
    at_most : U < 65537 → U ≤ 65536
    at_most l = omega arith

pub weight_of-is : (A p q : ℕ) → 1 ≤ A → IsWeight A p q (weight_of A p q)
unfolding weight_of
weight_of-is A p q h_a = record {
  passes = leb→le (weight_of A p q * weight_of A p q * length_squared A p q ^ 3) (2 ^ 32 * A ^ 6) g.holds;
  most = λ U h. g.most U (passes-bound A p q U h_a h) (le→leb (U * U * length_squared A p q ^ 3) (2 ^ 32 * A ^ 6) h);
}
  where
    test : ℕ → Bool
    test W = leb (W * W * (A * A + p * p + q * q) ^ 3) (2 ^ 32 * A ^ 6)

    g : IsLargest test 65536 (weight_of A p q)
    g = largest-is test 65536 0 (omega arith) (le→leb (0 * 0 * length_squared A p q ^ 3) (2 ^ 32 * A ^ 6) (omega arith))

-- and nothing else is
pub weight_of-only : (A p q W : ℕ) → 1 ≤ A → IsWeight A p q W → weight_of A p q ≡ W
weight_of-only A p q W h_a g =
    let w = weight_of-is A p q h_a in
    let x = g.most (weight_of A p q) w.passes in
    let y = w.most W g.passes in
    omega arith

-- a number that passes, where the next one does not
pub weight-between : (A p q W : ℕ) → Passes A p q W → (Passes A p q (W + 1) → ⊥) → IsWeight A p q W
weight-between A p q W h over = record { passes = h; most = λ U u. below U (lt_of_not-le (λ l. over (fewer U l u))) }
  where
    K³ : ℕ
    K³ = length_squared A p q ^ 3

    fewer : (U : ℕ) → W + 1 ≤ U → Passes A p q U → Passes A p q (W + 1)
    fewer U l u = le_trans (mul-le-mul {m₁ = K³} {m₂ = K³} (mul-le-mul l l) (le_refl K³)) u

    below : (U : ℕ) → U < W + 1 → U ≤ W
    below U l = omega arith

-- of a place
pub weight_is : (format : Format) (A m n : ℕ) → 1 ≤ A → IsWeight A (nat_abs (from_centre A m)) (nat_abs (from_centre A n)) (weight format A m n)
unfolding weight
weight_is format A m n h_a = weight_of-is A (nat_abs (from_centre A m)) (nat_abs (from_centre A n)) h_a

pub weight-only : (format : Format) (A m n W : ℕ) → 1 ≤ A → IsWeight A (nat_abs (from_centre A m)) (nat_abs (from_centre A n)) W → weight format A m n ≡ W
unfolding weight
weight-only format A m n W h_a g = weight_of-only A (nat_abs (from_centre A m)) (nat_abs (from_centre A n)) W h_a g

pub weight-most : (format : Format) (A m n : ℕ) → 1 ≤ A → weight format A m n ≤ 65536
weight-most format A m n h_a = passes-bound A (nat_abs (from_centre A m)) (nat_abs (from_centre A n)) (weight format A m n) h_a (weight_is format A m n h_a).passes

-- 12,612 passes at every place: K is less than 3·A²
least-passes : (A p q : ℕ) → p < A → q < A → Passes A p q 12612
least-passes A p q hp hq = go (omega (arith, cubes, cube (length_squared A p q), cube (A * A), sixth A))
  where
    square : (r : ℕ) → r < A → r * r ≤ A * A
    square r h = let l : r ≤ A = omega arith in mul-le-mul l l

    K : ℕ
    K = length_squared A p q

    small : K ≤ 3 * (A * A)
    small = omega (arith, square p hp, square q hq)

    cubes : K * K * K ≤ 3 * (A * A) * (3 * (A * A)) * (3 * (A * A))
    cubes = mul-le-mul (mul-le-mul small small) small

    go : K ^ 3 ≤ 27 * A ^ 6 → Passes A p q 12612
    go h = omega arith

pub weight-least : (format : Format) (A m n : ℕ) → 1 ≤ A → m < A → n < A → 12612 ≤ weight format A m n
weight-least format A m n h_a hm hn = (weight_is format A m n h_a).most 12612
    (least-passes A (nat_abs (from_centre A m)) (nat_abs (from_centre A n)) (from_centre-inside A m hm) (from_centre-inside A n hn))

-- ---- symmetric, for every format

-- the same where column and row change places, and at the opposite column
pub record Symmetric (A : ℕ) (w : ℕ → ℕ → ℕ) : Type 0 where
  pub swap : (m n : ℕ) → w m n ≡ w n m
  pub mirror : (m n : ℕ) → m < A → w (A - suc m) n ≡ w m n

-- and at the opposite row
pub mirror-row : {A : ℕ} {w : ℕ → ℕ → ℕ} → Symmetric A w → (m n : ℕ) → n < A → w m (A - suc n) ≡ w m n
mirror-row {A} s m n h = s.swap m (A - suc n) ∙ s.mirror n m h ∙ s.swap n m

pub weight-symmetric : (format : Format) (A : ℕ) → Symmetric A (weight format A)
unfolding weight weight_of
weight-symmetric format A = record {
  swap = λ m n. ap (λ K. largest (λ W. leb (W * W * K ^ 3) (2 ^ 32 * A ^ 6)) 65536)
      (exchange (nat_abs (from_centre A m)) (nat_abs (from_centre A n)));
  mirror = λ m n h. ap (λ p. weight_of A p (nat_abs (from_centre A n))) (ap nat_abs (from_centre-mirror A m h) ∙ nat_abs-neg (from_centre A m));
}
  where
    exchange : (p q : ℕ) → A * A + p * p + q * q ≡ A * A + q * q + p * p
    exchange p q = omega arith

-- ---- the sizes of a ray's numbers do not change under a permutation

flipped-size : (b : Bool) (x : ℤ) → nat_abs (flipped b x) ≡ nat_abs x
flipped-size true x = nat_abs-neg x
flipped-size false x = refl

order-sizes : (f : ℕ → ℕ) (o : Order) (v : Ray) → over_sizes f (in_order o v) ≡ over_sizes f v
order-sizes f xyz v = refl
order-sizes f xzy v = omega arith
order-sizes f yxz v = omega arith
order-sizes f yzx v = omega arith
order-sizes f zxy v = omega arith
order-sizes f zyx v = omega arith

permuted-sizes : (f : ℕ → ℕ) (p : Permutation) (v : Ray) → over_sizes f (permuted p v) ≡ over_sizes f v
unfolding permuted
permuted-sizes f p v =
    let w : Ray = in_order p.order v in
    rw (flipped-size p.flip_x w.x, flipped-size p.flip_y w.y, flipped-size p.flip_z w.z) (order-sizes f p.order v)

-- two pairs on which each function has the same sum are the same pair, or the same the other way round
same-pair : (a b c d : ℕ) → ((f : ℕ → ℕ) → f a + f b ≡ f c + f d) → ((a ≡ c) × (b ≡ d)) ⊎ ((a ≡ d) × (b ≡ c))
same-pair a b c d h = go (ℕ_discrete c a) (ℕ_discrete d a)
  where
    go : Dec (c ≡ a) → Dec (d ≡ a) → ((a ≡ c) × (b ≡ d)) ⊎ ((a ≡ d) × (b ≡ c))
    go (yes e) x = inl (sym e, omega (arith, h (λ n. n)))
    go (no n) (yes e) = inr (sym e, omega (arith, h (λ n. n)))
    go (no n) (no m) = absurd (omega (arith, h (λ n. only_at n a 1), only_at-same a 1, only_at-other c a 1 n, only_at-other d a 1 m))

-- ---- where a cube rotation leads, every symmetric weight is the same

abbrev pub Level : ℕ → Place → Place → Type 0
Level A P Q = (w : ℕ → ℕ → ℕ) → Symmetric A w → w P.column P.row ≡ w Q.column Q.row

module _ (format : Format) (A : ℕ) (small : A ≤ 512) where
  abbrev a : ℕ → ℤ
  a m = face_coordinate format A m

  -- two columns with numbers of one size are the same or opposite
  same-or-opposite : (m n : ℕ) → m < A → n < A → nat_abs (a m) ≡ nat_abs (a n) → (m ≡ n) ⊎ (m ≡ A - suc n)
  same-or-opposite m n p q e = go (signed (a m)) (signed (a n))
    where
      same : a m ≡ a n → (m ≡ n) ⊎ (m ≡ A - suc n)
      same f = inl (coordinate-apart format A m n small p q f)

      opposite : a m ≡ neg_ℤ (a n) → (m ≡ n) ⊎ (m ≡ A - suc n)
      opposite f = inr (coordinate-apart format A m (A - suc n) small p (omega arith) (f ∙ sym ((coordinates format A).mirror n q)))

      go : Signed (a m) (nat_abs (a m)) → Signed (a n) (nat_abs (a n)) → (m ≡ n) ⊎ (m ≡ A - suc n)
      go (plus x) (plus y) = same (x ∙ ap pos e ∙ sym y)
      go (plus x) (minus y) = opposite (x ∙ ap pos e ∙ sym (neg_ℤ-neg_ℤ (pos (nat_abs (a n)))) ∙ ap neg_ℤ (sym y))
      go (minus x) (plus y) = opposite (x ∙ ap (λ i. neg_ℤ (pos i)) e ∙ ap neg_ℤ (sym y))
      go (minus x) (minus y) = same (x ∙ ap (λ i. neg_ℤ (pos i)) e ∙ sym y)

  -- one column for another of that size
  level-column : (w : ℕ → ℕ → ℕ) → Symmetric A w → (m n r : ℕ) → m < A → n < A → nat_abs (a m) ≡ nat_abs (a n) → w m r ≡ w n r
  level-column w s m n r p q e = go (same-or-opposite m n p q e)
    where
      go : (m ≡ n) ⊎ (m ≡ A - suc n) → w m r ≡ w n r
      go (inl f) = rw f
      go (inr f) = rw f (s.mirror n r q)

  permuted-level : (t : Permutation) (P Q : Place) → IsPlace A P → IsPlace A Q → ray_of format A Q ≡ permuted t (ray_of format A P) → Level A P Q
  unfolding ray_of
  permuted-level t P Q p q e w s = go (same-pair (nat_abs (a P.column)) (nat_abs (a P.row)) (nat_abs (a Q.column)) (nat_abs (a Q.row)) sums)
    where
      sums : (f : ℕ → ℕ) → f (nat_abs (a P.column)) + f (nat_abs (a P.row)) ≡ f (nat_abs (a Q.column)) + f (nat_abs (a Q.row))
      sums f = omega (
        arith,
        table3-sizes f P.face (pos (scale format A)) (a P.column) (a P.row),
        table3-sizes f Q.face (pos (scale format A)) (a Q.column) (a Q.row),
        ap (over_sizes f) e,
        permuted-sizes f t (ray_of format A P),
      )

      go : ((nat_abs (a P.column) ≡ nat_abs (a Q.column)) × (nat_abs (a P.row) ≡ nat_abs (a Q.row)))
          ⊎ ((nat_abs (a P.column) ≡ nat_abs (a Q.row)) × (nat_abs (a P.row) ≡ nat_abs (a Q.column)))
          → w P.column P.row ≡ w Q.column Q.row
      go (inl (c, r)) =
          level-column w s P.column Q.column P.row p.column-ok q.column-ok c
          ∙ s.swap Q.column P.row ∙ level-column w s P.row Q.row Q.column p.row_ok q.row_ok r ∙ s.swap Q.row Q.column
      go (inr (c, r)) =
          level-column w s P.column Q.row P.row p.column-ok q.row_ok c
          ∙ s.swap Q.row P.row ∙ level-column w s P.row Q.column Q.row p.row_ok q.column-ok r

  pub led-level : (t : Rotation) (P Q : Place) → 0 < sum_of_squares t → CubeRotation t → IsPlace A P → IsPlace A Q
      → LeadsTo t (ray_of format A P) (ray_of format A Q) → Level A P Q
  led-level t P Q h c p q e = permuted-level m.by P Q p q
      (leads-only t (ray_of format A P) (ray_of format A Q) (permuted m.by (ray_of format A P)) h e (m.leads (ray_of format A P)))
    where
      m : Permutes t
      m = cube-permutes t h c
