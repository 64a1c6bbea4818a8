-- The tables of document 000: Table 4 undoes Table 3, and Table 3 undoes Table 4. A strictly largest axis decides the face; where two sizes
-- are equal, only this module knows which face is taken, and whoever makes the tests of Table 4 in their order.
use mathlib.Core.Path.{◌≡◌, refl, sym, ◌∙◌, ap, subst}
use mathlib.Core.Bool.{Bool, true, false, ◌&&◌, cond}
use Prim.Native.Nat.{ℕ, zero, suc, ◌+◌, ◌*◌, ◌≤◌, ◌<◌}
use native.Mathlib.Decide.{dec_lt}
use native.Mathlib.Nat.{mul-le-mul_left, le_of_mul-le-mul_left, lt_of_not-le}
use native.Mathlib.Omega.{arith}
use lib.Dec.{T, leb, leb→le, le→leb}
use borrow.Author.Tests.{le-leb, lt-leb, leb-true}
use lib.IntN.{ℤ, pos, negsuc, neg_ℤ, nat_abs, ◌*ℤ◌, neg_ℤ-neg_ℤ}
use Rattle.arithmetic.specs.Integers.{is_positive, is_negative}
use Rattle.arithmetic.proofs.Tests.{fails, and_left, and_right, and_both, cond_both}
use Rattle.arithmetic.proofs.Integers.{mul-neg}
use Rattle.arithmetic.proofs.Sizes.{nat_abs-neg, neg_small, nat_abs_mul, positive-size, negative-size, positive-is, negative-is, no_sign}
use Rattle.arithmetic.proofs.Sizes.{positive-pos, positive-neg, positive-times, negative-times}
use Rattle.cubemap.specs.declared.Format.{Format}
use Rattle.cubemap.specs.declared.Place.{Place}
use Rattle.cubemap.specs.declared.Ray.{Ray}
use Rattle.cubemap.specs.PlaceToRay.{ray, times, scale, face_coordinate, row_of, table3, ray_of}
use Rattle.cubemap.specs.RayToPlace.{is_largest, face_of, chosen_size, across, down}
use Rattle.cubemap.specs.Checks.{ray_nonzero}
use Rattle.cubemap.proofs.Ranges.{RayWithin, ray-not-zero}

-- ---- Table 3 by its rows

pub table3-rows : (f : ℕ) (s a b : ℤ) → table3 f s a b ≡ row_of f
    (ray s (neg_ℤ b) (neg_ℤ a))
    (ray (neg_ℤ s) (neg_ℤ b) a)
    (ray a s b)
    (ray a (neg_ℤ s) (neg_ℤ b))
    (ray a (neg_ℤ b) s)
    (ray (neg_ℤ a) (neg_ℤ b) (neg_ℤ s))
unfolding table3
table3-rows f s a b = refl

-- the ray of a place by Table 3
pub ray_of-table3 : (format : Format) (A : ℕ) (P : Place)
    → ray_of format A P ≡ table3 P.face (pos (scale format A)) (face_coordinate format A P.column) (face_coordinate format A P.row)
unfolding ray_of
ray_of-table3 format A P = refl

-- ---- Table 4 undoes Table 3

pub across-table3 : (f : ℕ) (s a b : ℤ) → across f (table3 f s a b) ≡ a
unfolding across table3
across-table3 zero s a b = neg_ℤ-neg_ℤ a
across-table3 (suc zero) s a b = refl
across-table3 (suc (suc zero)) s a b = refl
across-table3 (suc (suc (suc zero))) s a b = refl
across-table3 (suc (suc (suc (suc zero)))) s a b = refl
across-table3 (suc (suc (suc (suc (suc f))))) s a b = neg_ℤ-neg_ℤ a

pub down-table3 : (f : ℕ) (s a b : ℤ) → down f (table3 f s a b) ≡ b
unfolding down table3
down-table3 zero s a b = neg_ℤ-neg_ℤ b
down-table3 (suc zero) s a b = neg_ℤ-neg_ℤ b
down-table3 (suc (suc zero)) s a b = refl
down-table3 (suc (suc (suc zero))) s a b = neg_ℤ-neg_ℤ b
down-table3 (suc (suc (suc (suc zero)))) s a b = neg_ℤ-neg_ℤ b
down-table3 (suc (suc (suc (suc (suc f))))) s a b = neg_ℤ-neg_ℤ b

pub chosen-table3 : (f s : ℕ) (a b : ℤ) → chosen_size f (table3 f (pos s) a b) ≡ s
unfolding chosen_size table3
chosen-table3 zero s a b = refl
chosen-table3 (suc zero) s a b = nat_abs-neg (pos s)
chosen-table3 (suc (suc zero)) s a b = refl
chosen-table3 (suc (suc (suc zero))) s a b = nat_abs-neg (pos s)
chosen-table3 (suc (suc (suc (suc zero)))) s a b = refl
chosen-table3 (suc (suc (suc (suc (suc f))))) s a b = nat_abs-neg (pos s)

-- the six rows have the same three sizes: a sum of a function of the sizes of a ray's numbers
abbrev pub over_sizes : (ℕ → ℕ) → Ray → ℕ
over_sizes g v = g (nat_abs v.x) + g (nat_abs v.y) + g (nat_abs v.z)

pub table3-sizes : (g : ℕ → ℕ) (f : ℕ) (s a b : ℤ) → over_sizes g (table3 f s a b) ≡ g (nat_abs s) + g (nat_abs a) + g (nat_abs b)
unfolding table3
table3-sizes g zero s a b = rw (nat_abs-neg a, nat_abs-neg b) (omega arith)
table3-sizes g (suc zero) s a b = rw (nat_abs-neg s, nat_abs-neg b) (omega arith)
table3-sizes g (suc (suc zero)) s a b = omega arith
table3-sizes g (suc (suc (suc zero))) s a b = rw (nat_abs-neg s, nat_abs-neg b) (omega arith)
table3-sizes g (suc (suc (suc (suc zero)))) s a b = rw (nat_abs-neg b) (omega arith)
table3-sizes g (suc (suc (suc (suc (suc f))))) s a b = rw (nat_abs-neg s, nat_abs-neg a, nat_abs-neg b) (omega arith)

-- ---- a largest axis decides, the earlier one at equal sizes

-- a number that is not 0 has one of the two signs
sign-decides : (z : ℤ) (i j n : ℕ) → 0 < nat_abs z → cond (is_positive z) i (cond (is_negative z) j n) ≡ cond (is_positive z) i j
sign-decides (pos zero) i j n h = absurd (omega arith)
sign-decides (pos (suc m)) i j n h = refl
sign-decides (negsuc m) i j n h = refl

-- two sizes of which one is above a third are not both at most the third
not-largest : (a b c : ℕ) → (b ≤ a → c ≤ a → ⊥) → (leb b a && leb c a) ≡ false
not-largest a b c f = go (leb b a) (leb c a) refl refl
  where
    go : (p q : Bool) → leb b a ≡ p → leb c a ≡ q → (p && q) ≡ false
    go true true d e = absurd (f (leb-true b a d) (leb-true c a e))
    go true false d e = refl
    go false q d e = refl

module _ (r : Ray) where
  abbrev X : ℕ
  X = nat_abs r.x

  abbrev Y : ℕ
  Y = nat_abs r.y

  abbrev Z : ℕ
  Z = nat_abs r.z

  face-x : Y ≤ X → Z ≤ X → 0 < X → face_of r ≡ cond (is_positive r.x) 0 1
  unfolding face_of
  face-x p q h = rw (le-leb Y X p, le-leb Z X q) (sign-decides r.x 0 1 _ h)

  face-y : (Y ≤ X → Z ≤ X → ⊥) → X ≤ Y → Z ≤ Y → 0 < Y → face_of r ≡ cond (is_positive r.y) 2 3
  unfolding face_of
  face-y n p q h = rw (not-largest X Y Z n, le-leb X Y p, le-leb Z Y q) (sign-decides r.y 2 3 _ h)

  pub strictly-x : Y < X → Z < X → face_of r ≡ cond (is_positive r.x) 0 1
  strictly-x p q = face-x (omega arith) (omega arith) (omega arith)

  pub strictly-y : X < Y → Z < Y → face_of r ≡ cond (is_positive r.y) 2 3
  strictly-y p q = face-y (λ a b. omega arith) (omega arith) (omega arith) (omega arith)

  pub strictly-z : X < Z → Y < Z → face_of r ≡ cond (is_positive r.z) 4 5
  unfolding face_of
  strictly-z p q =
      rw (not-largest X Y Z (λ a b. omega arith), not-largest Y X Z (λ a b. omega arith), le-leb X Z (omega arith), le-leb Y Z (omega arith))
      (sign-decides r.z 4 5 _ (omega arith))

-- so a ray of Table 3 inside its face is on that face
pub face_of-table3 : (f s : ℕ) (a b : ℤ) → f < 6 → nat_abs a < s → nat_abs b < s → face_of (table3 f (pos s) a b) ≡ f
unfolding table3
face_of-table3 zero s a b h p q =
    strictly-x (ray (pos s) (neg_ℤ b) (neg_ℤ a)) (rw (nat_abs-neg b) q) (rw (nat_abs-neg a) p) ∙ rw (positive-pos s (omega arith))
face_of-table3 (suc zero) s a b h p q =
    strictly-x (ray (neg_ℤ (pos s)) (neg_ℤ b) a) (rw (nat_abs-neg b, nat_abs-neg (pos s)) q) (rw (nat_abs-neg (pos s)) p) ∙ rw (positive-neg s)
face_of-table3 (suc (suc zero)) s a b h p q = strictly-y (ray a (pos s) b) p q ∙ rw (positive-pos s (omega arith))
face_of-table3 (suc (suc (suc zero))) s a b h p q =
    strictly-y (ray a (neg_ℤ (pos s)) (neg_ℤ b)) (rw (nat_abs-neg (pos s)) p) (rw (nat_abs-neg b, nat_abs-neg (pos s)) q) ∙ rw (positive-neg s)
face_of-table3 (suc (suc (suc (suc zero)))) s a b h p q =
    strictly-z (ray a (neg_ℤ b) (pos s)) p (rw (nat_abs-neg b) q) ∙ rw (positive-pos s (omega arith))
face_of-table3 (suc (suc (suc (suc (suc zero))))) s a b h p q =
    strictly-z (ray (neg_ℤ a) (neg_ℤ b) (neg_ℤ (pos s))) (rw (nat_abs-neg a, nat_abs-neg (pos s)) p) (rw (nat_abs-neg b, nat_abs-neg (pos s)) q)
    ∙ rw (positive-neg s)
face_of-table3 (suc (suc (suc (suc (suc (suc f)))))) s a b h p q = absurd (omega arith)

-- ---- Table 3 undoes Table 4

-- the face f suits the ray r: its axis has the largest size, which is not 0, and Table 3 gives the ray back
pub record Faced (r : Ray) (f : ℕ) : Type 0 where
  pub face-ok : f < 6
  pub nonzero : 0 < chosen_size f r
  pub across-ok : nat_abs (across f r) ≤ chosen_size f r
  pub down-ok : nat_abs (down f r) ≤ chosen_size f r
  pub undone : table3 f (pos (chosen_size f r)) (across f r) (down f r) ≡ r

-- what a row of Table 4 says of the chosen number a and the two others
record Row (a b c : ℤ) (sign : Bool) : Type 0 where
  second : nat_abs b ≤ nat_abs a
  third : nat_abs c ≤ nat_abs a
  has-sign : T sign

row_says : (a b c : ℤ) (sign : Bool) → T (is_largest a b c && sign) → Row a b c sign
row_says a b c sign t = record {
  second = leb→le (nat_abs b) (nat_abs a) (and_left (leb (nat_abs b) (nat_abs a)) (leb (nat_abs c) (nat_abs a)) (and_left (is_largest a b c) sign t));
  third = leb→le (nat_abs c) (nat_abs a) (and_right (leb (nat_abs b) (nat_abs a)) (leb (nat_abs c) (nat_abs a)) (and_left (is_largest a b c) sign t));
  has-sign = and_right (is_largest a b c) sign t;
}

-- where both rows of an axis say no although its size is the largest, the number is 0
rows-deny : (a b c : ℤ) → (T (is_largest a b c && is_positive a) → ⊥) → (T (is_largest a b c && is_negative a) → ⊥)
    → nat_abs b ≤ nat_abs a → nat_abs c ≤ nat_abs a → nat_abs a ≡ 0
rows-deny a b c f g p q = no_sign a (λ t. f (both (is_positive a) t)) (λ t. g (both (is_negative a) t))
  where
    both : (s : Bool) → T s → T (is_largest a b c && s)
    both s t = and_both (is_largest a b c) s
        (and_both (leb (nat_abs b) (nat_abs a)) (leb (nat_abs c) (nat_abs a)) (le→leb (nat_abs b) (nat_abs a) p) (le→leb (nat_abs c) (nat_abs a) q)) t

-- one of three sizes is the largest
some-largest : (a b c : ℕ) → (b ≤ a → c ≤ a → ⊥) → (a ≤ b → c ≤ b → ⊥) → (a ≤ c → b ≤ c → ⊥) → ⊥
some-largest a b c f g h = go (dec_lt a b) (dec_lt a c) (dec_lt b c)
  where
    go : Dec (a < b) → Dec (a < c) → Dec (b < c) → ⊥
    go (no x) (no y) z = f (omega arith) (omega arith)
    go (no x) (yes y) z = h (omega arith) (omega arith)
    go (yes x) y (no z) = g (omega arith) (omega arith)
    go (yes x) y (yes z) = h (omega arith) (omega arith)

module _ (r : Ray) where
  faced0 : Row r.x r.y r.z (is_positive r.x) → Faced r 0
  unfolding chosen_size across down table3
  faced0 w = record {
    face-ok = omega arith;
    nonzero = positive-size r.x w.has-sign;
    across-ok = neg_small r.z w.third;
    down-ok = neg_small r.y w.second;
    undone = λ i. ray (sym (positive-is r.x w.has-sign) i) (neg_ℤ-neg_ℤ r.y i) (neg_ℤ-neg_ℤ r.z i);
  }

  faced1 : Row r.x r.y r.z (is_negative r.x) → Faced r 1
  unfolding chosen_size across down table3
  faced1 w = record {
    face-ok = omega arith;
    nonzero = negative-size r.x w.has-sign;
    across-ok = w.third;
    down-ok = neg_small r.y w.second;
    undone = λ i. ray (sym (negative-is r.x w.has-sign) i) (neg_ℤ-neg_ℤ r.y i) r.z;
  }

  faced2 : Row r.y r.x r.z (is_positive r.y) → Faced r 2
  unfolding chosen_size across down table3
  faced2 w = record {
    face-ok = omega arith;
    nonzero = positive-size r.y w.has-sign;
    across-ok = w.second;
    down-ok = w.third;
    undone = λ i. ray r.x (sym (positive-is r.y w.has-sign) i) r.z;
  }

  faced3 : Row r.y r.x r.z (is_negative r.y) → Faced r 3
  unfolding chosen_size across down table3
  faced3 w = record {
    face-ok = omega arith;
    nonzero = negative-size r.y w.has-sign;
    across-ok = w.second;
    down-ok = neg_small r.z w.third;
    undone = λ i. ray r.x (sym (negative-is r.y w.has-sign) i) (neg_ℤ-neg_ℤ r.z i);
  }

  faced4 : Row r.z r.x r.y (is_positive r.z) → Faced r 4
  unfolding chosen_size across down table3
  faced4 w = record {
    face-ok = omega arith;
    nonzero = positive-size r.z w.has-sign;
    across-ok = w.second;
    down-ok = neg_small r.y w.third;
    undone = λ i. ray r.x (neg_ℤ-neg_ℤ r.y i) (sym (positive-is r.z w.has-sign) i);
  }

  faced5 : Row r.z r.x r.y (is_negative r.z) → Faced r 5
  unfolding chosen_size across down table3
  faced5 w = record {
    face-ok = omega arith;
    nonzero = negative-size r.z w.has-sign;
    across-ok = neg_small r.x w.second;
    down-ok = neg_small r.y w.third;
    undone = λ i. ray (neg_ℤ-neg_ℤ r.x i) (neg_ℤ-neg_ℤ r.y i) (sym (negative-is r.z w.has-sign) i);
  }

-- by the rows of Table 4 in their order: where a later axis is chosen, an earlier one of no smaller size would have been, were it not 0
module _ (r : Ray) (t : T (ray_nonzero r)) (P : ℕ → Type 0) where
  abbrev PassesX : Type 0
  PassesX = nat_abs r.y ≤ nat_abs r.x → nat_abs r.z ≤ nat_abs r.x → nat_abs r.x ≡ 0

  abbrev PassesY : Type 0
  PassesY = nat_abs r.x ≤ nat_abs r.y → nat_abs r.z ≤ nat_abs r.y → nat_abs r.y ≡ 0

  take : (a b c : ℤ) (sign : Bool) (f n : ℕ) → (Row a b c sign → P f) → ((T (is_largest a b c && sign) → ⊥) → P n)
      → P (cond (is_largest a b c && sign) f n)
  take a b c sign f n here else = cond_both P (is_largest a b c && sign) f n (λ h. here (row_says a b c sign h)) else

  face-cases : (Row r.x r.y r.z (is_positive r.x) → P 0) → (Row r.x r.y r.z (is_negative r.x) → P 1)
      → (PassesX → Row r.y r.x r.z (is_positive r.y) → P 2) → (PassesX → Row r.y r.x r.z (is_negative r.y) → P 3)
      → (PassesX → PassesY → Row r.z r.x r.y (is_positive r.z) → P 4)
      → (PassesX → PassesY → Row r.z r.x r.y (is_negative r.z) → P 5) → P (face_of r)
  unfolding face_of
  face-cases p0 p1 p2 p3 p4 p5 =
      take r.x r.y r.z (is_positive r.x) 0 _ p0 (λ n0.
      take r.x r.y r.z (is_negative r.x) 1 _ p1 (λ n1.
      let x : PassesX = rows-deny r.x r.y r.z n0 n1 in
      take r.y r.x r.z (is_positive r.y) 2 _ (p2 x) (λ n2.
      take r.y r.x r.z (is_negative r.y) 3 _ (p3 x) (λ n3.
      let y : PassesY = rows-deny r.y r.x r.z n2 n3 in
      take r.z r.x r.y (is_positive r.z) 4 _ (p4 x y) (λ n4.
      take r.z r.x r.y (is_negative r.z) 5 _ (p5 x y) (λ n5.
      absurd (none x y (rows-deny r.z r.x r.y n4 n5))))))))
    where
      none : PassesX → PassesY → (nat_abs r.x ≤ nat_abs r.z → nat_abs r.y ≤ nat_abs r.z → nat_abs r.z ≡ 0) → ⊥
      none x y z = some-largest (nat_abs r.x) (nat_abs r.y) (nat_abs r.z)
          (λ p q. let e = x p q in ray-not-zero r t e (omega arith) (omega arith))
          (λ p q. let e = y p q in ray-not-zero r t (omega arith) e (omega arith))
          (λ p q. let e = z p q in ray-not-zero r t (omega arith) (omega arith) e)

-- every ray but (0, 0, 0) has a face that suits it
pub faced : (r : Ray) → T (ray_nonzero r) → Faced r (face_of r)
faced r t = face-cases r t (Faced r) (faced0 r) (faced1 r) (λ x. faced2 r) (λ x. faced3 r) (λ x y. faced4 r) (λ x y. faced5 r)

-- ---- which rays fall on a face: a test of linear numbers

-- the chosen number, taken positive towards the face
unfoldable pub toward : ℕ → Ray → ℤ
toward f v = row_of f v.x (neg_ℤ v.x) v.y (neg_ℤ v.y) v.z (neg_ℤ v.z)

-- by how much u × d and v × d have to stay below d: at equal sizes the earlier axis wins
abbrev pub across_gap : ℕ → ℕ
across_gap f = row_of f 0 0 1 1 1 1

abbrev pub down_gap : ℕ → ℕ
down_gap f = row_of f 0 0 0 0 1 1

pub record Chosen (f : ℕ) (v : Ray) : Type 0 where
  pub face-ok : f < 6
  pub ahead : toward f v ≡ pos (chosen_size f v)
  pub positive : 0 < chosen_size f v
  pub across-in : nat_abs (across f v) + across_gap f ≤ chosen_size f v
  pub down-in : nat_abs (down f v) + down_gap f ≤ chosen_size f v

-- a size below another one, which is not 0, where it would be 0 if it were not below
strictly : (a b : ℕ) → 0 < b → (b ≤ a → a ≡ 0) → a + 1 ≤ b
strictly a b p h = go (lt_of_not-le (λ l. let e = h l in omega arith))
  where
    go : a < b → a + 1 ≤ b
    go l = omega arith

opposite-is : (z : ℤ) → T (is_negative z) → neg_ℤ z ≡ pos (nat_abs z)
opposite-is (pos n) t = absurd t
opposite-is (negsuc n) t = refl

-- each ray but (0, 0, 0) passes the test of its face
pub chosen : (r : Ray) → T (ray_nonzero r) → Chosen (face_of r) r
unfolding toward chosen_size across down
chosen r t = face-cases r t (λ f. Chosen f r)
    (λ w. record {
      face-ok = omega arith;
      ahead = positive-is r.x w.has-sign;
      positive = positive-size r.x w.has-sign;
      across-in = omega (arith, neg_small r.z w.third);
      down-in = omega (arith, neg_small r.y w.second);
    })
    (λ w. record {
      face-ok = omega arith;
      ahead = opposite-is r.x w.has-sign;
      positive = negative-size r.x w.has-sign;
      across-in = omega (arith, w.third);
      down-in = omega (arith, neg_small r.y w.second);
    })
    (λ x w. let p = positive-size r.y w.has-sign in record {
      face-ok = omega arith;
      ahead = positive-is r.y w.has-sign;
      positive = p;
      across-in = after-x x w p;
      down-in = omega (arith, w.third);
    })
    (λ x w. let p = negative-size r.y w.has-sign in record {
      face-ok = omega arith;
      ahead = opposite-is r.y w.has-sign;
      positive = p;
      across-in = after-x x w p;
      down-in = omega (arith, neg_small r.z w.third);
    })
    (λ x y w. let p = positive-size r.z w.has-sign in record {
      face-ok = omega arith;
      ahead = positive-is r.z w.has-sign;
      positive = p;
      across-in = after-x' x w p;
      down-in = rw (nat_abs-neg r.y) (after-y y w p);
    })
    (λ x y w. let p = negative-size r.z w.has-sign in record {
      face-ok = omega arith;
      ahead = opposite-is r.z w.has-sign;
      positive = p;
      across-in = rw (nat_abs-neg r.x) (after-x' x w p);
      down-in = rw (nat_abs-neg r.y) (after-y y w p);
    })
  where
    after-x : {s : Bool} → PassesX r t (λ f. Chosen f r) → Row r.y r.x r.z s → 0 < nat_abs r.y → nat_abs r.x + 1 ≤ nat_abs r.y
    after-x x w p = strictly (nat_abs r.x) (nat_abs r.y) p (λ l. x l (omega (arith, w.third)))

    after-x' : {s : Bool} → PassesX r t (λ f. Chosen f r) → Row r.z r.x r.y s → 0 < nat_abs r.z → nat_abs r.x + 1 ≤ nat_abs r.z
    after-x' x w p = strictly (nat_abs r.x) (nat_abs r.z) p (λ l. x (omega (arith, w.third)) l)

    after-y : {s : Bool} → PassesY r t (λ f. Chosen f r) → Row r.z r.x r.y s → 0 < nat_abs r.z → nat_abs r.y + 1 ≤ nat_abs r.z
    after-y y w p = strictly (nat_abs r.y) (nat_abs r.z) p (λ l. y (omega (arith, w.second)) l)

-- a number whose opposite is its size is not positive
behind : (z : ℤ) → neg_ℤ z ≡ pos (nat_abs z) → is_positive z ≡ false
behind z e = ap is_positive (sym (neg_ℤ-neg_ℤ z) ∙ ap neg_ℤ e) ∙ positive-neg (nat_abs z)

-- and of no other face
pub chosen-only : (f : ℕ) (r : Ray) → Chosen f r → face_of r ≡ f
unfolding toward chosen_size across down
chosen-only zero r c =
    face-x r (omega (arith, c.down-in, nat_abs-neg r.y)) (omega (arith, c.across-in, nat_abs-neg r.z)) c.positive
    ∙ ap (λ b. cond b 0 1) (ap is_positive c.ahead ∙ positive-pos (X r) c.positive)
chosen-only (suc zero) r c =
    face-x r (omega (arith, c.down-in, nat_abs-neg r.y)) (omega (arith, c.across-in)) c.positive
    ∙ ap (λ b. cond b 0 1) (behind r.x c.ahead)
chosen-only (suc (suc zero)) r c =
    face-y r (λ p q. omega (arith, c.across-in)) (omega (arith, c.across-in)) (omega (arith, c.down-in)) c.positive
    ∙ ap (λ b. cond b 2 3) (ap is_positive c.ahead ∙ positive-pos (Y r) c.positive)
chosen-only (suc (suc (suc zero))) r c =
    face-y r (λ p q. omega (arith, c.across-in)) (omega (arith, c.across-in)) (omega (arith, c.down-in, nat_abs-neg r.z)) c.positive
    ∙ ap (λ b. cond b 2 3) (behind r.y c.ahead)
chosen-only (suc (suc (suc (suc zero)))) r c =
    strictly-z r (omega (arith, c.across-in)) (omega (arith, c.down-in, nat_abs-neg r.y))
    ∙ ap (λ b. cond b 4 5) (ap is_positive c.ahead ∙ positive-pos (Z r) c.positive)
chosen-only (suc (suc (suc (suc (suc zero))))) r c =
    strictly-z r (omega (arith, c.across-in, nat_abs-neg r.x)) (omega (arith, c.down-in, nat_abs-neg r.y))
    ∙ ap (λ b. cond b 4 5) (behind r.z c.ahead)
chosen-only (suc (suc (suc (suc (suc (suc f)))))) r c = absurd (omega (arith, c.face-ok))

-- the chosen size is that of the number towards the face
pub chosen-toward : (f : ℕ) (v : Ray) → nat_abs (toward f v) ≡ chosen_size f v
unfolding toward chosen_size
chosen-toward zero v = refl
chosen-toward (suc zero) v = nat_abs-neg v.x
chosen-toward (suc (suc zero)) v = refl
chosen-toward (suc (suc (suc zero))) v = nat_abs-neg v.y
chosen-toward (suc (suc (suc (suc zero)))) v = refl
chosen-toward (suc (suc (suc (suc (suc f))))) v = nat_abs-neg v.z

-- ---- the face by the tests that the rows of Table 4 make, in their order

module _ (r : Ray) (t : T (ray_nonzero r)) where
  pub face-by-x : Y r ≤ X r → Z r ≤ X r → (b : Bool) → is_positive r.x ≡ b → cond b 0 1 ≡ face_of r
  face-by-x p q b s = ap (λ c. cond {A = ℕ} c 0 1) (sym s) ∙ sym (face-x r p q some)
    where
      some : 0 < X r
      some = lt_of_not-le (λ (l : X r ≤ 0). ray-not-zero r t (omega arith) (omega arith) (omega arith))

  pub face-by-y : (Y r ≤ X r → Z r ≤ X r → ⊥) → X r ≤ Y r → Z r ≤ Y r → (b : Bool) → is_positive r.y ≡ b → cond b 2 3 ≡ face_of r
  face-by-y n p q b s = ap (λ c. cond {A = ℕ} c 2 3) (sym s) ∙ sym (face-y r n p q some)
    where
      some : 0 < Y r
      some = lt_of_not-le (λ (l : Y r ≤ 0). ray-not-zero r t (omega arith) (omega arith) (omega arith))

  pub face-by-z : (Y r ≤ X r → Z r ≤ X r → ⊥) → (X r ≤ Y r → Z r ≤ Y r → ⊥) → (b : Bool) → is_positive r.z ≡ b → cond b 4 5 ≡ face_of r
  face-by-z m n b s = ap (λ c. cond {A = ℕ} c 4 5) (sym s) ∙ sym (last (dec_lt (X r) (Y r)))
    where
      last : Dec (X r < Y r) → face_of r ≡ cond (is_positive r.z) 4 5
      last (yes l) = let h = lt_of_not-le (λ q. n (omega arith) q) in strictly-z r (omega arith) h
      last (no l) = let h = lt_of_not-le (λ q. m (omega arith) q) in strictly-z r h (omega arith)

-- ---- the other numbers of Table 4, by its row for a face: u × d, v × d and d, positive towards the face

abbrev pub Row4 : ℕ → Ray → ℤ → ℤ → ℤ → Type 0
Row4 f v a b d = (a ≡ across f v) × (b ≡ down f v) × (d ≡ toward f v)

pub row4-is : (f : ℕ) (v : Ray) → row_of f
    (Row4 f v (neg_ℤ v.z) (neg_ℤ v.y) v.x)
    (Row4 f v v.z (neg_ℤ v.y) (neg_ℤ v.x))
    (Row4 f v v.x v.z v.y)
    (Row4 f v v.x (neg_ℤ v.z) (neg_ℤ v.y))
    (Row4 f v v.x (neg_ℤ v.y) v.z)
    (Row4 f v (neg_ℤ v.x) (neg_ℤ v.y) (neg_ℤ v.z))
unfolding across down toward
row4-is zero v = (refl, refl, refl)
row4-is (suc zero) v = (refl, refl, refl)
row4-is (suc (suc zero)) v = (refl, refl, refl)
row4-is (suc (suc (suc zero))) v = (refl, refl, refl)
row4-is (suc (suc (suc (suc zero)))) v = (refl, refl, refl)
row4-is (suc (suc (suc (suc (suc f))))) v = (refl, refl, refl)

-- none of them exceeds the ray's bound, on whatever face
pub record RowWithin (B f : ℕ) (v : Ray) : Type 0 where
  pub across-in : nat_abs (across f v) ≤ B
  pub down-in : nat_abs (down f v) ≤ B
  pub toward-in : nat_abs (toward f v) ≤ B

pub row_within : {B : ℕ} (f : ℕ) (v : Ray) → RayWithin B v → RowWithin B f v
unfolding across down toward
row_within zero v w = record { across-in = neg_small v.z w.z; down-in = neg_small v.y w.y; toward-in = w.x }
row_within (suc zero) v w = record { across-in = w.z; down-in = neg_small v.y w.y; toward-in = neg_small v.x w.x }
row_within (suc (suc zero)) v w = record { across-in = w.x; down-in = w.z; toward-in = w.y }
row_within (suc (suc (suc zero))) v w = record { across-in = w.x; down-in = neg_small v.z w.z; toward-in = neg_small v.y w.y }
row_within (suc (suc (suc (suc zero)))) v w = record { across-in = w.x; down-in = neg_small v.y w.y; toward-in = w.z }
row_within (suc (suc (suc (suc (suc f))))) v w = record {
  across-in = neg_small v.x w.x;
  down-in = neg_small v.y w.y;
  toward-in = neg_small v.z w.z;
}

-- and on the face that the ray falls on they are ratios of at most 1
pub record Ratios (B f : ℕ) (v : Ray) : Type 0 where
  pub positive : 0 < chosen_size f v
  pub bounded : chosen_size f v ≤ B
  pub across-ok : nat_abs (across f v) ≤ chosen_size f v
  pub down-ok : nat_abs (down f v) ≤ chosen_size f v

pub chosen-ratios : {B f : ℕ} {v : Ray} → RayWithin B v → Chosen f v → Ratios B f v
chosen-ratios {B} {f} {v} w c = record {
  positive = c.positive;
  bounded = subst (λ n. n ≤ B) (chosen-toward f v) (row_within f v w).toward-in;
  across-ok = let h = c.across-in in omega arith;
  down-ok = let h = c.down-in in omega arith;
}

-- ---- a positive multiple of a ray

pub chosen-times : (k f : ℕ) (v : Ray) → chosen_size f (times k v) ≡ k * chosen_size f v
unfolding chosen_size times
chosen-times k zero v = nat_abs_mul (pos k) v.x
chosen-times k (suc zero) v = nat_abs_mul (pos k) v.x
chosen-times k (suc (suc zero)) v = nat_abs_mul (pos k) v.y
chosen-times k (suc (suc (suc zero))) v = nat_abs_mul (pos k) v.y
chosen-times k (suc (suc (suc (suc zero)))) v = nat_abs_mul (pos k) v.z
chosen-times k (suc (suc (suc (suc (suc f))))) v = nat_abs_mul (pos k) v.z

pub across-times : (k f : ℕ) (v : Ray) → across f (times k v) ≡ pos k *ℤ across f v
unfolding across times
across-times k zero v = sym (mul-neg (pos k) v.z)
across-times k (suc zero) v = refl
across-times k (suc (suc zero)) v = refl
across-times k (suc (suc (suc zero))) v = refl
across-times k (suc (suc (suc (suc zero)))) v = refl
across-times k (suc (suc (suc (suc (suc f))))) v = sym (mul-neg (pos k) v.x)

pub down-times : (k f : ℕ) (v : Ray) → down f (times k v) ≡ pos k *ℤ down f v
unfolding down times
down-times k zero v = sym (mul-neg (pos k) v.y)
down-times k (suc zero) v = sym (mul-neg (pos k) v.y)
down-times k (suc (suc zero)) v = refl
down-times k (suc (suc (suc zero))) v = sym (mul-neg (pos k) v.z)
down-times k (suc (suc (suc (suc zero)))) v = sym (mul-neg (pos k) v.y)
down-times k (suc (suc (suc (suc (suc f))))) v = sym (mul-neg (pos k) v.y)

leb-times : (k a b : ℕ) → 0 < k → leb (k * a) (k * b) ≡ leb a b
leb-times k a b h = go (leb a b) refl
  where
    go : (p : Bool) → leb a b ≡ p → leb (k * a) (k * b) ≡ p
    go true e = le-leb (k * a) (k * b) (mul-le-mul_left k (leb→le a b (rw e tt)))
    go false e = lt-leb (k * a) (k * b) (lt_of_not-le (λ l. fails e (le→leb a b (le_of_mul-le-mul_left l h))))

pub face_of-times : (k : ℕ) (v : Ray) → 0 < k → face_of (times k v) ≡ face_of v
unfolding face_of times
face_of-times k v h = rw (
  nat_abs_mul (pos k) v.x,
  nat_abs_mul (pos k) v.y,
  nat_abs_mul (pos k) v.z,
  leb-times k (nat_abs v.y) (nat_abs v.x) h,
  leb-times k (nat_abs v.z) (nat_abs v.x) h,
  leb-times k (nat_abs v.x) (nat_abs v.y) h,
  leb-times k (nat_abs v.z) (nat_abs v.y) h,
  leb-times k (nat_abs v.x) (nat_abs v.z) h,
  leb-times k (nat_abs v.y) (nat_abs v.z) h,
  positive-times k v.x h,
  positive-times k v.y h,
  positive-times k v.z h,
  negative-times k v.x h,
  negative-times k v.y h,
  negative-times k v.z h,
)
