-- The fold: a rotation is ± its common divisor times what it is reduced to, every common divisor divides that one, and a composition rotates as the
-- product does. Which of the two signs a reduction takes, only the last part of this module knows.
use mathlib.Core.Path.{◌≡◌, refl, sym, ◌∙◌, ap, subst, subst₂}
use mathlib.Core.Bool.{Bool, true, false, ◌&&◌, ◌||◌, cond, true≢false}
use mathlib.Core.List.{[], ◌∷◌}
use Prim.Native.Nat.{ℕ, zero, suc, ◌+◌, ◌*◌, ◌/◌, ◌%◌, ◌≤◌, ◌<◌, ◌∣◌}
use native.Mathlib.Nat.{mod-one, mod-eq_of_lt, lt_of_not-le, le_trans, mul-pos, div-le_self, div-mul_cancel, le_of_mul-le-mul_left}
use native.Mathlib.Nat.{dvd_of_mod-eq-zero, mod-eq-zero_of_dvd, le_of_dvd, dvd_trans, mul-dvd-mul_left}
use native.Mathlib.Omega.{arith}
use lib.Dec.{T, eqb, eqb→eq}
use borrow.Author.Tests.{eq-eqb, ne_eqb, le-ltb}
use lib.IntN.{ℤ, pos, negsuc, neg_ℤ, nat_abs, ◌*ℤ◌, *ℤ_comm}
use lib.Signed.{lt_z}
use Rattle.arithmetic.specs.Integers.{with_sign_of, equalℤ}
use Rattle.arithmetic.proofs.Tests.{passes, All4, and4, all4}
use Rattle.arithmetic.proofs.Sizes.{nat_abs-neg, nat_abs_mul, own_sign, sign-size, sign-mul, equalℤ→eq, equalℤ-refl}
use Rattle.arithmetic.proofs.Divisors.{IsGcd, gcd-exists, gcd-both-zero, gcd-zeros}
use Rattle.arithmetic.proofs.Ring.{var, ◌⊗◌, ⊖, solve}
use Rattle.arithmetic.proofs.Searches.{IsLargest, largest-is}
use Rattle.cubemap.specs.declared.Ray.{Ray}
use Rattle.cubemap.specs.declared.Rotation.{Rotation}
use Rattle.cubemap.specs.Rotations.{rotation, sum_of_squares, product, divides_all, common_divisor, divided_by, divided}
use Rattle.cubemap.specs.Rotations.{lead_negative, first_negative, opposite, sign_normalized, reduced, compose, same_numbers, same_rotation}
use Rattle.cubemap.proofs.Ranges.{Within}
use Rattle.cubemap.proofs.Rotations.{rotation-eq, multiple, sum-multiple, sum-product, LeadsTo, multiple-leads, leads-multiple, product-leads}

-- ---- numbers that divide all four

pub record Divides (t : Rotation) (d : ℕ) : Type 0 where
  pub d0 : nat_abs t.e0 % d ≡ 0
  pub d1 : nat_abs t.e1 % d ≡ 0
  pub d2 : nat_abs t.e2 % d ≡ 0
  pub d3 : nat_abs t.e3 % d ≡ 0

pub divides-in : (t : Rotation) (d : ℕ) → T (divides_all t d) → Divides t d
divides-in t d h = go (and4 (at t.e0) (at t.e1) (at t.e2) (at t.e3) h)
  where
    at : ℤ → Bool
    at x = eqb (nat_abs x % d) 0

    go : All4 (at t.e0) (at t.e1) (at t.e2) (at t.e3) → Divides t d
    go w = record {
      d0 = eqb→eq (nat_abs t.e0 % d) 0 w.first;
      d1 = eqb→eq (nat_abs t.e1 % d) 0 w.second;
      d2 = eqb→eq (nat_abs t.e2 % d) 0 w.third;
      d3 = eqb→eq (nat_abs t.e3 % d) 0 w.fourth;
    }

pub divides-out : (t : Rotation) (d : ℕ) → Divides t d → T (divides_all t d)
divides-out t d g = passes (λ i.
    eq-eqb (nat_abs t.e0 % d) 0 g.d0 i && eq-eqb (nat_abs t.e1 % d) 0 g.d1 i
    && eq-eqb (nat_abs t.e2 % d) 0 g.d2 i && eq-eqb (nat_abs t.e3 % d) 0 g.d3 i)

divides-one : (t : Rotation) → Divides t 1
divides-one t =
    record { d0 = mod-one (nat_abs t.e0); d1 = mod-one (nat_abs t.e1); d2 = mod-one (nat_abs t.e2); d3 = mod-one (nat_abs t.e3) }

-- the sum of the four sizes
abbrev pub sizes : Rotation → ℕ
sizes t = nat_abs t.e0 + nat_abs t.e1 + nat_abs t.e2 + nat_abs t.e3

-- ---- the common divisor

divisor-is : (t : Rotation) → IsLargest (divides_all t) (suc (sizes t)) (common_divisor t)
unfolding common_divisor
divisor-is t = largest-is (divides_all t) (suc (sizes t)) 1 (omega arith) (divides-out t 1 (divides-one t))

pub divisor-divides : (t : Rotation) → Divides t (common_divisor t)
divisor-divides t = divides-in t (common_divisor t) (divisor-is t).holds

pub divisor-positive : (t : Rotation) → 0 < common_divisor t
divisor-positive t = (divisor-is t).most 1 (omega arith) (divides-out t 1 (divides-one t))

-- no number that divides all four is greater, unless all four are 0
pub divisor-most : (t : Rotation) (d : ℕ) → 0 < sizes t → Divides t d → d ≤ common_divisor t
divisor-most t d h g = (divisor-is t).most d (within (lt_of_not-le away)) (divides-out t d g)
  where
    within : d < suc (sizes t) → d ≤ suc (sizes t)
    within l = omega arith

    away : suc (sizes t) ≤ d → ⊥
    away w =
        let a = sym (mod-eq_of_lt {n = nat_abs t.e0} {m = d} (omega arith)) ∙ g.d0 in
        let b = sym (mod-eq_of_lt {n = nat_abs t.e1} {m = d} (omega arith)) ∙ g.d1 in
        let c = sym (mod-eq_of_lt {n = nat_abs t.e2} {m = d} (omega arith)) ∙ g.d2 in
        let e = sym (mod-eq_of_lt {n = nat_abs t.e3} {m = d} (omega arith)) ∙ g.d3 in
        omega arith

-- ---- the divisor by pairs: of the first two numbers, of the last two, and of these two

module _ (t : Rotation) (g01 g23 g : ℕ) (x : IsGcd (nat_abs t.e0) (nat_abs t.e1) g01) (y : IsGcd (nat_abs t.e2) (nat_abs t.e3) g23)
    (z : IsGcd g01 g23 g) where
  by-pairs : Divides t g
  by-pairs = record {
    d0 = mod-eq-zero_of_dvd g (dvd_trans g z.left x.left);
    d1 = mod-eq-zero_of_dvd g (dvd_trans g z.left x.right);
    d2 = mod-eq-zero_of_dvd g (dvd_trans g z.right y.left);
    d3 = mod-eq-zero_of_dvd g (dvd_trans g z.right y.right);
  }

  greatest-by-pairs : (d : ℕ) → Divides t d → d ∣ g
  greatest-by-pairs d w = z.greatest d
      (x.greatest d (dvd_of_mod-eq-zero d w.d0) (dvd_of_mod-eq-zero d w.d1))
      (y.greatest d (dvd_of_mod-eq-zero d w.d2) (dvd_of_mod-eq-zero d w.d3))

  -- it is 0 only where all four numbers are
  none-by-pairs : g ≡ 0 → sizes t ≡ 0
  none-by-pairs e =
      let pairs = gcd-both-zero (subst (λ n. IsGcd g01 g23 n) e z) in
      let front = gcd-both-zero (subst (λ n. IsGcd (nat_abs t.e0) (nat_abs t.e1) n) pairs.0 x) in
      let back = gcd-both-zero (subst (λ n. IsGcd (nat_abs t.e2) (nat_abs t.e3) n) pairs.1 y) in
      omega arith

  pub divisor-by-pairs : 0 < g → common_divisor t ≡ g
  divisor-by-pairs h = go (sizes t) refl
    where
      zeros : (a b n : ℕ) → a ≡ 0 → b ≡ 0 → IsGcd a b n → n ≡ 0
      zeros a b n p q r = gcd-zeros n (subst₂ (λ k m. IsGcd k m n) p q r)

      go : (n : ℕ) → sizes t ≡ n → common_divisor t ≡ g
      go zero e =
          let l : g01 ≡ 0 = zeros (nat_abs t.e0) (nat_abs t.e1) g01 (omega arith) (omega arith) x in
          let r : g23 ≡ 0 = zeros (nat_abs t.e2) (nat_abs t.e3) g23 (omega arith) (omega arith) y in
          absurd (omega (arith, zeros g01 g23 g l r z))
      go (suc n) e =
          let up : g ≤ common_divisor t = divisor-most t g (omega arith) by-pairs in
          let down : common_divisor t ≤ g = le_of_dvd h (greatest-by-pairs (common_divisor t) (divisor-divides t)) in
          omega arith

  -- where all four numbers are 0, the divisor is 1
  pub divisor-of-zeros : g ≡ 0 → common_divisor t ≡ 1
  divisor-of-zeros e = omega (arith, none-by-pairs e, (divisor-is t).bounded, divisor-positive t)

  all-by-pairs : (d : ℕ) → 0 < sizes t → Divides t d → d ∣ common_divisor t
  all-by-pairs d h w = subst (λ n. d ∣ n) (sym (divisor-by-pairs some)) (greatest-by-pairs d w)
    where
      some : 0 < g
      some = lt_of_not-le (λ (l : g ≤ 0). absurd (omega (arith, none-by-pairs (omega arith))))

-- every common divisor divides it
pub divisor-all : (t : Rotation) (d : ℕ) → 0 < sizes t → Divides t d → d ∣ common_divisor t
divisor-all t d h w =
    let x = gcd-exists (nat_abs t.e0) (nat_abs t.e1) in
    let y = gcd-exists (nat_abs t.e2) (nat_abs t.e3) in
    let z = gcd-exists x.0 y.0 in
    all-by-pairs t x.0 y.0 z.0 x.1 y.1 z.1 d h w

-- ---- a rotation is a multiple of what it is reduced to

pub record Multiple (t u : Rotation) : Type 0 where
  pub by : ℤ
  pub by-nonzero : 0 < nat_abs by
  pub is : t ≡ multiple by u

-- d times x / d, where d divides x
times-divided : (x : ℤ) (d : ℕ) → nat_abs x % d ≡ 0 → x ≡ pos d *ℤ divided_by d x
times-divided x d h = sym (*ℤ_comm (pos d) (divided_by d x) ∙ sign-mul x (nat_abs x / d) d
    ∙ ap (with_sign_of x) (div-mul_cancel d (dvd_of_mod-eq-zero d h)) ∙ own_sign x)

pub divided-multiple : (t : Rotation) → t ≡ multiple (pos (common_divisor t)) (divided t)
unfolding divided multiple
divided-multiple t =
    let g = divisor-divides t in
    let d : ℕ = common_divisor t in
    rotation-eq
    (times-divided t.e0 d g.d0)
    (times-divided t.e1 d g.d1)
    (times-divided t.e2 d g.d2)
    (times-divided t.e3 d g.d3)

-- the four quotients
pub divided-numbers : (t : Rotation) → let d : ℕ = common_divisor t in
    divided t ≡ rotation (divided_by d t.e0) (divided_by d t.e1) (divided_by d t.e2) (divided_by d t.e3)
unfolding divided
divided-numbers t = refl

-- no number's size grows
pub divided-within : (B : ℕ) (t : Rotation) → Within B t → Within B (divided t)
unfolding divided
divided-within B t w = record { s0 = one t.e0 w.s0; s1 = one t.e1 w.s1; s2 = one t.e2 w.s2; s3 = one t.e3 w.s3 }
  where
    d : ℕ
    d = common_divisor t

    one : (x : ℤ) → nat_abs x ≤ B → nat_abs (divided_by d x) ≤ B
    one x h = subst (λ n. n ≤ B) (sym (sign-size x (nat_abs x / d))) (le_trans (div-le_self (nat_abs x) d) h)

-- a multiple of t is one of its opposite, by the opposite number
multiple-opposite : (k : ℤ) (t : Rotation) → multiple k t ≡ multiple (neg_ℤ k) (opposite t)
unfolding multiple
multiple-opposite k t = rotation-eq (both t.e0) (both t.e1) (both t.e2) (both t.e3)
  where
    both : (x : ℤ) → k *ℤ x ≡ neg_ℤ k *ℤ neg_ℤ x
    both x = solve (k ∷ x ∷ []) (var 0 ⊗ var 1) (⊖ (var 0) ⊗ ⊖ (var 1)) tt

-- t is plus or minus "the greatest whole number that divides all four" times u
pub record ReducedBy (t u : Rotation) : Type 0 where
  pub by : ℤ
  pub size : nat_abs by ≡ common_divisor t
  pub is : t ≡ multiple by u

pub reduced-by : (t : Rotation) → ReducedBy t (reduced t)
unfolding sign_normalized
reduced-by t = go (first_negative (divided t))
  where
    d : ℤ
    d = pos (common_divisor t)

    go : (b : Bool) → ReducedBy t (cond b (opposite (divided t)) (divided t))
    go true = record { by = neg_ℤ d; size = nat_abs-neg d; is = divided-multiple t ∙ multiple-opposite d (divided t) }
    go false = record { by = d; size = refl; is = divided-multiple t }

pub reduced-multiple : (t : Rotation) → Multiple t (reduced t)
reduced-multiple t = let r = reduced-by t in record { by = r.by; by-nonzero = subst (λ n. 0 < n) (sym r.size) (divisor-positive t); is = r.is }

-- nothing above 1 divides the four numbers of a reduced rotation
pub reduced-least : (t : Rotation) (d : ℕ) → 0 < sizes t → Divides (reduced t) d → d ≤ 1
unfolding multiple
reduced-least t d h g = le_of_mul-le-mul_left {m = d} {n = 1} {k = common_divisor t} bound (divisor-positive t)
  where
    r : ReducedBy t (reduced t)
    r = reduced-by t

    size : (x y : ℤ) → y ≡ r.by *ℤ x → nat_abs y ≡ common_divisor t * nat_abs x
    size x y e = ap nat_abs e ∙ nat_abs_mul r.by x ∙ ap (λ n. n * nat_abs x) r.size

    at : (x y : ℤ) → y ≡ r.by *ℤ x → nat_abs x % d ≡ 0 → nat_abs y % (common_divisor t * d) ≡ 0
    at x y e p = mod-eq-zero_of_dvd (common_divisor t * d)
        (subst (λ n. common_divisor t * d ∣ n) (sym (size x y e)) (mul-dvd-mul_left d (common_divisor t) (dvd_of_mod-eq-zero d p)))

    numbers : t ≡ rotation (r.by *ℤ (reduced t).e0) (r.by *ℤ (reduced t).e1) (r.by *ℤ (reduced t).e2) (r.by *ℤ (reduced t).e3)
    numbers = r.is

    bound : common_divisor t * d ≤ common_divisor t * 1
    bound = omega (
      arith,
      divisor-most t (common_divisor t * d) h (record {
        d0 = at (reduced t).e0 t.e0 (ap (λ u. u.e0) numbers) g.d0;
        d1 = at (reduced t).e1 t.e1 (ap (λ u. u.e1) numbers) g.d1;
        d2 = at (reduced t).e2 t.e2 (ap (λ u. u.e2) numbers) g.d2;
        d3 = at (reduced t).e3 t.e3 (ap (λ u. u.e3) numbers) g.d3;
      }),
    )

-- ---- compositions

-- the fold of a first and a later turn is their product, reduced
pub compose-reduced : (a b : Rotation) → compose a b ≡ reduced (product a b)
unfolding compose
compose-reduced a b = refl

pub compose-multiple : (a b : Rotation) → Multiple (product a b) (compose a b)
compose-multiple a b = subst (Multiple (product a b)) (sym (compose-reduced a b)) (reduced-multiple (product a b))

-- a composition of rotations that are not zero is not zero
pub compose-positive : (a b : Rotation) → 0 < sum_of_squares a → 0 < sum_of_squares b → 0 < sum_of_squares (compose a b)
compose-positive a b p q = right (nat_abs m.by * nat_abs m.by) (sum_of_squares (compose a b)) (subst (λ n. 0 < n) whole (mul-pos p q))
  where
    m : Multiple (product a b) (compose a b)
    m = compose-multiple a b

    whole : sum_of_squares a * sum_of_squares b ≡ nat_abs m.by * nat_abs m.by * sum_of_squares (compose a b)
    whole = sym (sum-product a b) ∙ ap sum_of_squares m.is ∙ sum-multiple m.by (compose a b)

    right : (k n : ℕ) → 0 < k * n → 0 < n
    right k zero h = absurd (omega arith)
    right k (suc n) h = omega arith

-- a composition leads where its second, the later, and then its first lead
pub compose-leads : (a b : Rotation) (u v w : Ray) → LeadsTo b u v → LeadsTo a v w → LeadsTo (compose a b) u w
compose-leads a b u v w e f =
    let m = compose-multiple a b in
    leads-multiple m.by (compose a b) u w m.by-nonzero (subst (λ t. LeadsTo t u w) m.is (product-leads a b u v w e f))

-- ---- "Two turns are equal when both, so reduced, are the same."

pub same-reduced : (a b : Rotation) → same_rotation a b ≡ same_numbers (reduced a) (reduced b)
unfolding same_rotation
same-reduced a b = refl

pub same-is : (a b : Rotation) → T (same_rotation a b) → reduced a ≡ reduced b
unfolding same_rotation
same-is a b t = go (reduced a) (reduced b) t
  where
    go : (u v : Rotation) → T (same_numbers u v) → u ≡ v
    go u v t =
        let w = and4 (equalℤ u.e0 v.e0) (equalℤ u.e1 v.e1) (equalℤ u.e2 v.e2) (equalℤ u.e3 v.e3) t in
        rotation-eq
        (equalℤ→eq u.e0 v.e0 w.first)
        (equalℤ→eq u.e1 v.e1 w.second)
        (equalℤ→eq u.e2 v.e2 w.third)
        (equalℤ→eq u.e3 v.e3 w.fourth)

pub same_of : (a b : Rotation) → reduced a ≡ reduced b → T (same_rotation a b)
unfolding same_rotation
same_of a b e = subst (λ u. T (same_numbers (reduced a) u)) e (own (reduced a))
  where
    own : (u : Rotation) → T (same_numbers u u)
    own u = all4 (equalℤ u.e0 u.e0) (equalℤ u.e1 u.e1) (equalℤ u.e2 u.e2) (equalℤ u.e3 u.e3)
        (equalℤ-refl u.e0) (equalℤ-refl u.e1) (equalℤ-refl u.e2) (equalℤ-refl u.e3)

-- equal rotations lead to the same rays
pub same-leads : (a b : Rotation) (v w : Ray) → T (same_rotation a b) → LeadsTo a v w → LeadsTo b v w
same-leads a b v w t e =
    let m = reduced-multiple a in
    let n = reduced-multiple b in
    let r : LeadsTo (reduced a) v w = leads-multiple m.by (reduced a) v w m.by-nonzero (subst (λ u. LeadsTo u v w) m.is e) in
    subst (λ u. LeadsTo u v w) (sym n.is) (multiple-leads n.by (reduced b) v w (subst (λ u. LeadsTo u v w) (same-is a b t) r))

-- ---- the sign: "if its first nonzero number is negative, all four change sign"

-- the test that code makes of each number in turn
pub lead_is : (x : ℤ) (rest : Bool) → lead_negative x rest ≡ (lt_z x (pos 0) || (eqb (nat_abs x) 0 && rest))
lead_is (pos zero) rest = refl
lead_is (pos (suc n)) rest = rw (le-ltb (suc n) 0 (omega arith), ne_eqb (suc n) 0 (λ e. absurd (omega arith)))
lead_is (negsuc n) rest = refl

pub sign-changed : (t : Rotation) → first_negative t ≡ true → sign_normalized t ≡ opposite t
unfolding sign_normalized
sign-changed t e = rw e

pub sign_kept : (t : Rotation) → first_negative t ≡ false → sign_normalized t ≡ t
unfolding sign_normalized
sign_kept t e = rw e

pub reduced-sign : (t : Rotation) → first_negative (reduced t) ≡ false
unfolding sign_normalized
reduced-sign t = go (divided t) (first_negative (divided t)) refl
  where
    flipped : (x : ℤ) (a b : Bool) → (a ≡ true → b ≡ false) → lead_negative x a ≡ true → lead_negative (neg_ℤ x) b ≡ false
    flipped (pos zero) a b h e = h e
    flipped (pos (suc n)) a b h e = absurd (true≢false (sym e))
    flipped (negsuc n) a b h e = refl

    go : (u : Rotation) (b : Bool) → first_negative u ≡ b → first_negative (cond b (opposite u) u) ≡ false
    go u true e = flipped u.e0 _ _ (flipped u.e1 _ _ (flipped u.e2 _ _ (flipped u.e3 false false (λ x. refl)))) e
    go u false e = e
