-- The greatest common divisor of two numbers: what it is, and that halving and subtraction keep it. What the count of a number's trailing zeros
-- says of it.
use mathlib.Core.Path.{◌≡◌, refl, sym, ap, ◌∙◌, subst, subst₂}
use mathlib.Core.Logic.{⊎_elim, ◌⊎◌, inl, inr, ∥∥₁_elim}
use Prim.Native.Nat.{ℕ, zero, suc, ◌+◌, ◌-◌, ◌*◌, ◌/◌, ◌%◌, ◌^◌, ◌<◌, ◌≤◌, ◌∣◌}
use native.Mathlib.Nat.{pow-suc, mul_assoc, mul_comm, mul-one, mul-add, mul-zero, div-one, div-add-mod', div-div-eq-div-mul, mod-eq_of_lt}
use native.Mathlib.Nat.{lt_of_le_of_lt, mul-le-mul_right, le_of_dvd, ∣_prop, dvd_refl, dvd_trans, dvd-add, dvd-sub, dvd-zero, dvd-mul_right}
use native.Mathlib.Nat.{dvd-mul_right_of_dvd, dvd_of_mul-dvd-mul_right, mul-dvd-mul_right, eq-zero_of_zero-dvd}
use native.Mathlib.Decide.{dec_lt}
use native.Mathlib.Omega.{arith}
use lib.Count.{count_trailing_zeros, under}
use lib.Dec.{lit<}
use lib.Pow.{pow-add}

-- g divides both, and every number that divides both divides g
pub record IsGcd (a b g : ℕ) : Type 0 where
  pub left : g ∣ a
  pub right : g ∣ b
  pub greatest : (d : ℕ) → d ∣ a → d ∣ b → d ∣ g

pub gcd-same : (a : ℕ) → IsGcd a a a
gcd-same a = record { left = dvd_refl a; right = dvd_refl a; greatest = λ d h k. h }

pub gcd-swap : {a b g : ℕ} → IsGcd a b g → IsGcd b a g
gcd-swap r = record { left = r.right; right = r.left; greatest = λ d h k. r.greatest d k h }

pub gcd-zero : (b : ℕ) → IsGcd 0 b b
gcd-zero b = record { left = dvd-zero b; right = dvd_refl b; greatest = λ d h k. k }

-- the smaller number taken off the larger one
pub gcd-less : {a b g : ℕ} → a ≤ b → IsGcd a (b - a) g → IsGcd a b g
gcd-less {a} {b} {g} l r = record {
  left = r.left;
  right = subst (λ m. g ∣ m) back (dvd-add g r.left r.right);
  greatest = λ d h m. r.greatest d h (dvd-sub d m h);
}
  where
    back : a + (b - a) ≡ b
    back = omega arith

-- every two numbers have one
pub gcd-exists : (a b : ℕ) → (g : ℕ) × IsGcd a b g
gcd-exists a b = go (suc (a + b)) a b (omega arith)
  where
    less : (n a b : ℕ) → Dec (a < b) → a + b < suc n → ((x y : ℕ) → x + y < n → (g : ℕ) × IsGcd x y g) → (g : ℕ) × IsGcd a b g
    less n zero b d h ih = (b, gcd-zero b)
    less n (suc a) zero d h ih = (suc a, gcd-swap (gcd-zero (suc a)))
    less n (suc a) (suc b) (yes l) h ih = let r = ih (suc a) (suc b - suc a) (omega arith) in (r.0, gcd-less (omega arith) r.1)
    less n (suc a) (suc b) (no l) h ih = let r = ih (suc b) (suc a - suc b) (omega arith) in (r.0, gcd-swap (gcd-less (omega arith) r.1))

    go : (n a b : ℕ) → a + b < n → (g : ℕ) × IsGcd a b g
    go zero a b h = absurd (omega arith)
    go (suc n) a b h = less n a b (dec_lt a b) h (go n)

-- it is 0 only where both numbers are
pub gcd-both-zero : {a b : ℕ} → IsGcd a b 0 → (a ≡ 0) × (b ≡ 0)
gcd-both-zero r = (eq-zero_of_zero-dvd r.left, eq-zero_of_zero-dvd r.right)

-- and where both are, it is
pub gcd-zeros : (g : ℕ) → IsGcd 0 0 g → g ≡ 0
gcd-zeros zero r = refl
gcd-zeros (suc g) r =
    let n : ℕ = suc (suc g) in absurd (omega (arith, le_of_dvd {n = suc g} (omega arith) (r.greatest n (dvd-zero n) (dvd-zero n))))

-- ---- even and odd

parity : (n : ℕ) → (n % 2 ≡ 0) ⊎ (n % 2 ≡ 1)
parity n = go (n % 2) refl
  where
    go : (r : ℕ) → n % 2 ≡ r → (n % 2 ≡ 0) ⊎ (n % 2 ≡ 1)
    go zero e = inl e
    go (suc r) e = inr (omega arith)

-- an odd number that divides twice a number divides the number
odd-half : (d c : ℕ) → d % 2 ≡ 1 → d ∣ c * 2 → d ∣ c
odd-half d c o h = ∥∥₁_elim h (∣_prop d c) (λ s. from s.0 s.1)
  where
    from : (k : ℕ) → c * 2 ≡ d * k → d ∣ c
    from k e = ⊎_elim
        (λ (z : k % 2 ≡ 0). subst (λ m. d ∣ m) (sym (even (whole ∙ ap (λ m. d * (k / 2) * 2 + d * m) z))) (dvd-mul_right d (k / 2)))
        (λ (z : k % 2 ≡ 1). absurd (odd (whole ∙ ap (λ m. d * (k / 2) * 2 + d * m) z)))
        (parity k)
      where
        whole : c * 2 ≡ d * (k / 2) * 2 + d * (k % 2)
        whole =
            e ∙ ap (λ m. d * m) (sym (div-add-mod' k 2)) ∙ mul-add d (k / 2 * 2) (k % 2)
            ∙ ap (λ m. m + d * (k % 2)) (sym (mul_assoc d (k / 2) 2))

        even : c * 2 ≡ d * (k / 2) * 2 + d * 0 → c ≡ d * (k / 2)
        even w = omega (arith, mul-zero d)

        odd : c * 2 ≡ d * (k / 2) * 2 + d * 1 → ⊥
        odd w = omega (arith, mul-one d)

odd_power : (d c k : ℕ) → d % 2 ≡ 1 → d ∣ c * 2 ^ k → d ∣ c
odd_power d c zero o h = subst (λ m. d ∣ m) (mul-one c) h
odd_power d c (suc k) o h =
    odd_power d c k o (odd-half d (c * 2 ^ k) o (subst (λ m. d ∣ m) (ap (λ m. c * m) (pow-suc 2 k) ∙ sym (mul_assoc c (2 ^ k) 2)) h))

-- what divides an odd number is odd
odd-divisor : (d a : ℕ) → a % 2 ≡ 1 → d ∣ a → d % 2 ≡ 1
odd-divisor d a o h = ⊎_elim (λ (z : d % 2 ≡ 0). absurd (even z)) (λ (z : d % 2 ≡ 1). z) (parity d)
  where
    off : (k : ℕ) → a ≡ 2 * k → ⊥
    off k e = omega arith

    half : d % 2 ≡ 0 → d ≡ 2 * (d / 2)
    half z = omega arith

    even : d % 2 ≡ 0 → ⊥
    even z =
        ∥∥₁_elim (dvd_trans 2 (subst (λ m. 2 ∣ m) (sym (half z)) (dvd-mul_right 2 (d / 2))) h) (λ x y. absurd x) (λ s. off s.0 s.1)

-- beside an odd number, factors of two do not count
pub gcd-strip : {a b g : ℕ} (k : ℕ) → a % 2 ≡ 1 → IsGcd a b g → IsGcd a (b * 2 ^ k) g
gcd-strip {a} {b} {g} k o r = record {
  left = r.left;
  right = dvd-mul_right_of_dvd g r.right (2 ^ k);
  greatest = λ d h m. r.greatest d h (odd_power d b k (odd-divisor d a o h) m);
}

gcd-twice : {a b g : ℕ} → IsGcd a b g → IsGcd (a * 2) (b * 2) (g * 2)
gcd-twice {a} {b} {g} r = record {
  left = mul-dvd-mul_right g r.left 2;
  right = mul-dvd-mul_right g r.right 2;
  greatest = λ d h m. ⊎_elim (even d h m)
      (λ (z : d % 2 ≡ 1). dvd-mul_right_of_dvd d (r.greatest d (odd-half d a z h) (odd-half d b z m)) 2) (parity d);
}
  where
    even : (d : ℕ) → d ∣ a * 2 → d ∣ b * 2 → d % 2 ≡ 0 → d ∣ g * 2
    even d h m z =
        let e : d ≡ d / 2 * 2 = omega arith in
        let p = dvd_of_mul-dvd-mul_right {k = 2} (d / 2) {n = a} (lit< tt) (subst (λ x. x ∣ a * 2) e h) in
        let q = dvd_of_mul-dvd-mul_right {k = 2} (d / 2) {n = b} (lit< tt) (subst (λ x. x ∣ b * 2) e m) in
        subst (λ x. x ∣ g * 2) (sym e) (mul-dvd-mul_right (d / 2) (r.greatest (d / 2) p q) 2)

gcd-eq : {a b g x y z : ℕ} → a ≡ x → b ≡ y → g ≡ z → IsGcd a b g → IsGcd x y z
gcd-eq {a} {b} {g} {x} {y} {z} p q s r = subst (λ n. IsGcd x y n) s (subst₂ (λ m n. IsGcd m n g) p q r)

gcd-scaled : {a b g : ℕ} (k : ℕ) → IsGcd a b g → IsGcd (a * 2 ^ k) (b * 2 ^ k) (g * 2 ^ k)
gcd-scaled {a} {b} {g} zero r = gcd-eq (sym (mul-one a)) (sym (mul-one b)) (sym (mul-one g)) r
gcd-scaled {a} {b} {g} (suc k) r = gcd-eq (step a) (step b) (step g) (gcd-twice (gcd-scaled k r))
  where
    step : (x : ℕ) → x * 2 ^ k * 2 ≡ x * 2 ^ suc k
    step x = mul_assoc x (2 ^ k) 2 ∙ ap (λ m. x * m) (sym (pow-suc 2 k))

-- the last step: from the divisor of the odd parts A and B, with the fewer factors of two (64 bits hold it, since they hold a)
pub gcd-last : (a b A B g s t : ℕ) → a ≡ A * 2 ^ s → b ≡ B * 2 ^ t → A % 2 ≡ 1 → IsGcd A B g → s ≤ t → a < 2 ^ 64
    → IsGcd a b (g * 2 ^ s % 2 ^ 64)
gcd-last a b A B g s t p q o r l f =
    subst (λ x. IsGcd a b x) (sym (mod-eq_of_lt fits))
    (subst₂ (λ x y. IsGcd x y (g * 2 ^ s)) (sym p) whole (gcd-scaled s (gcd-strip (t - s) o r)))
  where
    small : g ≤ A
    small = le_of_dvd (omega arith) r.left

    fits : g * 2 ^ s < 2 ^ 64
    fits = lt_of_le_of_lt (mul-le-mul_right (2 ^ s) small) (subst (λ x. x < 2 ^ 64) p f)

    back : t ≡ t - s + s
    back = omega arith

    whole : B * 2 ^ (t - s) * 2 ^ s ≡ b
    whole = mul_assoc B (2 ^ (t - s)) (2 ^ s) ∙ ap (λ x. B * x) (sym (ap (λ x. 2 ^ x) back ∙ pow-add 2 (t - s) s)) ∙ sym q

-- ---- trailing zeros

-- 2 ^ t divides n, and the quotient is odd
pub record Stripped (n t : ℕ) : Type 0 where
  pub odd : n / 2 ^ t % 2 ≡ 1
  pub whole : n ≡ n / 2 ^ t * 2 ^ t

more-zeros : (n t : ℕ) → n % 2 ≡ 0 → Stripped (n / 2) t → Stripped n (suc t)
more-zeros n t even s = record {
  odd = ap (λ x. x % 2) quotient ∙ s.odd;
  whole = half ∙ ap (λ x. x * 2) s.whole ∙ mul_assoc (n / 2 / 2 ^ t) (2 ^ t) 2 ∙ ap (λ x. n / 2 / 2 ^ t * x) (sym (pow-suc 2 t))
      ∙ ap (λ x. x * 2 ^ suc t) (sym quotient);
}
  where
    quotient : n / 2 ^ suc t ≡ n / 2 / 2 ^ t
    quotient = ap (λ x. n / x) (pow-suc 2 t ∙ mul_comm (2 ^ t) 2) ∙ sym (div-div-eq-div-mul n 2 (2 ^ t))

    half : n ≡ n / 2 * 2
    half = omega arith

no-zeros : (n : ℕ) → n % 2 ≡ 1 → Stripped n 0
no-zeros n h = record { odd = ap (λ x. x % 2) (div-one n) ∙ h; whole = sym (mul-one (n / 1) ∙ div-one n) }

pub record TrailingZeros (k n : ℕ) : Type 0 where
  pub below : count_trailing_zeros k n < k
  pub stripped : Stripped n (count_trailing_zeros k n)

pub trailing_zeros : (k n : ℕ) → 0 < n → n < 2 ^ k → TrailingZeros k n
unfolding count_trailing_zeros
trailing_zeros zero n h l = absurd (none n h l)
  where
    none : (n : ℕ) → 0 < n → n < 1 → ⊥
    none n h l = omega arith
trailing_zeros (suc k) n h l = pair (go (n % 2) refl (trailing_zeros k (n / 2)))
  where
    t : ℕ
    t = count_trailing_zeros k (n / 2)

    go : (r : ℕ) → n % 2 ≡ r → (0 < n / 2 → n / 2 < 2 ^ k → TrailingZeros k (n / 2)) → (under r t < suc k) × Stripped n (under r t)
    go zero e ih =
        let b : n < 2 ^ k * 2 = subst (λ x. n < x) (pow-suc 2 k) l in
        let it = ih (omega arith) (omega arith) in
        (omega (arith, it.below), more-zeros n t e it.stripped)
    go (suc r) e ih = (omega arith, no-zeros n (omega arith))

    pair : (under (n % 2) t < suc k) × Stripped n (under (n % 2) t) → TrailingZeros (suc k) n
    pair (b, s) = record { below = b; stripped = s }
