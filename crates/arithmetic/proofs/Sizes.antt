-- Sizes and signs of whole numbers: of products, sums and differences, and a size with a sign.
use mathlib.Core.Path.{◌≡◌, refl, sym, ◌∙◌, ap, subst}
use mathlib.Core.Bool.{Bool, true, false}
use Prim.Native.Nat.{ℕ, zero, suc, ◌+◌, ◌*◌, ◌-◌, ◌≤◌, ◌<◌}
use native.Mathlib.Nat.{eq_of_mul-eq-mul_left, mul-pos, zero-lt-suc, le_refl, mul-le-mul, lt_of_not-le}
use native.Mathlib.Omega.{arith}
use lib.Dec.{T, eqb→eq, eqb_refl, ltb, ltb→lt, nltb→le}
use lib.IntN.{ℤ, pos, negsuc, neg_ℤ, nat_abs, ◌+ℤ◌, ◌-ℤ◌, ◌*ℤ◌, neg_ℤ-neg_ℤ, neg_ℤ-+ℤ, +ℤ_comm, -ℤ-+ℤ_cancel, pos-ne-negsuc}
use lib.Signed.{non_neg}
use Rattle.arithmetic.specs.Integers.{natural, with_sign_of, is_positive, is_negative, equalℤ}
use Rattle.arithmetic.proofs.Integers.{neg-mul}

-- ---- sizes

pub pos_inj : (a b : ℕ) → pos a ≡ pos b → a ≡ b
pos_inj a b p = ap nat_abs p

pub nat_abs-neg : (z : ℤ) → nat_abs (neg_ℤ z) ≡ nat_abs z
nat_abs-neg (pos zero) = refl
nat_abs-neg (pos (suc n)) = refl
nat_abs-neg (negsuc n) = refl

pub neg_small : {n : ℕ} (z : ℤ) → nat_abs z ≤ n → nat_abs (neg_ℤ z) ≤ n
neg_small {n} z h = subst (λ m. m ≤ n) (sym (nat_abs-neg z)) h

pub nat_abs_mul : (x y : ℤ) → nat_abs (x *ℤ y) ≡ nat_abs x * nat_abs y
nat_abs_mul (pos a) (pos b) = refl
nat_abs_mul (pos a) (negsuc b) = nat_abs-neg (pos (a * suc b))
nat_abs_mul (negsuc a) (pos b) = nat_abs-neg (pos (suc a * b))
nat_abs_mul (negsuc a) (negsuc b) = refl

pub nat_abs-zero : (x : ℤ) → nat_abs x ≡ 0 → x ≡ pos 0
nat_abs-zero (pos n) e = ap pos e
nat_abs-zero (negsuc n) e = absurd (omega arith)

pub nat_abs-natural : (x : ℤ) → T (non_neg x) → nat_abs x ≡ natural x
nat_abs-natural (pos n) t = refl
nat_abs-natural (negsuc n) t = absurd t

-- a square is that of the size
pub square : (x : ℤ) → x *ℤ x ≡ pos (nat_abs x * nat_abs x)
square (pos n) = refl
square (negsuc n) = refl

pub square-of : {a b : ℕ} → a ≡ b → a * a ≡ b * b
square-of e = ap (λ n. n * n) e

-- the greater square has the greater root
pub root-strictly : (a b : ℕ) → a * a < b * b → a < b
root-strictly a b h = lt_of_not-le (λ l. let g : b * b ≤ a * a = mul-le-mul l l in omega arith)

pub root_below : (a b : ℕ) → a * a ≤ b * b → a ≤ b
root_below a b h = let m = root-strictly a (suc b) (omega arith) in omega arith

-- ---- differences of natural numbers

pub data Difference (a b : ℕ) : Type 0 where
  below : a < b → pos a -ℤ pos b ≡ negsuc (b - suc a) → Difference a b
  above : b ≤ a → pos a -ℤ pos b ≡ pos (a - b) → Difference a b

pub difference-cases : (a b : ℕ) → Difference a b
difference-cases a zero = above (omega arith) (ap pos (omega arith))
difference-cases a (suc b) = go (ltb a (suc b)) refl
  where
    go : (t : Bool) → ltb a (suc b) ≡ t → Difference a (suc b)
    go true e = below (ltb→lt a (suc b) (rw e tt)) (rw e)
    go false e = above (nltb→le a (suc b) (rw e tt)) (rw e)

pub pos-sub : (a b : ℕ) → b ≤ a → pos a -ℤ pos b ≡ pos (a - b)
pos-sub a b h = go (difference-cases a b)
  where
    go : Difference a b → pos a -ℤ pos b ≡ pos (a - b)
    go (below l e) = absurd (omega arith)
    go (above l e) = e

-- two natural numbers that lie within D of each other
pub difference-small : (a b D : ℕ) → a ≤ b + D → b ≤ a + D → nat_abs (pos a -ℤ pos b) ≤ D
difference-small a b D h k = go (difference-cases a b)
  where
    go : Difference a b → nat_abs (pos a -ℤ pos b) ≤ D
    go (below l e) = rw e (omega arith)
    go (above l e) = rw e (omega arith)

-- −(a + 1) is −Q with what is missing added
pub neg-above : (a r Q : ℕ) → suc a + r ≡ Q → negsuc a ≡ neg_ℤ (pos Q) +ℤ pos r
neg-above a r Q e =
    sym (-ℤ-+ℤ_cancel (negsuc a) (pos r)) ∙ ap (λ z. z +ℤ pos r) (sym (neg_ℤ-+ℤ (pos (suc a)) (pos r)) ∙ ap (λ n. neg_ℤ (pos n)) e)

neg-pos : (n : ℕ) → 0 < n → neg_ℤ (pos n) ≡ negsuc (n - 1)
neg-pos zero h = absurd (omega arith)
neg-pos (suc n) h = ap negsuc (omega arith)

-- b − a is the opposite of a − b
pub difference-neg : (a b c d : ℕ) → a + c ≡ b + d → pos a -ℤ pos b ≡ neg_ℤ (pos c -ℤ pos d)
difference-neg a b c d h = go (difference-cases a b) (difference-cases c d)
  where
    go : Difference a b → Difference c d → pos a -ℤ pos b ≡ neg_ℤ (pos c -ℤ pos d)
    go (below p e) (below q f) = absurd (omega arith)
    go (below p e) (above q f) = rw (e, f, neg-pos (c - d) (omega arith)) (ap negsuc (omega arith))
    go (above p e) (below q f) = rw (e, f) (ap pos (omega arith))
    go (above p e) (above q f) = e ∙ ap pos zero_left ∙ sym (ap neg_ℤ (f ∙ ap pos zero_right))
      where
        zero_left : a - b ≡ 0
        zero_left = omega arith

        zero_right : c - d ≡ 0
        zero_right = omega arith

-- differences from one number tell two numbers apart
pub difference-inj : (a b c : ℕ) → pos a -ℤ pos c ≡ pos b -ℤ pos c → a ≡ b
difference-inj a b c h = pos_inj a b (sym (-ℤ-+ℤ_cancel (pos a) (pos c)) ∙ ap (λ z. z +ℤ pos c) h ∙ -ℤ-+ℤ_cancel (pos b) (pos c))

-- ---- sums

pub nat_abs-add : (x y : ℤ) → nat_abs (x +ℤ y) ≤ nat_abs x + nat_abs y
nat_abs-add (pos a) (pos b) = le_refl (a + b)
nat_abs-add (pos a) (negsuc b) = difference-small a (suc b) (a + suc b) (omega arith) (omega arith)
nat_abs-add (negsuc a) (pos b) = difference-small b (suc a) (suc a + b) (omega arith) (omega arith)
nat_abs-add (negsuc a) (negsuc b) = omega arith

-- a number of size at most e, with e added, is a natural number
pub record Lifted (z : ℤ) (e : ℕ) : Type 0 where
  pub lift : ℕ
  pub is : z +ℤ pos e ≡ pos lift
  pub low : e ≤ lift + nat_abs z
  pub high : lift ≤ e + nat_abs z

pub lifted : (z : ℤ) (e : ℕ) → nat_abs z ≤ e → Lifted z e
lifted (pos a) e h = record { lift = a + e; is = refl; low = omega arith; high = omega arith }
lifted (negsuc a) e h =
    record { lift = e - suc a; is = +ℤ_comm (negsuc a) (pos e) ∙ pos-sub e (suc a) h; low = omega arith; high = omega arith }

-- ---- signs

-- a number is its size, or the opposite of its size
pub data Signed (x : ℤ) (n : ℕ) : Type 0 where
  plus : x ≡ pos n → Signed x n
  minus : x ≡ neg_ℤ (pos n) → Signed x n

pub signed : (x : ℤ) → Signed x (nat_abs x)
signed (pos n) = plus refl
signed (negsuc n) = minus refl

pub signed-neg : {x : ℤ} {n : ℕ} → Signed x n → Signed (neg_ℤ x) n
signed-neg (plus e) = minus (ap neg_ℤ e)
signed-neg {n = n} (minus e) = plus (ap neg_ℤ e ∙ neg_ℤ-neg_ℤ (pos n))

-- a number that is not negative is the opposite of another only where both are 0
pub pos-neg : (m n : ℕ) → pos m ≡ neg_ℤ (pos n) → n ≡ 0
pos-neg m zero e = refl
pos-neg m (suc n) e = absurd (pos-ne-negsuc m n e)

pub sign-size : (z : ℤ) (c : ℕ) → nat_abs (with_sign_of z c) ≡ c
sign-size (pos n) c = refl
sign-size (negsuc n) c = nat_abs-neg (pos c)

-- a number is its size with its own sign
pub own_sign : (z : ℤ) → with_sign_of z (nat_abs z) ≡ z
own_sign (pos n) = refl
own_sign (negsuc n) = refl

-- a natural factor leaves the sign
pub sign-mul : (z : ℤ) (c k : ℕ) → with_sign_of z c *ℤ pos k ≡ with_sign_of z (c * k)
sign-mul (pos n) c k = refl
sign-mul (negsuc n) c k = neg-mul (pos c) (pos k)

-- a function of sizes that takes 0 to 0 gives opposite numbers opposite values
pub sign-neg : (f : ℕ → ℕ) → f 0 ≡ 0 → (x : ℤ) → with_sign_of (neg_ℤ x) (f (nat_abs (neg_ℤ x))) ≡ neg_ℤ (with_sign_of x (f (nat_abs x)))
sign-neg f e (pos zero) = rw e
sign-neg f e (pos (suc n)) = refl
sign-neg f e (negsuc n) = sym (neg_ℤ-neg_ℤ (pos (f (suc n))))

pub positive-size : (z : ℤ) → T (is_positive z) → 0 < nat_abs z
positive-size (pos zero) t = absurd t
positive-size (pos (suc n)) t = omega arith
positive-size (negsuc n) t = absurd t

pub negative-size : (z : ℤ) → T (is_negative z) → 0 < nat_abs z
negative-size (pos n) t = absurd t
negative-size (negsuc n) t = omega arith

pub positive-is : (z : ℤ) → T (is_positive z) → z ≡ pos (nat_abs z)
positive-is (pos n) t = refl
positive-is (negsuc n) t = absurd t

pub negative-is : (z : ℤ) → T (is_negative z) → z ≡ neg_ℤ (pos (nat_abs z))
negative-is (pos n) t = absurd t
negative-is (negsuc n) t = refl

-- a number that is neither positive nor negative
pub no_sign : (z : ℤ) → (T (is_positive z) → ⊥) → (T (is_negative z) → ⊥) → nat_abs z ≡ 0
no_sign (pos zero) p n = refl
no_sign (pos (suc m)) p n = absurd (p tt)
no_sign (negsuc m) p n = absurd (n tt)

pub positive-pos : (s : ℕ) → 0 < s → is_positive (pos s) ≡ true
positive-pos zero h = absurd (omega arith)
positive-pos (suc s) h = refl

pub positive-neg : (s : ℕ) → is_positive (neg_ℤ (pos s)) ≡ false
positive-neg zero = refl
positive-neg (suc s) = refl

pub negative-neg : (s : ℕ) → 0 < s → is_negative (neg_ℤ (pos s)) ≡ true
negative-neg zero h = absurd (omega arith)
negative-neg (suc s) h = refl

-- a positive factor leaves the sign
pub positive-times : (k : ℕ) (x : ℤ) → 0 < k → is_positive (pos k *ℤ x) ≡ is_positive x
positive-times k (pos zero) h = ap (λ n. is_positive (pos n)) (nothing k)
  where
    nothing : (k : ℕ) → k * 0 ≡ 0
    nothing k = omega arith
positive-times k (pos (suc n)) h = positive-pos (k * suc n) (mul-pos h (zero-lt-suc n))
positive-times k (negsuc n) h = positive-neg (k * suc n)

pub negative-times : (k : ℕ) (x : ℤ) → 0 < k → is_negative (pos k *ℤ x) ≡ is_negative x
negative-times k (pos n) h = refl
negative-times k (negsuc n) h = negative-neg (k * suc n) (mul-pos h (zero-lt-suc n))

-- ---- cancelling a factor

size-cancel : (k : ℕ) (x y : ℤ) → 0 < k → pos k *ℤ x ≡ pos k *ℤ y → nat_abs x ≡ nat_abs y
size-cancel k x y h e =
    eq_of_mul-eq-mul_left k h (nat_abs x) (nat_abs y) (sym (nat_abs_mul (pos k) x) ∙ ap nat_abs e ∙ nat_abs_mul (pos k) y)

pub mul-cancel : (k : ℕ) (x y : ℤ) → 0 < k → pos k *ℤ x ≡ pos k *ℤ y → x ≡ y
mul-cancel k (pos a) (pos b) h e = ap pos (size-cancel k (pos a) (pos b) h e)
mul-cancel k (pos a) (negsuc b) h e = absurd (omega (arith, mul-pos h (zero-lt-suc b), pos-neg (k * a) (k * suc b) e))
mul-cancel k (negsuc a) (pos b) h e = absurd (omega (arith, mul-pos h (zero-lt-suc a), pos-neg (k * b) (k * suc a) (sym e)))
mul-cancel k (negsuc a) (negsuc b) h e = ap (λ n. neg_ℤ (pos n)) (size-cancel k (negsuc a) (negsuc b) h e)

-- ---- the test of equality

pub equalℤ→eq : (x y : ℤ) → T (equalℤ x y) → x ≡ y
equalℤ→eq (pos m) (pos n) t = ap pos (eqb→eq m n t)
equalℤ→eq (pos m) (negsuc n) t = absurd t
equalℤ→eq (negsuc m) (pos n) t = absurd t
equalℤ→eq (negsuc m) (negsuc n) t = ap negsuc (eqb→eq m n t)

pub equalℤ-refl : (x : ℤ) → T (equalℤ x x)
equalℤ-refl (pos n) = eqb_refl n
equalℤ-refl (negsuc n) = eqb_refl n
