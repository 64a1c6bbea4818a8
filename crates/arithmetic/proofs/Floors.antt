-- Division that rounds down: what is left over, that nothing else is the quotient, division twice, and a common factor.
use mathlib.Core.Path.{◌≡◌, refl, sym, ◌∙◌, ap}
use Prim.Native.Nat.{ℕ, zero, suc, ◌+◌, ◌*◌, ◌-◌, ◌/◌, ◌%◌, ◌<◌}
use native.Mathlib.Nat.{div-add-mod', mod-lt, div-eq_of_lt-le, suc-mul, add-mul, div-div-eq-div-mul, mul-div-mul_left}
use native.Mathlib.Omega.{arith}
use lib.Arith.{digits_div}
use lib.IntN.{ℤ, pos, negsuc, neg_ℤ, ◌+ℤ◌, ◌*ℤ◌}
use Rattle.arithmetic.specs.Integers.{floor_div}
use Rattle.arithmetic.proofs.Sizes.{neg-above}

-- what is left over
abbrev pub remainder : ℤ → ℕ → ℕ
remainder (pos a) m = a % m
remainder (negsuc a) m = m - suc (a % m)

pub remainder-below : (z : ℤ) (m : ℕ) → 0 < m → remainder z m < m
remainder-below (pos a) m h = mod-lt a h
remainder-below (negsuc a) m h = omega (arith, mod-lt a h)

pub floor-split : (z : ℤ) (m : ℕ) → 0 < m → z ≡ floor_div z m *ℤ pos m +ℤ pos (remainder z m)
floor-split (pos a) m h = sym (ap pos (div-add-mod' a m))
floor-split (negsuc a) m h =
    neg-above a (m - suc (a % m)) (suc (a / m) * m) (omega (arith, div-add-mod' a m, mod-lt a h, suc-mul (a / m) m))

floor-of : (q : ℤ) (m r : ℕ) → r < m → floor_div (q *ℤ pos m +ℤ pos r) m ≡ q
floor-of (pos a) m r h = ap pos (div-eq_of_lt-le m (omega arith) (omega (arith, add-mul a 1 m)))
floor-of (negsuc a) m r h =
    let b : ℕ = suc a * m - suc r in
    let s = suc-mul a m in
    let e : suc b + r ≡ suc a * m = omega arith in
    ap (λ z. floor_div z m) (sym (neg-above b r (suc a * m) e)) ∙ ap negsuc (div-eq_of_lt-le m (omega arith) (omega (arith, add-mul a 1 m)))

-- whatever leaves a remainder below m is the quotient
pub floor-unique : (z q : ℤ) (m r : ℕ) → r < m → z ≡ q *ℤ pos m +ℤ pos r → floor_div z m ≡ q
floor-unique z q m r l e = ap (λ z. floor_div z m) e ∙ floor-of q m r l

-- dividing twice is dividing by the product
pub floor-nested : (z : ℤ) (d e : ℕ) → floor_div (floor_div z d) e ≡ floor_div z (d * e)
floor-nested (pos a) d e = ap pos (div-div-eq-div-mul a d e)
floor-nested (negsuc a) d e = ap negsuc (div-div-eq-div-mul a d e)

-- a common factor falls out
pub floor-times : (k d : ℕ) (z : ℤ) → 0 < k → floor_div (pos k *ℤ z) (k * d) ≡ floor_div z d
floor-times k d (pos a) h = ap pos (mul-div-mul_left a d h)
floor-times zero d (negsuc a) h = absurd (omega arith)
floor-times (suc k) d (negsuc a) h = go (suc k * suc a) refl
  where
    go : (m : ℕ) → m ≡ suc k * suc a → floor_div (neg_ℤ (pos m)) (suc k * d) ≡ negsuc (a / d)
    go zero e = absurd (omega arith)
    go (suc n) e =
        ap negsuc (sym (div-div-eq-div-mul n (suc k) d) ∙ ap (λ x. x / d) (ap (λ x. x / suc k) split ∙ digits_div a (omega arith)))
      where
        split : n ≡ a * suc k + k
        split = omega arith
